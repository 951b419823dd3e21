-- The first pass that fails gives the class, and all passes together stay within their bounds.
use Rattle.image_check.proofs.Common.{IsFirstWrongTile, IsSharedAt, bytes_of, counted_fields, has_container}
use Rattle.image_check.proofs.Common.{is_orphaned, not, refl, true, ◌≡◌}
use Rattle.image_check.specs.Fields.{is_left}
use Rattle.image_check.specs.IndexOffsets.{IsWrongIndex}
use Rattle.image_check.specs.ObjectOffsets.{IsFirstTile, IsWrongObject}
use Rattle.image_check.specs.Passes.{tiles_in}
use Rattle.image_check.specs.Visits.{both, container_rates, index_rates, object_rates, used_rates, sharing_rates}
use Rattle.image_check.proofs.budget.Visits.{spend-both, spend-less}
use Rattle.image_check.proofs.frame.WholeCheck.{blocks-class, frame-tiles, late-container, late-index, late-none}
use Rattle.image_check.proofs.frame.WholeCheck.{late-object, late-orphan, late-shared, of-tiles}
use Rattle.image_check.proofs.shared_blocks.Worklist.{of-err, of-ok}
use Rattle.image_check.proofs.checking.check_blocks.Goals as goal

pub check_indexes-requires-clause-tiles : goal.check_indexes-requires-clause-tiles
check_indexes-requires-clause-tiles c = frame-tiles c.args.format c.args.window.now.bytes c.requires.frame

pub check_objects-requires-clause-tiles : goal.check_objects-requires-clause-tiles
check_objects-requires-clause-tiles c = frame-tiles c.args.format c.args.window.now.bytes c.requires.frame

pub check_objects-requires-clause-rows : goal.check_objects-requires-clause-rows
check_objects-requires-clause-rows c = c.in_default.ensures.unmarked.frame

pub check_sharing-requires : goal.check_sharing-requires
check_sharing-requires c = (
  frame-tiles c.args.format c.args.window.now.bytes c.requires.frame,
  (
    refl,
    (
      c.in_default-check_objects.ensures.verdict,
      (c.in_default.ensures.unmarked, (c.in_default.ensures.pending, c.in_default.ensures.waiting)),
    ),
  ),
)

pub check_containers-requires-clause-tiles : goal.check_containers-requires-clause-tiles
check_containers-requires-clause-tiles c = frame-tiles c.args.format c.args.window.now.bytes c.requires.frame

pub check_containers-requires-clause-aligned : goal.check_containers-requires-clause-aligned
check_containers-requires-clause-aligned c = c.in_default-check_sharing.ensures.contents

pub returns-in-Err-clause-verdict : goal.returns-in-Err-clause-verdict
returns-in-Err-clause-verdict c =
    let b = c.args.window.now.bytes in
    let e = c.in-Err.ensures.verdict in (
      blocks-class c.args.format b c.requires.frame _ (late-index c.args.format b e.0),
      of-tiles c.args.format b c.requires.frame (λ ts. IsWrongIndex (bytes_of b) ts c.in-Err.place) e.1,
    )

pub returns-in-Err-clause-visits : goal.returns-in-Err-clause-visits
returns-in-Err-clause-visits c =
    spend-less c.args.window.now.bytes index_rates
    (both object_rates (both sharing_rates (both container_rates used_rates))) 10 52 _ _ c.in-Err.ensures.visits

pub returns-in-Err-check_objects-clause-verdict : goal.returns-in-Err-check_objects-clause-verdict
returns-in-Err-check_objects-clause-verdict c =
    let b = c.args.window.now.bytes in
    let e = c.in-Err-check_objects.ensures.verdict in (
      blocks-class c.args.format b c.requires.frame _ (late-object c.args.format b c.in_default.ensures.verdict e.0),
      of-tiles c.args.format b c.requires.frame (λ ts.
          IsWrongObject c.args.format (bytes_of b) ts c.in-Err-check_objects.place) e.1,
    )

pub returns-in-Err-check_objects-clause-visits : goal.returns-in-Err-check_objects-clause-visits
returns-in-Err-check_objects-clause-visits c =
    let b = c.args.window.now.bytes in
    spend-both b index_rates (both object_rates (both sharing_rates (both container_rates used_rates))) 10 52 _ _
    _ c.in_default.ensures.visits
    (spend-less b object_rates (both sharing_rates (both container_rates used_rates)) 10 42 _ _
    c.in-Err-check_objects.ensures.visits)

pub returns-in-Err-check_sharing-clause-verdict : goal.returns-in-Err-check_sharing-clause-verdict
returns-in-Err-check_sharing-clause-verdict c =
    let b = c.args.window.now.bytes in
    let e = c.in-Err-check_sharing.ensures.verdict in (
      blocks-class c.args.format b c.requires.frame _
          (late-shared c.args.format b c.in_default.ensures.verdict c.in_default-check_objects.ensures.verdict e.0),
      of-tiles c.args.format b c.requires.frame (λ ts.
          IsSharedAt c.args.format (bytes_of b) ts c.in-Err-check_sharing.place) e.1,
    )

pub returns-in-Err-check_sharing-clause-visits : goal.returns-in-Err-check_sharing-clause-visits
returns-in-Err-check_sharing-clause-visits c =
    let b = c.args.window.now.bytes in
    spend-both b index_rates (both object_rates (both sharing_rates (both container_rates used_rates))) 10 52 _ _
    _ c.in_default.ensures.visits
    (spend-both b object_rates (both sharing_rates (both container_rates used_rates)) 10 42 _ _ _
    c.in_default-check_objects.ensures.visits
    (spend-less b sharing_rates (both container_rates used_rates) 20 22 _ _ c.in-Err-check_sharing.ensures.visits))

pub returns-in-Err-check_containers-clause-verdict : goal.returns-in-Err-check_containers-clause-verdict
returns-in-Err-check_containers-clause-verdict c =
    let b = c.args.window.now.bytes in
    let e = c.in-Err-check_containers.ensures.verdict in (
      blocks-class c.args.format b c.requires.frame _
          (late-container c.args.format b c.in_default.ensures.verdict c.in_default-check_objects.ensures.verdict
          c.in_default-check_sharing.ensures.verdict e.0),
      of-tiles c.args.format b c.requires.frame (λ ts.
          IsFirstWrongTile (has_container c.args.format (bytes_of b) ts) ts c.in-Err-check_containers.place) e.1,
    )

pub returns-in-Err-check_orphans-clause-verdict : goal.returns-in-Err-check_orphans-clause-verdict
returns-in-Err-check_orphans-clause-verdict c =
    let b = c.args.window.now.bytes in
    let e = of-err (λ done. not (is_orphaned c.args.format (bytes_of b) (tiles_in b))
    ≡ true) _ c.check_orphans.result c.in-Err-check_orphans.place c.in-Err-check_orphans.is
    (c.check_orphans.ensures.verdict c.args.format c.args.window.now (frame-tiles c.args.format b c.requires.frame)
    c.in_default-check_sharing.ensures.contents) in (
      blocks-class c.args.format b c.requires.frame _
          (late-orphan c.args.format b c.in_default.ensures.verdict c.in_default-check_objects.ensures.verdict
          c.in_default-check_sharing.ensures.verdict c.in_default-check_containers.ensures.verdict e.0),
      of-tiles c.args.format b c.requires.frame (λ ts.
          IsFirstTile (is_left (counted_fields c.args.format (bytes_of b) ts)) ts c.in-Err-check_orphans.place) e.1,
    )

pub returns-in-Err-check_containers-clause-visits : goal.returns-in-Err-check_containers-clause-visits
returns-in-Err-check_containers-clause-visits c =
    let b = c.args.window.now.bytes in
    spend-both b index_rates (both object_rates (both sharing_rates (both container_rates used_rates))) 10 52 _ _
    _ c.in_default.ensures.visits
    (spend-both b object_rates (both sharing_rates (both container_rates used_rates)) 10 42 _ _ _
    c.in_default-check_objects.ensures.visits
    (spend-both b sharing_rates (both container_rates used_rates) 20 22 _ _ _
    c.in_default-check_sharing.ensures.visits
    (spend-less b container_rates used_rates 20 2 _ _ c.in-Err-check_containers.ensures.visits)))

pub returns-clause-verdict : goal.returns-clause-verdict
returns-clause-verdict c =
    let b = c.args.window.now.bytes in
    let o = of-ok (λ done. not (is_orphaned c.args.format (bytes_of b) (tiles_in b))
    ≡ true) _ c.check_orphans.result _ c.in_default-check_orphans.is
    (c.check_orphans.ensures.verdict c.args.format c.args.window.now (frame-tiles c.args.format b c.requires.frame)
    c.in_default-check_sharing.ensures.contents) in
    blocks-class c.args.format b c.requires.frame _
    (late-none c.args.format b c.in_default.ensures.verdict c.in_default-check_objects.ensures.verdict
    c.in_default-check_sharing.ensures.verdict c.in_default-check_containers.ensures.verdict o)

pub returns-clause-visits : goal.returns-clause-visits
returns-clause-visits c =
    let b = c.args.window.now.bytes in
    spend-both b index_rates (both object_rates (both sharing_rates (both container_rates used_rates))) 10 52 _ _
    _ c.in_default.ensures.visits
    (spend-both b object_rates (both sharing_rates (both container_rates used_rates)) 10 42 _ _ _
    c.in_default-check_objects.ensures.visits
    (spend-both b sharing_rates (both container_rates used_rates) 20 22 _ _ _
    c.in_default-check_sharing.ensures.visits
    (spend-both b container_rates used_rates 20 2 _ _ _ c.in_default-check_containers.ensures.visits
    (c.check_orphans.ensures.visits b (frame-tiles c.args.format b c.requires.frame)
    c.in_default-check_sharing.ensures.contents.marking.frame))))

pub returns-clause-frame : goal.returns-clause-frame
returns-clause-frame c = c.in_default-check_sharing.ensures.contents.marking.frame

pub returns-in-Err-check_orphans-clause-visits : goal.returns-in-Err-check_orphans-clause-visits
returns-in-Err-check_orphans-clause-visits c =
    let b = c.args.window.now.bytes in
    spend-both b index_rates (both object_rates (both sharing_rates (both container_rates used_rates))) 10 52 _ _
    _ c.in_default.ensures.visits
    (spend-both b object_rates (both sharing_rates (both container_rates used_rates)) 10 42 _ _ _
    c.in_default-check_objects.ensures.visits
    (spend-both b sharing_rates (both container_rates used_rates) 20 22 _ _ _
    c.in_default-check_sharing.ensures.visits
    (spend-both b container_rates used_rates 20 2 _ _ _ c.in_default-check_containers.ensures.visits
    (c.check_orphans.ensures.visits b (frame-tiles c.args.format b c.requires.frame)
    c.in_default-check_sharing.ensures.contents.marking.frame))))
