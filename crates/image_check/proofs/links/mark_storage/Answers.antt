use Rattle.image_check.proofs.Common.{IsStorageNoted, MarksLink, None, Storage, arith, bytes_of, owner, refl, subst}
use Rattle.image_check.proofs.Common.{◌+◌, ◌<◌}
use Rattle.raw_region.specs.Memory.{word_at}
use Rattle.image_check.specs.Passes.{tiles_in}
use Rattle.image_check.specs.Sharing.{state_of}
use Rattle.image_check.proofs.shared_blocks.Worklist.{map-marked}
use Rattle.image_check.proofs.shared_blocks.Links.{Marks, few-wait, marked-storage}
use mathlib.Core.Logic.{inl}
use Rattle.image_check.proofs.links.mark_storage.Goals as goal

pub mark-requires-clause-no_overflow : goal.mark-requires-clause-no_overflow
mark-requires-clause-no_overflow g c =
    few-wait g.format c.args.window.now.bytes (state_of c.args.owners.now) c.requires.0 c.requires.1.0

pub returns-clause-mark : goal.returns-clause-mark
returns-clause-mark g c =
    let b = c.args.window.now.bytes in
    let at = c.args.value.at in
    let o = state_of c.args.owners.now in
    let n = state_of c.mark.new.owners in
    let some : 0 < word_at (bytes_of b) (at + 16) = let e = c.capacity.ensures in let d = c.if-capacity-eq0.false
    in omega (arith, e, d) in
    let start = c.requires.1.1.1.1 some in
    let marks = subst (Marks g.format b Storage c.link.result o n c.mark.result) c.at-at.ensures
    (c.mark.ensures.marks g.format (bytes_of b) (tiles_in b) None c.requires.1.0) in
    map-marked (MarksLink g.format (bytes_of b) (tiles_in b) None Storage (owner at at) o n)
    (IsStorageNoted g.format b at o n) g.format b c.mark.result (marked-storage g.format b o n at)
    (marks c.link.ensures start.1 (inl (start.0, refl)))
