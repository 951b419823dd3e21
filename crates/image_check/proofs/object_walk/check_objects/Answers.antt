-- The entries are looked at once all objects are right by themselves.
use Rattle.image_check.proofs.Common.{arith, bytes_of, inl, inr}
use Rattle.image_check.specs.Passes.{tiles_in}
use Rattle.image_check.proofs.objects.AllObjects.{heads-of, named-index, right-from, unique-index, weights-sum}
use Rattle.image_check.proofs.objects.AllObjects.{wrong-named, wrong-tiles, wrong-unique}
use Rattle.image_check.proofs.object_walk.check_objects.Goals as goal

pub returns-in-Err-clause-verdict : goal.returns-in-Err-clause-verdict
returns-in-Err-clause-verdict c =
    let b = c.args.window.now.bytes in
    let e = c.in-Err.ensures.verdict in
    (wrong-tiles c.args.format (bytes_of b) (tiles_in b) e.0, inl e.1)

pub returns-in-Err-clause-visits : goal.returns-in-Err-clause-visits
returns-in-Err-clause-visits c = let s = weights-sum (tiles_in c.args.window.now.bytes) in let a =
    c.are_right.ensures.visits in (omega arith, omega arith)

pub has_order-requires-clause-heads : goal.has_order-requires-clause-heads
has_order-requires-clause-heads c =
    let w = c.args.window.now in
    heads-of c.args.format w 32 c.requires.tiles
    (named-index (bytes_of w.bytes) (tiles_in w.bytes) c.requires.indexes) c.in_default.ensures.verdict

pub returns-in-Err-has_order-clause-verdict : goal.returns-in-Err-has_order-clause-verdict
returns-in-Err-has_order-clause-verdict c =
    let b = c.args.window.now.bytes in
    let e = c.in-Err-has_order.ensures.verdict in
    (wrong-named c.args.format (bytes_of b) (tiles_in b) e.0, inr (c.in_default.ensures.verdict, inl e.1))

pub returns-in-Err-has_order-clause-visits : goal.returns-in-Err-has_order-clause-visits
returns-in-Err-has_order-clause-visits c =
    let s = weights-sum (tiles_in c.args.window.now.bytes) in let a = c.are_right.ensures.visits in let d =
    c.has_order.ensures.visits in (omega arith, omega arith)

pub has_order-requires-2-clause-heads : goal.has_order-requires-2-clause-heads
has_order-requires-2-clause-heads c =
    let w = c.args.window.now in
    heads-of c.args.format w 56 c.requires.tiles
    (unique-index (bytes_of w.bytes) (tiles_in w.bytes) c.requires.indexes) c.in_default.ensures.verdict

pub returns-in-Err-has_order-2-clause-verdict : goal.returns-in-Err-has_order-2-clause-verdict
returns-in-Err-has_order-2-clause-verdict c =
    let b = c.args.window.now.bytes in
    let e = c.in-Err-has_order-2.ensures.verdict in (
      wrong-unique c.args.format (bytes_of b) (tiles_in b) e.0,
      inr (c.in_default.ensures.verdict, inr (c.in_default-has_order.ensures.verdict, e.1)),
    )

pub returns-in-Err-has_order-2-clause-visits : goal.returns-in-Err-has_order-2-clause-visits
returns-in-Err-has_order-2-clause-visits c =
    let s = weights-sum (tiles_in c.args.window.now.bytes) in
    let a = c.are_right.ensures.visits in let d = c.has_order.ensures.visits in let e = c.has_order-2.ensures.visits in
    (omega arith, omega arith)

pub returns-clause-verdict : goal.returns-clause-verdict
returns-clause-verdict c =
    let b = c.args.window.now.bytes in
    right-from c.args.format (bytes_of b) (tiles_in b) c.in_default.ensures.verdict
    c.in_default-has_order.ensures.verdict c.in_default-has_order-2.ensures.verdict

pub returns-clause-visits : goal.returns-clause-visits
returns-clause-visits c =
    let s = weights-sum (tiles_in c.args.window.now.bytes) in
    let a = c.are_right.ensures.visits in let d = c.has_order.ensures.visits in let e = c.has_order-2.ensures.visits in
    (omega arith, omega arith)
