-- The next block of an object belongs to the next object. The number of objects in the tags is small.
use Rattle.segment_manager.proofs.objects.walking_objects.ObjectsIterator.next.Goals as goal
use Rattle.segment_manager.proofs.Common.{IsSegment, None, Some, arith, refl, rules, subst, sym, ◌+◌}
use Rattle.segment_manager.proofs.blocks.OwnBlocks.{block-at, none-left, owner-counts, owner-few, owner-here}
use Rattle.segment_manager.proofs.blocks.OwnBlocks.{owner-says, owner-short}
use Rattle.segment_manager.specs.indexes.Iterating.{GoesOnObjects, ObjectWalk}

pub overflow_add-self : goal.overflow_add-self
overflow_add-self c =
    let segment : IsSegment _ = subst IsSegment c.as_bytes.ensures.bytes c.as_bytes.ensures.denotation in
    omega (arith, (owner-few (block-at c.self.invariant c.next_own.ensures c.in_ok-block.was) segment))

pub overflow_add-block : goal.overflow_add-block
overflow_add-block c =
    let segment : IsSegment _ = subst IsSegment c.as_bytes.ensures.bytes c.as_bytes.ensures.denotation in
    omega (arith, (owner-short (block-at c.self.invariant c.next_own.ensures c.in_ok-block.was) segment))

pub instance_here-requires : goal.instance_here-requires
instance_here-requires c =
    owner-here (block-at c.self.invariant c.next_own.ensures c.in_ok-block.was) (c.in_ok-block.block.offset + 16) refl

pub returns-in_err-block-clause-steps : goal.returns-in_err-block-clause-steps
returns-in_err-block-clause-steps c =
    let w = c.self.inside in let s : ObjectWalk = record { segment = w.segment.now; at = w.at } in
    let none : GoesOnObjects s None s = record {
      segment = refl;
      place = refl;
      says = none-left c.self.invariant c.next_own.ensures c.in_err-block.was;
    } in
    subst (λ (t : ObjectWalk). GoesOnObjects t c.from_residual.result s) c.self.view_is
    (subst (λ r. GoesOnObjects s r s) (sym c.from_residual.ensures) none)

pub returns-clause-steps : goal.returns-clause-steps
returns-clause-steps c =
    let w = c.self.inside in let old : ObjectWalk = record { segment = w.segment.now; at = w.at } in
    let new : ObjectWalk = record { segment = w.segment.now; at = w.at + 1 } in
    let goes : GoesOnObjects old (Some c.instance_here.result) new = record {
      segment = refl;
      place = refl;
      says = owner-says (block-at c.self.invariant c.next_own.ensures c.in_ok-block.was)
          (c.in_ok-block.block.offset + 16) refl c.instance_here.ensures;
    } in
    subst (λ (t : ObjectWalk). GoesOnObjects t (Some c.instance_here.result) new) c.self.view_is goes

pub returns-clause-goes : goal.returns-clause-goes
returns-clause-goes c =
    let w = c.self.inside in
    let segment : IsSegment w.segment.now.cut.bytes =
    subst IsSegment c.as_bytes.ensures.bytes c.as_bytes.ensures.denotation in
    let below = owner-counts (block-at c.self.invariant c.next_own.ensures c.in_ok-block.was) segment in
    search rules
