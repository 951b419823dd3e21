-- The first pair is taken, and the others are left.
use Rattle.std.proofs.Common.{sym, ◌∙◌}
use Rattle.segment_views.proofs.maps.Bounds.{range-empty}
use Rattle.segment_views.proofs.maps.RangeReads.{fewer, finds-none, finds-one, first-left, no-pair, node-left}
use Rattle.segment_views.proofs.maps.RangeReads.{none-left, rest-left}
use Rattle.segment_views.proofs.maps.BoundItemsPairsIterator.next.Goals as goal

pub pair_of-requires : goal.pair_of-requires
pair_of-requires g c = node-left c.self.invariant g.K.Scalar.whole g.V.Scalar.whole c.list.new.self c.list.ensures.nodes
    (sym c.first.ensures ∙ c.in_ok-first.was)

pub returns-in_err-first-clause-steps : goal.returns-in_err-first-clause-steps
returns-in_err-first-clause-steps g c =
    let kw = g.K.Scalar.whole in let vw = g.V.Scalar.whole in
    rw (c.from_residual.ensures, ← c.self.view_is) (finds-none c.self.invariant kw vw (none-left c.self.invariant kw vw
    (c.list.ensures.empty (range-empty c.list.new.self (sym c.first.ensures ∙ c.in_err-first.was)))))

pub returns-in_err-pair-clause-steps : goal.returns-in_err-pair-clause-steps
returns-in_err-pair-clause-steps g c =
    let kw = g.K.Scalar.whole in let vw = g.V.Scalar.whole in
    rw (c.from_residual-in_err-pair.ensures, ← c.self.view_is) (finds-none c.self.invariant kw vw
    (no-pair c.self.invariant kw vw c.list.new.self c.list.ensures.nodes (sym c.first.ensures ∙ c.in_ok-first.was)
    c.pair_of.result c.pair_of.ensures c.in_err-pair.was))

pub returns-then-not-is_up_to-clause-steps : goal.returns-then-not-is_up_to-clause-steps
returns-then-not-is_up_to-clause-steps g c =
    let kw = g.K.Scalar.whole in let vw = g.V.Scalar.whole in
    let first = first-left c.self.invariant kw vw c.list.new.self c.list.ensures.nodes
    (sym c.first.ensures ∙ c.in_ok-first.was) c.pair_of.result c.pair_of.ensures c.in_ok-pair.was
    c.if-not-is_up_to.ensures in
    rw (← c.self.view_is) (finds-none c.self.invariant kw vw first)

pub invariant_of-self-2 : goal.invariant_of-self-2
invariant_of-self-2 g c =
    let kw = g.K.Scalar.whole in let vw = g.V.Scalar.whole in
    let at = sym c.first.ensures ∙ c.in_ok-first.was in
    let first = first-left c.self.invariant kw vw c.list.new.self c.list.ensures.nodes at c.pair_of.result
    c.pair_of.ensures c.in_ok-pair.was c.if-not-is_up_to.ensures in
    record {
      few = fewer c.self.invariant kw vw c.in_ok-pair.pair first;
      nodes = rw c.skip.ensures (rest-left c.self.invariant kw vw c.list.new.self c.list.ensures.nodes at
          c.pair_of.result c.pair_of.ensures c.in_ok-pair.was);
    }

pub returns-clause-steps : goal.returns-clause-steps
returns-clause-steps g c =
    let kw = g.K.Scalar.whole in let vw = g.V.Scalar.whole in
    let first = first-left c.self.invariant kw vw c.list.new.self c.list.ensures.nodes
    (sym c.first.ensures ∙ c.in_ok-first.was) c.pair_of.result c.pair_of.ensures c.in_ok-pair.was
    c.if-not-is_up_to.ensures in
    rw (← c.self.view_is) (finds-one c.self.invariant kw vw c.in_ok-pair.pair first)
