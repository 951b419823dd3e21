-- The last pair is taken, and the others are left.
use Rattle.segment_views.proofs.maps.RangeReads.{fewer-back, finds-none-back, finds-one-back, last-left, no-last}
use Rattle.segment_views.proofs.maps.BoundItemsPairsDoubleEndedIterator.next_back.Goals as goal

pub returns-in_err-pair-clause-steps : goal.returns-in_err-pair-clause-steps
returns-in_err-pair-clause-steps g c =
    let kw = g.K.Scalar.whole in let vw = g.V.Scalar.whole in
    rw (c.from_residual.ensures, ← c.self.view_is) (finds-none-back c.self.invariant kw vw
    (no-last c.self.invariant kw vw c.last_up_to.result c.last_up_to.ensures c.in_err-pair.was))

pub returns-then-not-is_from-clause-steps : goal.returns-then-not-is_from-clause-steps
returns-then-not-is_from-clause-steps g c =
    let kw = g.K.Scalar.whole in let vw = g.V.Scalar.whole in
    let last = last-left c.self.invariant kw vw c.last_up_to.result c.last_up_to.ensures c.in_ok-pair.was
    c.if-not-is_from.ensures in
    rw (← c.self.view_is) (finds-none-back c.self.invariant kw vw last)

pub invariant_of-self : goal.invariant_of-self
invariant_of-self g c =
    let kw = g.K.Scalar.whole in let vw = g.V.Scalar.whole in
    let last = last-left c.self.invariant kw vw c.last_up_to.result c.last_up_to.ensures c.in_ok-pair.was
    c.if-not-is_from.ensures in
    record { few = fewer-back c.self.invariant kw vw c.in_ok-pair.pair last; nodes = c.self.invariant.nodes }

pub returns-clause-steps : goal.returns-clause-steps
returns-clause-steps g c =
    let kw = g.K.Scalar.whole in let vw = g.V.Scalar.whole in
    let last = last-left c.self.invariant kw vw c.last_up_to.result c.last_up_to.ensures c.in_ok-pair.was
    c.if-not-is_from.ensures in
    rw (← c.self.view_is) (finds-one-back c.self.invariant kw vw c.in_ok-pair.pair last)
