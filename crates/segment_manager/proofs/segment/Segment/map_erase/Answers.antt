-- The key is erased from the map that is found. The segment ends as the bound map leaves it.
use Rattle.segment_manager.proofs.segment.Segment.map_erase.Goals as goal
use Rattle.segment_manager.proofs.Common.{SegmentState, UnchangedWhere, refl, rules, subst, ◌≡◌}
use Rattle.segment_manager.proofs.bound.ByKey.{keeps, not-bound, steps}
use Rattle.segment_manager.specs.Keeping.{LacksPair}

pub returns-in_err-self-clause-step : goal.returns-in_err-self-clause-step
returns-in_err-self-clause-step g c = not-bound _ _ _ refl c.from_residual.ensures.1 c.in_err-self.ensures.location
    c.in_err-self.was c.of.follows.holds-at-none

pub returns-clause-step : goal.returns-clause-step
returns-clause-step g c = let e : c.erase.new.self.segment.now ≡ c.self-2-1.given.0 = search rules in
    steps c.in_ok-self.ensures.segment c.in_ok-self.ensures.location e _ c.erase.ensures.step refl refl

pub returns-clause-absent : goal.returns-clause-absent
returns-clause-absent g c = let e : c.erase.new.self.segment.now ≡ c.self-2-1.given.0 = search rules in
    subst (λ (u : SegmentState). UnchangedWhere c.args.self.now u (LacksPair (g.O.ObjectRef.key c.args.key.now)
    (g.K.Scalar.whole c.args.at))) e (keeps c.in_ok-self.ensures.segment c.in_ok-self.ensures.location _
    (g.K.Scalar.whole c.args.at) c.erase.ensures.absent)
