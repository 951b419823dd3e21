-- The pair is put into the map that is found. The segment ends as the bound map leaves it.
use Rattle.segment_manager.proofs.segment.Segment.map_put.Goals as goal
use Rattle.segment_manager.proofs.Common.{SegmentState, refl, rules, subst, ◌≡◌}
use Rattle.segment_manager.proofs.bound.ByKey.{not-bound, overwrites, steps}
use Rattle.segment_manager.specs.Keeping.{ChangesValue}

pub returns-in_err-self-clause-step : goal.returns-in_err-self-clause-step
returns-in_err-self-clause-step g c = not-bound _ _ _ refl c.from_residual.ensures.1 c.in_err-self.ensures.location
    c.in_err-self.was c.of.follows.holds-at-none

pub returns-clause-step : goal.returns-clause-step
returns-clause-step g c = let e : c.insert.new.self.segment.now ≡ c.self-2-1.given.0 = search rules in
    steps c.in_ok-self.ensures.segment c.in_ok-self.ensures.location e _ c.insert.ensures.step refl refl

pub returns-clause-overwrite : goal.returns-clause-overwrite
returns-clause-overwrite g c = let e : c.insert.new.self.segment.now ≡ c.self-2-1.given.0 = search rules in
    subst (λ (u : SegmentState). ChangesValue c.args.self.now u (g.O.ObjectRef.key c.args.key.now) g.K.Scalar.kind
    (g.K.Scalar.whole c.args.at) g.V.Scalar.kind) e
    (overwrites c.in_ok-self.ensures.segment c.in_ok-self.ensures.location
    c.insert.new.self.segment.now g.K.Scalar.kind
    g.V.Scalar.kind (g.K.Scalar.whole c.args.at) c.insert.ensures.overwrite)
