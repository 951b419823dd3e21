-- Values are appended to the vector that is found. The segment ends as the bound vector leaves it.
use Rattle.segment_manager.proofs.segment.Segment.vec_extend.Goals as goal
use Rattle.segment_manager.proofs.Common.{map, rules, ◌≡◌}
use Rattle.segment_manager.proofs.bound.ByKey.{key-extends, refused-extends, rests, same-gaps}

pub returns-in_err-self-clause-step : goal.returns-in_err-self-clause-step
returns-in_err-self-clause-step g c = refused-extends (rests c.in_err-self.was c.of.follows.holds-at-none)
    g.T.Scalar.kind (map g.T.Scalar.whole c.args.values.now) c.in_err-self.ensures.location c.from_residual.result
    c.from_residual.ensures.1

pub returns-in_err-self-clause-gaps : goal.returns-in_err-self-clause-gaps
returns-in_err-self-clause-gaps g c = λ e. same-gaps (rests c.in_err-self.was c.of.follows.holds-at-none)

pub returns-clause-step : goal.returns-clause-step
returns-clause-step g c = let e : c.extend.new.self.segment.now ≡ c.self-2-1.given.0 = search rules in
    key-extends c.in_ok-self.ensures.segment e c.in_ok-self.ensures.location g.T.Scalar.kind _ c.extend.ensures.step
