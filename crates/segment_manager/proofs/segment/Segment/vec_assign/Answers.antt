-- The values of the vector that is found are replaced. The segment ends as the bound object leaves it.
use Rattle.segment_manager.proofs.segment.Segment.vec_assign.Goals as goal
use Rattle.segment_manager.proofs.Common.{refl, rules, ◌≡◌}
use Rattle.segment_manager.proofs.bound.ByKey.{not-bound, rests, same-gaps, steps}

pub returns-in_err-self-clause-step : goal.returns-in_err-self-clause-step
returns-in_err-self-clause-step g c = not-bound _ _ _ refl c.from_residual.ensures.1 c.in_err-self.ensures.location
    c.in_err-self.was c.of.follows.holds-at-none

pub returns-clause-step : goal.returns-clause-step
returns-clause-step g c = let e : c.assign.new.self.segment.now ≡ c.self-2-1.given.0 = search rules in
    steps c.in_ok-self.ensures.segment c.in_ok-self.ensures.location e _ c.assign.ensures.step.step refl refl

pub returns-in_err-self-clause-gaps : goal.returns-in_err-self-clause-gaps
returns-in_err-self-clause-gaps g c = λ e. same-gaps (rests c.in_err-self.was c.of.follows.holds-at-none)
