-- The text is appended to the vector of strings that is found. The segment ends as the bound object leaves it.
use Rattle.segment_manager.proofs.segment.Segment.texts_push.Goals as goal
use Rattle.segment_manager.proofs.Common.{refl, rules, ◌≡◌}
use Rattle.segment_manager.proofs.bound.ByKey.{first-kept, not-bound, steps}

pub returns-in_err-self-clause-step : goal.returns-in_err-self-clause-step
returns-in_err-self-clause-step g c = not-bound _ _ _ refl c.from_residual.ensures.1 c.in_err-self.ensures.location
    c.in_err-self.was c.of.follows.holds-at-none

pub returns-clause-step : goal.returns-clause-step
returns-clause-step g c = let e : c.push.new.self.segment.now ≡ c.self-2-1.given.0 = search rules in
    steps c.in_ok-self.ensures.segment c.in_ok-self.ensures.location e _ c.push.ensures.step refl refl

pub returns-clause-first : goal.returns-clause-first
returns-clause-first g c = let e : c.push.new.self.segment.now ≡ c.self-2-1.given.0 = search rules in
    first-kept c.in_ok-self.ensures.segment c.in_ok-self.ensures.location e c.args.text.now c.push.ensures.first
