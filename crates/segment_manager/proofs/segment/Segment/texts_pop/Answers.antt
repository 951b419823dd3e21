-- The last text is removed from the vector of strings that is found. The segment ends as the bound object leaves it.
use Rattle.segment_manager.proofs.Common.{◌≡◌, refl, rules, Pop, StringsKind}
use Rattle.segment_manager.proofs.bound.ByKey.{leads, not-led}
use Rattle.segment_manager.proofs.segment.Segment.texts_pop.Goals as goal

pub returns-in_err-self-clause-step : goal.returns-in_err-self-clause-step
returns-in_err-self-clause-step g c = not-led _ _ refl c.from_residual.ensures.1 c.in_err-self.ensures.location
    c.in_err-self.was c.of.follows.holds-at-none

pub returns-clause-step : goal.returns-clause-step
returns-clause-step g c = let e : c.pop.new.self.segment.now ≡ c.self-2-1.given.0 = search rules in
    leads c.in_ok-self.ensures.segment c.in_ok-self.ensures.location e StringsKind (Pop (g.O.ObjectRef.key
    c.args.key.now)) c.pop.ensures.step
