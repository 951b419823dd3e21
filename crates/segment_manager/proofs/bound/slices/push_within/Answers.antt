-- The value is appended to the vector of the handle. The segment ends as the bound object leaves it.
use Rattle.std.proofs.Common.{Result}
use Rattle.segment_manager.proofs.Common.{◌≡◌, refl, rules, subst, sym, ByHandle, IsLocated, Located, Push, Refusal}
use Rattle.segment_manager.proofs.Common.{TakesStepOfKind, Vector, done_answer, literal_of}
use Rattle.segment_manager.proofs.bound.ByKey.{steps}
use Rattle.segment_manager.proofs.bound.slices.push_within.Goals as goal

pub returns-in-Ok-push-clause-step : goal.returns-in-Ok-push-clause-step
returns-in-Ok-push-clause-step g c = λ done.
    let e : c.push.new.self.segment.now ≡ c.segment-2-1.given.0 = search rules in
    subst (λ (r : Result (Unit {0}) Refusal). TakesStepOfKind c.args.segment.now c.segment-2-1.given.0
    (ByHandle c.args.handle) (Vector g.T.Scalar.kind) (Push (ByHandle c.args.handle)
    (literal_of g.T.Scalar.kind (g.T.Scalar.whole c.args.value))) (done_answer r)) c.in-Ok-push.is
    (steps c.at-vector.ensures.segment (subst (λ (o : Located). IsLocated c.args.segment.now (ByHandle c.args.handle) o)
    (sym c.at-vector.ensures.object) c.in-Ok.ensures.location) e _ c.push.ensures.step.step refl refl)
