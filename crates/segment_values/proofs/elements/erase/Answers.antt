use Rattle.std.proofs.Common.{◌≡◌, refl, rules}
use Rattle.seg_types.specs.{declared.kinds.Kind.TheVariants.Strings, Commands.Erase, Keys.key_seen}
use Rattle.segment_manager.specs.{State.TakesStepOfKind, State.done_answer, objects.BoundObjects.key_of}
use Rattle.segment_manager.proofs.CommandLaws.{erase-no_vector, erase-unchangeable}
use Rattle.segment_manager.proofs.Laws.{located-steps, of-change}
use Rattle.segment_values.proofs.Exits.{exit-is}
use Rattle.segment_values.proofs.elements.erase.Goals as goal

pub returns-in_err-object-clause-step : goal.returns-in_err-object-clause-step
returns-in_err-object-clause-step c =
    rw (exit-is c.from_residual.ensures.1) (erase-unchangeable c.in_err-object.ensures _)

pub returns-in-Vector-clause-step : goal.returns-in-Vector-clause-step
returns-in-Vector-clause-step c =
    located-steps _ _ _ c.in_ok-object.ensures.located _ _ (Erase (key_seen c.args.key.now) _) _ c.in-Vector.is
    c.erase_element.ensures.step

pub returns-in-Strings-clause-step : goal.returns-in-Strings-clause-step
returns-in-Strings-clause-step c =
    let e : c.erase.new.self.segment.now ≡ c.segment-1.given.0 = search rules in
    located-steps _ _ _ c.in_ok-object.ensures.located _ _ (Erase (key_seen c.args.key.now) _) _ c.in-Strings.is
    (of-change (λ o u v. TakesStepOfKind u v (key_of o) Strings (Erase (key_of o) c.args.index)
    (done_answer c.erase.result)) c.at.ensures.object c.at.ensures.segment e c.erase.ensures.step)

pub returns-in_default : goal.returns-in_default
returns-in_default c = record {
  step =
      erase-no_vector c.in_ok-object.ensures c.in_default.not-Vector c.in_default.not-Strings _;
  refused = refl;
}
