use Rattle.std.proofs.Common.{◌≡◌, ◌∷◌, [], rules}
use Rattle.seg_types.specs.declared.kinds.Kind.TheVariants.{String}
use Rattle.seg_types.specs.Commands.{Assign, Quoted}
use Rattle.segment_manager.specs.objects.BoundObjects.{key_of}
use Rattle.segment_manager.specs.State.{TakesStepOfKind, done_answer}
use Rattle.segment_manager.proofs.Laws.{of-change}
use Rattle.segment_scripts.proofs.changing.Elements.{no_text-refused, text-read}
use Rattle.segment_values.proofs.Exits.{exit-is}
use Rattle.segment_values.proofs.Located.{bound-to-change}
use Rattle.segment_scripts.proofs.changing.assign_string.Goals as goal

pub returns-in_err-text-clause-step : goal.returns-in_err-text-clause-step
returns-in_err-text-clause-step c = rw (exit-is c.from_residual.ensures.1)
    (no_text-refused (bound-to-change c.requires.object c.requires.writing) _ c.in_err-text.ensures)

pub returns-clause-step : goal.returns-clause-step
returns-clause-step c =
    let e : c.assign.new.self.segment.now ≡ c.segment-1.given.0 = search rules in
    text-read (bound-to-change c.requires.object c.requires.writing) _ c.in_ok-text.text.now c.in_ok-text.ensures
    (of-change (λ o u v. TakesStepOfKind u v (key_of o) String (Assign (key_of o) (Quoted c.in_ok-text.text.now ∷ []))
    (done_answer c.assign.result)) c.at.ensures.object c.at.ensures.segment e c.assign.ensures.step)
