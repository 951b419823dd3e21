use Rattle.std.proofs.Common.{◌≡◌, ◌∙◌, ap, map, rules, subst}
use Rattle.seg_types.specs.declared.kinds.Kind.TheVariants.{Strings}
use Rattle.seg_types.specs.Commands.{Assign, Quoted}
use Rattle.segment_manager.specs.objects.BoundObjects.{key_of}
use Rattle.segment_manager.specs.State.{TakesStepOfKind, done_answer}
use Rattle.segment_manager.proofs.Laws.{of-change}
use Rattle.segment_scripts.proofs.changing.Texts.{assign-no_texts, assign-texts}
use Rattle.segment_values.proofs.Exits.{exit-is}
use Rattle.segment_values.proofs.Located.{bound-to-change}
use Rattle.segment_scripts.proofs.changing.assign_texts.Goals as goal

pub returns-in_err-literal_texts-clause-step : goal.returns-in_err-literal_texts-clause-step
returns-in_err-literal_texts-clause-step c = rw (exit-is c.from_residual.ensures.1)
    (assign-no_texts c.args.segment.now (key_of c.args.object)
    (bound-to-change c.requires.object c.requires.writing).is c.requires.writing c.args.values _
    c.in_err-literal_texts.ensures)

pub returns-then-len-gt-FEW-clause-step : goal.returns-then-len-gt-FEW-clause-step
returns-then-len-gt-FEW-clause-step c =
    assign-texts c.args.segment.now (key_of c.args.object) (bound-to-change c.requires.object c.requires.writing).is
    c.assign_many.new.segment c.args.values c.literal_texts.new.buffer (done_answer c.assign_many.result)
    c.in_ok-literal_texts.ensures c.assign_many.ensures.step

pub returns-clause-step : goal.returns-clause-step
returns-clause-step c =
    let r = done_answer c.assign.result in
    let e : c.assign.new.self.segment.now ≡ c.segment-1.given.0 = search rules in
    assign-texts c.args.segment.now (key_of c.args.object) (bound-to-change c.requires.object c.requires.writing).is
    c.segment-1.given.0 c.args.values c.literal_texts.new.buffer r c.in_ok-literal_texts.ensures
    (subst (λ bss. TakesStepOfKind c.args.segment.now c.segment-1.given.0 (key_of c.args.object) Strings
    (Assign (key_of c.args.object) (map Quoted bss)) r)
    (ap (map (λ t. t.now)) c.as_slice.ensures.value ∙ c.few.ensures)
    (of-change (λ o u v. TakesStepOfKind u v (key_of o) Strings (Assign (key_of o) (map Quoted
    (map (λ t. t.now) c.as_slice.result.now))) r) c.at.ensures.object c.at.ensures.segment e c.assign.ensures.step))
