use Rattle.std.proofs.Common.{◌≡◌, ◌∙◌, ap, map, rules, subst}
use Rattle.seg_types.specs.declared.kinds.Kind.TheVariants.{Strings}
use Rattle.seg_types.specs.Commands.{Assign, Quoted}
use Rattle.segment_manager.specs.objects.BoundObjects.{key_of}
use Rattle.segment_manager.specs.State.{TakesStepOfKind, done_answer}
use Rattle.segment_manager.proofs.Laws.{of-change}
use Rattle.segment_scripts.proofs.changing.assign_many.Goals as goal

pub returns-clause-step : goal.returns-clause-step
returns-clause-step c =
    let r = done_answer c.assign.result in
    let e : c.assign.new.self.segment.now ≡ c.segment-1.given.0 = search rules in
    subst (λ bss. TakesStepOfKind c.args.segment.now c.segment-1.given.0 (key_of c.args.object) Strings
    (Assign (key_of c.args.object) (map Quoted bss)) r)
    (ap (map (λ t. t.now)) c.as_slice.ensures.value ∙ c.all.ensures)
    (of-change (λ o u v. TakesStepOfKind u v (key_of o) Strings (Assign (key_of o) (map Quoted
    (map (λ t. t.now) c.as_slice.result.now))) r) c.at.ensures.object c.at.ensures.segment e c.assign.ensures.step)
