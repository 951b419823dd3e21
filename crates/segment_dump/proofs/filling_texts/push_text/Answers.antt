use Rattle.seg_types.specs.declared.kinds.Kind.TheVariants.{Strings}
use Rattle.seg_types.specs.Commands.{Push, Quoted}
use Rattle.segment_manager.specs.objects.BoundObjects.{key_of}
use Rattle.segment_manager.proofs.Laws.{binds, of-change}
use Rattle.std.proofs.Common.{rules}
use Rattle.segment_dump.proofs.filling_texts.push_text.Goals as goal
use Rattle.segment_dump.proofs.{Common.◌≡◌, Common.refl, Common.TakesStepOfKind, Common.done_answer, Common.take}
use Rattle.segment_dump.proofs.{building.Presence.still_of_kind-here, filling.Addition.text-adds}
use Rattle.segment_dump.proofs.{filling.Addition.text-unread}

pub returns-in_err-len-clause-visits : goal.returns-in_err-len-clause-visits
returns-in_err-len-clause-visits c =
    λ index. text-unread c.args.segment.now c.args.segment.now c.args.object.handle index c.args.lines.now
    c.collect.new.lines c.args.room.now c.collect.new.room _ c.from_residual.result c.in_err-len.ensures.text

pub returns-clause-visits : goal.returns-clause-visits
returns-clause-visits c = λ index.
    let e : c.push.new.self.segment.now ≡ c.segment-1.given.0 = search rules in
    text-adds c.args.segment.now c.segment-1.given.0 c.args.object.handle index c.args.lines.now
    c.collect.new.lines c.args.room.now c.collect.new.room c.in_ok-len.len c.push.result c.ended.result
    c.in_ok-len.ensures.text (of-change (λ o u v. TakesStepOfKind u v (key_of o) Strings
    (Push (key_of o) (Quoted (take c.in_ok-len.len c.collect.new.room))) (done_answer c.push.result))
    c.at.ensures.object c.at.ensures.segment e c.push.ensures.step) c.ended.ensures

pub at-requires-clause-object : goal.at-requires-clause-object
at-requires-clause-object c = binds c.requires.object.object c.requires.kind

pub returns-clause-in_place : goal.returns-clause-in_place
returns-clause-in_place c =
    let e : c.push.new.self.segment.now ≡ c.segment-1.given.0 = search rules in
    still_of_kind-here c.requires.object _ _ _ _ (of-change (λ o u v. TakesStepOfKind u v (key_of o) Strings
    (Push (key_of o) (Quoted (take c.in_ok-len.len c.collect.new.room))) (done_answer c.push.result))
    c.at.ensures.object c.at.ensures.segment e c.push.ensures.step) refl
