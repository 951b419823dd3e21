use Rattle.seg_types.specs.declared.kinds.Kind.TheVariants.{Vector}
use Rattle.segment_manager.proofs.Laws.{binds}
use Rattle.segment_dump.proofs.filling.push_next.Goals as goal
use Rattle.segment_dump.proofs.{Common.refl, Common.ap, Common.sym, Common.◌∙◌}
use Rattle.segment_dump.proofs.{building.Presence.still_of_kind-here, filling.Addition.push-adds}
use Rattle.segment_dump.proofs.{filling.Addition.push-unread}

pub returns-in_err-value-clause-visits : goal.returns-in_err-value-clause-visits
returns-in_err-value-clause-visits c =
    λ index room. push-unread c.args.segment.now c.args.segment.now c.args.object.handle index room c.args.kind
    c.args.lines.now c.next_value.new.lines _ c.from_residual.result c.in_err-value.ensures.value

pub returns-clause-visits : goal.returns-clause-visits
returns-clause-visits c = λ index room.
    push-adds c.args.segment.now c.insert_scalar.new.segment c.args.object.handle index room c.args.kind
    c.args.lines.now c.next_value.new.lines c.in_ok-value.value c.insert_scalar.result c.ended.result
    c.in_ok-value.ensures.value c.insert_scalar.ensures.step c.ended.ensures

pub insert_scalar-requires-clause-object : goal.insert_scalar-requires-clause-object
insert_scalar-requires-clause-object c =
    binds c.requires.object.object (c.requires.kind ∙ ap Vector (sym c.in_ok-value.ensures.kind))

pub returns-clause-in_place : goal.returns-clause-in_place
returns-clause-in_place c = still_of_kind-here c.requires.object _ _ _ _ c.insert_scalar.ensures.step refl
