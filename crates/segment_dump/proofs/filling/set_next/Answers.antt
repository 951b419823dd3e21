use Rattle.seg_types.specs.declared.kinds.Kind.TheVariants.{Scalar}
use Rattle.segment_manager.proofs.Laws.{binds}
use Rattle.segment_dump.proofs.filling.set_next.Goals as goal
use Rattle.segment_dump.proofs.{Common.refl, Common.ap, Common.sym, Common.◌∙◌}
use Rattle.segment_dump.proofs.{building.Presence.still_of_kind-here, filling.Addition.set-adds}
use Rattle.segment_dump.proofs.{filling.Addition.set-unread}

pub returns-in_err-value-clause-visits : goal.returns-in_err-value-clause-visits
returns-in_err-value-clause-visits c =
    λ room. set-unread c.args.segment.now c.args.segment.now c.args.object.handle c.args.index room c.args.kind
    c.args.lines.now c.next_value.new.lines _ c.from_residual.result c.in_err-value.ensures.value

pub returns-clause-visits : goal.returns-clause-visits
returns-clause-visits c = λ room.
    set-adds c.args.segment.now c.set_array_element.new.segment c.args.object.handle c.args.index room c.args.kind
    c.args.lines.now c.next_value.new.lines c.in_ok-value.value c.set_array_element.result c.ended.result
    c.in_ok-value.ensures.value c.set_array_element.ensures.step c.ended.ensures

pub set_array_element-requires-clause-object : goal.set_array_element-requires-clause-object
set_array_element-requires-clause-object c =
    binds c.requires.object.object (c.requires.kind ∙ ap Scalar (sym c.in_ok-value.ensures.kind))

pub returns-clause-in_place : goal.returns-clause-in_place
returns-clause-in_place c = still_of_kind-here c.requires.object _ _ _ _ c.set_array_element.ensures.step refl
