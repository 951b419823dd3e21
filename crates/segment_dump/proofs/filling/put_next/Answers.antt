use Rattle.seg_types.specs.declared.kinds.Kind.TheVariants.{Map}
use Rattle.segment_manager.proofs.Laws.{binds}
use Rattle.segment_dump.proofs.filling.put_next.Goals as goal
use Rattle.segment_dump.proofs.{Common.true, Common.refl, Common.sym, Common.◌∙◌, building.Presence.still_of_kind-here}
use Rattle.segment_dump.proofs.{texts.Options.never-ok, filling.Addition.put-adds, filling.Addition.put-unread}

pub returns-in_err-key-clause-visits : goal.returns-in_err-key-clause-visits
returns-in_err-key-clause-visits c =
    λ index room. put-unread c.args.segment.now c.args.segment.now c.args.object.handle index room c.args.keys
    c.args.values c.args.lines.now c.next_pair.new.lines _ c.from_residual.result c.in_err-key.ensures.value

pub returns-in-Ok-clause-visits : goal.returns-in-Ok-clause-visits
returns-in-Ok-clause-visits c =
    λ index room. put-adds c.args.segment.now c.insert_pair.new.segment c.args.object.handle index room c.args.keys
    c.args.values c.args.lines.now c.next_pair.new.lines c.in_ok-key.key c.in_ok-key.value c.insert_pair.result _
    c.in_ok-key.ensures.value c.insert_pair.ensures.step (λ e. refl)

pub returns-in-Err-clause-visits : goal.returns-in-Err-clause-visits
returns-in-Err-clause-visits c =
    λ index room. put-adds c.args.segment.now c.insert_pair.new.segment c.args.object.handle index room c.args.keys
    c.args.values c.args.lines.now c.next_pair.new.lines c.in_ok-key.key c.in_ok-key.value c.insert_pair.result _
    c.in_ok-key.ensures.value c.insert_pair.ensures.step (λ e. absurd (never-ok _ true (sym c.in-Err.is ∙ e)))

pub insert_pair-requires-clause-object : goal.insert_pair-requires-clause-object
insert_pair-requires-clause-object c =
    binds c.requires.object.object
    (c.requires.kind ∙ sym (λ i. Map (c.in_ok-key.ensures.kinds.0 i) (c.in_ok-key.ensures.kinds.1 i)))

pub returns-in-Ok-clause-in_place : goal.returns-in-Ok-clause-in_place
returns-in-Ok-clause-in_place c = still_of_kind-here c.requires.object _ _ _ _ c.insert_pair.ensures.step refl

pub returns-in-Err-clause-in_place : goal.returns-in-Err-clause-in_place
returns-in-Err-clause-in_place c = still_of_kind-here c.requires.object _ _ _ _ c.insert_pair.ensures.step refl
