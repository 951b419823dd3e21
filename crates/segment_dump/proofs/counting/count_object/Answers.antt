use Rattle.segment_dump.proofs.counting.count_object.Goals as goal
use Rattle.segment_dump.proofs.Common.{None, sym, ap, subst, ◌∙◌, IsCountable, Needs, both, item_needs, only_room, Any}
use Rattle.segment_dump.proofs.{Common.item_text, reading.Sizes.object-asks, reading.Prefixes.as-seen}
use Rattle.segment_dump.specs.Asked.{AreAtMost}
use Rattle.segment_dump.proofs.counting.Objects.{object-no_content, object-no_lead, object-no_measure, object-some}

pub returns-in_err-name_len-clause-value : goal.returns-in_err-name_len-clause-value
returns-in_err-name_len-clause-value c =
    as-seen item_text IsCountable Any item_needs c.args.text.now None c.from_residual.result
    (sym c.from_residual.ensures) (object-no_lead c.args.text.now c.in_err-name_len.ensures.value)

pub returns-in_err-kind-clause-value : goal.returns-in_err-kind-clause-value
returns-in_err-kind-clause-value c =
    as-seen item_text IsCountable Any item_needs c.args.text.now None c.from_residual-in_err-kind.result
    (sym c.from_residual-in_err-kind.ensures)
    (object-no_measure c.args.text.now c.in_ok-name_len.name_len c.in_ok-name_len.rest.now
    c.in_ok-name_len.ensures.value c.in_err-kind.ensures.value)

pub returns-in_err-texts-clause-value : goal.returns-in_err-texts-clause-value
returns-in_err-texts-clause-value c =
    as-seen item_text IsCountable Any item_needs c.args.text.now None c.from_residual-in_err-texts.result
    (sym c.from_residual-in_err-texts.ensures)
    (object-no_content c.args.text.now c.in_ok-name_len.name_len c.in_ok-name_len.rest.now c.in_ok-kind.kind
    c.in_ok-kind.count c.in_ok-kind.rest.now c.in_ok-name_len.ensures.value c.in_ok-kind.ensures.value
    c.in_err-texts.ensures.value)

pub returns-clause-value : goal.returns-clause-value
returns-clause-value c =
    object-some c.args.text.now c.in_ok-name_len.name_len c.in_ok-name_len.rest.now c.in_ok-kind.kind
    c.in_ok-kind.count c.in_ok-kind.rest.now c.only_room-own.result c.in_ok-texts.texts c.and.result
    c.in_ok-texts.rest.now
    c.in_ok-name_len.ensures.value c.in_ok-kind.ensures.value c.in_ok-texts.ensures.value (c.only_room-own.ensures
    ∙ ap only_room c.object_room.ensures) c.and.ensures.sum

pub returns-clause-questions : goal.returns-clause-questions
returns-clause-questions c =
    let lead = c.in_ok-name_len.ensures.min_len in
    let line = c.in_ok-kind.ensures.measure in
    let elements = c.in_ok-texts.ensures.questions in
    object-asks c.args.text.now c.in_ok-name_len.rest.now c.in_ok-kind.rest.now c.in_ok-texts.rest.now
    c.in_ok-name_len.name_len c.in_ok-kind.kind c.in_ok-kind.count c.in_ok-texts.texts c.and.result
    lead line elements (subst (λ (own : Needs).
    AreAtMost c.and.result (both own c.in_ok-texts.texts)) (c.only_room-own.ensures
    ∙ ap only_room c.object_room.ensures) c.and.ensures.most)
