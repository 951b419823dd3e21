use Rattle.segment_c.proofs.lists.zx_named_at.Goals as goal
use Rattle.std.proofs.Common.{◌∙◌, arith, length, refl, subst, sym}
use Rattle.std.proofs.lemmas.Option.{slice_get_past}
use Rattle.seg_types.specs.Commands.{NumNamed}
use Rattle.segment_manager.specs.{Answers.Number, Directory.named_objects, State.AnswersQuery}
use Rattle.segment_manager.proofs.Laws.{named-below}
use Rattle.segment_c.specs.Lists.{WritesInfoIfFound}
use Rattle.segment_c.proofs.{slot.GoingOn.reads, views.Counts.counted}

pub named_instance-requires : goal.named_instance-requires
named_instance-requires c =
    named-below c.deref-2.result.now c.num_named.result c.args.index
    (subst (λ s. AnswersQuery s NumNamed (Number c.num_named.result)) (c.deref.ensures ∙ sym c.deref-2.ensures)
    c.num_named.ensures) (omega (arith, c.if-index-num_named.false))

pub returns-then-index-num_named-clause-read : goal.returns-then-index-num_named-clause-read
returns-then-index-num_named-clause-read c =
    reads refl c.in-Ok.ensures.transfer.0 c.put.ensures.effect (c.put.ensures.marks_are ∙ c.take.ensures.marks)
    c.deref.ensures (λ d st.
    let many = counted c.deref.result.now.mode d NumNamed c.num_named.result (length (named_objects d)) refl refl
    (c.num_named.ensures.answers d st) in
    subst (WritesInfoIfFound 8 c.args.info.now c.args.name.now c.args.name.now c.put.result)
    (sym (slice_get_past (named_objects d) c.args.index (omega (arith, c.if-index-num_named.true, many))))
    c.put.ensures.code_is)
