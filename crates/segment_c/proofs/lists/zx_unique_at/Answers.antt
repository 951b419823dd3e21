use Rattle.segment_c.proofs.lists.zx_unique_at.Goals as goal
use Rattle.std.proofs.Common.{◌∙◌, arith, length, refl, subst, sym}
use Rattle.std.proofs.lemmas.Option.{slice_get_past}
use Rattle.seg_types.specs.Commands.{NumUnique}
use Rattle.segment_manager.specs.{Answers.Number, Directory.unique_objects, State.AnswersQuery}
use Rattle.segment_manager.proofs.Laws.{unique-below}
use Rattle.segment_c.specs.Lists.{TellsAlone}
use Rattle.segment_c.proofs.{slot.GoingOn.reads, views.Counts.counted}

pub unique_instance-requires : goal.unique_instance-requires
unique_instance-requires c =
    unique-below c.deref-2.result.now c.num_unique.result c.args.index
    (subst (λ s. AnswersQuery s NumUnique (Number c.num_unique.result)) (c.deref.ensures ∙ sym c.deref-2.ensures)
    c.num_unique.ensures) (omega (arith, c.if-index-num_unique.false))

pub returns-then-index-num_unique-clause-read : goal.returns-then-index-num_unique-clause-read
returns-then-index-num_unique-clause-read c =
    reads refl c.in-Ok.ensures.transfer.0 c.put.ensures.effect (c.put.ensures.marks_are ∙ c.take.ensures.marks)
    c.deref.ensures (λ d st.
    let many = counted c.deref.result.now.mode d NumUnique c.num_unique.result (length (unique_objects d)) refl refl
    (c.num_unique.ensures.answers d st) in
    subst (TellsAlone c.args.info.now c.put.result)
    (sym (slice_get_past (unique_objects d) c.args.index (omega (arith, c.if-index-num_unique.true, many))))
    c.put.ensures.code_is)
