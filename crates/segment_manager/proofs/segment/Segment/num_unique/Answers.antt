-- The count of the index is that of the directory.
use Rattle.segment_manager.proofs.segment.Segment.num_unique.Goals as goal
use Rattle.seg_types.specs.Commands.{NumUnique}
use Rattle.seg_index.specs.declared.index.Index.TheVariants.{Unique}
use Rattle.segment_manager.proofs.{Common.AnswersQuery, Common.Number, Common.subst, objects.Destroys.num-replies}

pub returns : goal.returns
returns c = subst (λ t. AnswersQuery t NumUnique (Number c.len.result)) c.self.view_is
    (num-replies Unique c.len.result c.len.ensures.len)
