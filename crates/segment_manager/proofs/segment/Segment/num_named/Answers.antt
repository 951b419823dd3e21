-- The count of the index is that of the directory.
use Rattle.segment_manager.proofs.segment.Segment.num_named.Goals as goal
use Rattle.seg_types.specs.Commands.{NumNamed}
use Rattle.seg_index.specs.declared.index.Index.TheVariants.{Named}
use Rattle.segment_manager.proofs.{Common.AnswersQuery, Common.Number, Common.subst, objects.Destroys.num-replies}

pub returns : goal.returns
returns c = subst (λ t. AnswersQuery t NumNamed (Number c.len.result)) c.self.view_is
    (num-replies Named c.len.result c.len.ensures.len)
