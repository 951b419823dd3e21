-- The count of the index is that of the directory.
use Rattle.segment_manager.proofs.segment.Segment.count_of.Goals as goal
use Rattle.segment_manager.proofs.Common.{AnswersWith, SegmentState, length, objects_of, subst}
use Rattle.segment_manager.proofs.objects.Destroys.{index-counts}

pub returns-clause-count : goal.returns-clause-count
returns-clause-count c =
    let s : SegmentState = record { cut = c.self.inside.heap; mode = c.self.inside.mode } in
    subst (λ t. AnswersWith t (λ d. length (objects_of c.args.index d)) c.len.result) c.self.view_is
    (record { answers = index-counts s c.args.index c.len.ensures.len })
