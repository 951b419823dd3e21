-- The index is in the heap of the segment, and the object found there is the object of the key.
use Rattle.segment_manager.proofs.segment.Segment.look_up.Goals as goal
use Rattle.segment_manager.proofs.Common.{AnswersWith, None, Some, handle_at, subst}
use Rattle.segment_manager.proofs.indexes.Bridge.{denotes-sorted_index}
use Rattle.segment_manager.proofs.objects.Destroys.{absent-answers, found-answers, place-below, segment-index}

pub lookup-requires-clause-index : goal.lookup-requires-clause-index
lookup-requires-clause-index c = denotes-sorted_index c.args.index c.self.invariant.1.denotes

pub at-requires-clause-index : goal.at-requires-clause-index
at-requires-clause-index c = segment-index c.args.index c.self.invariant

pub at-requires-clause-in_range : goal.at-requires-clause-in_range
at-requires-clause-in_range c =
    place-below c.args.index c.args.entry c.in-Found.place c.self.invariant c.in-Found.ensures.place

pub returns-in-Found : goal.returns-in-Found
returns-in-Found c = λ key q. subst (λ t. AnswersWith t (λ d. handle_at d key) (Some c.at.result)) c.self.view_is
    (found-answers _ c.args.index c.args.entry c.in-Found.place c.in-Found.ensures.place c.at.ensures key q)

pub returns-in-Absent : goal.returns-in-Absent
returns-in-Absent c = λ key q. subst (λ t. AnswersWith t (λ d. handle_at d key) None) c.self.view_is
    (absent-answers c.args.index c.args.entry c.in-Absent.field-0 c.in-Absent.ensures.place key q)
