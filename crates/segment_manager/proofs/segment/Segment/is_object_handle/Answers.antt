-- The handle is an object's where a block in use has it that is for an object.
use Rattle.segment_manager.proofs.segment.Segment.is_object_handle.Goals as goal
use Rattle.segment_manager.proofs.Common.{AnswersWith, is_object_at, subst}
use Rattle.segment_manager.proofs.objects.Destroys.{dead-answers, role-answers}

pub returns-then-is_live : goal.returns-then-is_live
returns-then-is_live c = subst (λ t. AnswersWith t (λ d. is_object_at d c.args.handle) c.eq.result) c.self.view_is
    (role-answers c.args.handle c.role.ensures c.eq.ensures)

pub returns-else-is_live : goal.returns-else-is_live
returns-else-is_live c = subst (λ t. AnswersWith t (λ d. is_object_at d c.args.handle) c.is_live.result) c.self.view_is
    (dead-answers c.args.handle c.is_live.ensures c.if-is_live.false)
