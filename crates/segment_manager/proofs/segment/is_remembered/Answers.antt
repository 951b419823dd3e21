-- The handle of a block that is remembered is an object's where the block is for an object.
use Rattle.segment_manager.proofs.segment.is_remembered.Goals as goal
use Rattle.std.proofs.Common.{Bool, subst, true, ℕ, ◌≡◌}
use Rattle.segment_manager.proofs.objects.Destroys.{role-answers}
use Rattle.segment_manager.specs.{State.AnswersWith, State.SegmentState, objects.Found.is_object_at}

known-object : {s t : SegmentState} (h : ℕ) {b : Bool} → s ≡ t → AnswersWith s (λ d. is_object_at d h) b → b ≡ true
    → AnswersWith t (λ d. is_object_at d h) true
known-object {s} {t} h view a e = subst (λ (q : SegmentState). AnswersWith q (λ d. is_object_at d h) true) view
    (subst (λ (x : Bool). AnswersWith s (λ d. is_object_at d h) x) e a)

pub returns-then-is_remembered : goal.returns-then-is_remembered
returns-then-is_remembered c =
    known-object c.args.handle c.segment.view_is (role-answers c.args.handle c.role.ensures c.eq.ensures)
