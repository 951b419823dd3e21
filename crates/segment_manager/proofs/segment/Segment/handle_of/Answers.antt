-- Each form of key is looked up in its own way.
use Rattle.segment_manager.proofs.segment.Segment.handle_of.Goals as goal
use Rattle.segment_manager.proofs.Common.{AnswersWith, ByHandle, ByKind, ByName, None, handle_at, key_seen, subst, sym}
use Rattle.segment_manager.proofs.objects.Destroys.{anonymous-answers, handle-answers}

pub returns-in-Name : goal.returns-in-Name
returns-in-Name c = subst (λ k. AnswersWith c.args.self.now (λ d. handle_at d (key_seen k)) c.look_up.result)
    (sym c.in-Name.is) (c.look_up.ensures (ByName c.in-Name.name.bytes.now) c.as_bytes.ensures.bytes)

pub returns-in-Unique : goal.returns-in-Unique
returns-in-Unique c = subst (λ k.
    AnswersWith c.args.self.now (λ d. handle_at d (key_seen k)) c.look_up-in-Unique.result)
    (sym c.in-Unique.is) (c.look_up-in-Unique.ensures (ByKind c.in-Unique.kind) c.code.ensures)

pub returns-in-Handle : goal.returns-in-Handle
returns-in-Handle c = subst (λ k. AnswersWith c.args.self.now (λ d. handle_at d (key_seen k)) c.then_some.result)
    (sym c.in-Handle.is) (subst (λ r. AnswersWith c.args.self.now (λ d. handle_at d (ByHandle c.in-Handle.handle)) r)
    (sym c.then_some.ensures) (handle-answers c.in-Handle.handle c.is_object_handle.ensures))

pub returns-in-Anonymous : goal.returns-in-Anonymous
returns-in-Anonymous c = subst (λ k. AnswersWith c.args.self.now (λ d. handle_at d (key_seen k)) None)
    (sym c.in-Anonymous.is) (anonymous-answers)
