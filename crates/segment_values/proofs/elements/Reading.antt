-- One element that is read by the key of its object.
use Rattle.std.proofs.Common.{ap, sym, ◌∙◌, ℕ, Option, Some, None, Result, Ok, Err}
use Rattle.seg_types.specs.{declared.kinds.ScalarKind.ScalarKind, declared.refusals.Refusal.Refusal, Commands.Get}
use Rattle.seg_types.specs.{declared.refusals.Refusal.TheVariants.NotFound, Names.ByHandle, Names.Key}
use Rattle.segment_manager.specs.Directory.{Object, kind_of}
use Rattle.segment_manager.specs.{declared.objects.object_ref.Object.Object as Located, Answers.Answer, Answers.Refused}
use Rattle.segment_manager.specs.{Calls.elements_of, Calls.scalar_reply, objects.Instances.IsMissing, State.AnswersWith}
use Rattle.segment_manager.specs.{objects.Located.IsLocated, State.SegmentState, Step.step}
use Rattle.segment_manager.proofs.Laws.{same-object, step-same}

-- the reply by the object, and by what the command answers
abbrev reply_of : Option Object → Answer → Answer
reply_of r answer = elim (elim r as (λ _. Result ScalarKind Refusal) [
  | None ↦ Err NotFound
  | Some o ↦ elements_of (kind_of o.value)
]) as (λ _. Answer) [ Err why ↦ Refused why | Ok k ↦ answer ]

module _ {s : SegmentState} {key : Key} where
  -- the reply for the handle is the reply for the key
  pub reply-by_key : {o : Located} → IsLocated s key o → (i : ℕ) {answer : Answer}
      → AnswersWith s (λ d. scalar_reply s.mode d (ByHandle o.handle) (Get (ByHandle o.handle) i)) answer
      → AnswersWith s (λ d. scalar_reply s.mode d key (Get key i)) answer
  reply-by_key {o} l i a = record {
    answers = λ d st.
        let e = sym (same-object s key o l d st) in
        a.answers d st ∙ (λ j. reply_of (e j) (step-same s key o l (Get key i) d st j).0);
  }

  -- no object has the key
  pub reply-missing : {why : Refusal} → IsMissing s key why → (i : ℕ)
      → AnswersWith s (λ d. scalar_reply s.mode d key (Get key i)) (Refused why)
  reply-missing m i = record {
    answers = λ d st. ap Refused m.is ∙ sym (ap (λ (r : Option Object).
        reply_of r (step s.mode d (Get key i)).0) (m.missing d st));
  }
