-- An element of scalars that is set to a written value.
use Rattle.std.proofs.Common.{◌≡◌, refl, ℕ, Ok, Err}
use Rattle.seg_types.specs.{declared.kinds.Kind.Kind, declared.kinds.ScalarKind.ScalarKind, Commands.Literal, Names.Key}
use Rattle.seg_types.specs.{declared.refusals.Refusal.Refusal, declared.values.ScalarValue.ScalarValue, Commands.Set}
use Rattle.seg_types.specs.{Commands.value_of_literal, Literals.IsValueOf, Names.ByHandle, Written.literal_seen}
use Rattle.segment_manager.specs.State.{AnswersWith, SegmentState, TakesStep, TakesStepOfKind}
use Rattle.segment_manager.specs.{declared.objects.object_ref.Object.Object as Located, Answers.Answer, Answers.Refused}
use Rattle.segment_manager.specs.{Calls.elements_at, Calls.elements_of}
use Rattle.segment_manager.proofs.CommandLaws.{IsChangeableObject, elements-told, set-step, to-change}
use Rattle.segment_manager.proofs.Laws.{any-no_value, located-steps}

module _ {s : SegmentState} {key : Key} {o : Located} (h : IsChangeableObject s key o) {k : ScalarKind}
    (own : elements_of o.kind ≡ Ok k) (i : ℕ) (l : Literal) where
  has : AnswersWith s (λ d. elements_at d key) (Ok k)
  has = elements-told (to-change h refl) own

  -- the call refuses a literal that is not a value of the elements' kind
  pub set-refused : {why : Refusal} → value_of_literal k l ≡ Err why → TakesStep s s (Set key i l) (Refused why)
  set-refused {why} e = any-no_value s key k i l why has h.writing e

  -- a value of their kind is set by the call for the object
  pub set-done : (v : ScalarValue) → IsValueOf k (value_of_literal k l) (Ok v) → {n : Kind} → o.kind ≡ n
      → {new : SegmentState} {answer : Answer}
      → TakesStepOfKind s new (ByHandle o.handle) n (Set (ByHandle o.handle) i (literal_seen v)) answer
      → TakesStep s new (Set key i l) answer
  set-done v is {n} same {new} {answer} r =
      set-step key i l v has is (located-steps s key o h.located new n (Set key i (literal_seen v)) answer same r)
