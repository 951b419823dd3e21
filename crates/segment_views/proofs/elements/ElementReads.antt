-- What a reading of one element of an array or a vector, or of the number of its texts, says of the list of all.
use Rattle.std.proofs.Common.{◌≡◌, refl, sym, ◌∙◌, ap, ℕ, ℤ, Bool, true, false, Option, None, Some, Result, Ok, Err}
use Rattle.std.proofs.Common.{List, [], length, if◌then◌else◌}
use Rattle.std.proofs.lemmas.{Bool.eqb-true, List.length-map, Option.same_Some}
use Rattle.std.specs.{Option.ok_or, Prelude.option_map, Prelude.slice_get, Result.result_ok}
use Rattle.seg_types.specs.{Commands.Get, Kinds.code_of, Kinds.kind_of_code, Kinds.same_kind, Names.Key}
use Rattle.seg_types.specs.declared.kinds.Kind.TheVariants.{Strings as StringsKind}
use Rattle.seg_types.specs.declared.refusals.Refusal.{Refusal}
use Rattle.seg_types.specs.declared.refusals.Refusal.TheVariants.{NotFound, WrongKind}
use Rattle.segment_manager.proofs.Laws.{code-read, text-read}
use Rattle.segment_manager.specs.{Answers.TextElement, State.AnswersQueryOfKind, State.AnswersWith}
use Rattle.segment_manager.specs.{State.SegmentState, State.answer_of}
use Rattle.segment_manager.specs.Directory.{Directory, Object, Texts, Value, kind_of, object_at}
use Rattle.segment_manager.specs.containers.Contents.{sizes_of, sizes_of_kind}
use Rattle.segment_manager.specs.objects.ElementLists.{element_of, first_size, length_at_kind, number_or_none, texts_at}
use Rattle.segment_manager.specs.objects.ElementLists.{texts_in, whole_of}

-- ---- one scalar

whole-ok : {A : Type 0} (whole : A → ℤ) (q : Result A Refusal)
    → option_map whole (result_ok q) ≡ result_ok (whole_of whole q)
whole-ok whole (Ok a) = refl
whole-ok whole (Err why) = refl

read-ok : (q : Option ℤ) (why : Refusal) → result_ok (ok_or q why) ≡ q
read-ok None why = refl
read-ok (Some z) why = refl

-- the element that is read is the list's
pub reads-item : {s : SegmentState} (list : Directory → List ℤ) (at : ℕ) {A : Type 0} (whole : A
    → ℤ) (q : Result A Refusal) {o : Option A} → o ≡ result_ok q
    → AnswersWith s (λ d. element_of (list d) at) (whole_of whole q)
    → AnswersWith s (λ d. slice_get (list d) at) (option_map whole o)
reads-item list at whole q e a = record {
  answers = λ d h. ap (option_map whole) e ∙ whole-ok whole q ∙ ap result_ok (a.answers d h)
      ∙ read-ok (slice_get (list d) at) _;
}

-- ---- one text

module _ (s : SegmentState) (key : Key) where
  -- a text that is read is the list's
  pub text-item : (at : ℕ) {A : Type 0} (bytes : A → List ℕ) (r : Result A Refusal)
      → AnswersQueryOfKind s key StringsKind (Get key at) (answer_of (λ x. TextElement (bytes x)) r)
      → AnswersWith s (λ d. slice_get (texts_at d key) at) (option_map bytes (result_ok r))
  text-item at bytes (Ok x) a = record { answers = λ d h. text-read s.mode d key at (Ok (bytes x)) (a.answers d h) }
  text-item at bytes (Err why) a = record { answers = λ d h. text-read s.mode d key at (Err why) (a.answers d h) }

-- ---- how many

texts-of : (v : Value) → StringsKind ≡ kind_of v → number_or_none (first_size (sizes_of v)) ≡ length (texts_in v)
texts-of (Texts ps t) e = sym (length-map ps _)
texts-of v e = absurd (cc)

texts-sized : (v : Value) (b : Bool) → same_kind StringsKind (kind_of v) ≡ b
    → number_or_none (first_size (if b then sizes_of v else Err WrongKind)) ≡ length (if b then texts_in v else [])
texts-sized v false e = refl
texts-sized v true e = texts-of v (same_Some StringsKind (kind_of v) (sym (code-read StringsKind)
    ∙ ap kind_of_code (eqb-true (code_of StringsKind) (code_of (kind_of v)) e) ∙ code-read (kind_of v)))

texts-length : (o : Option Object) → number_or_none (first_size (elim o as (λ _. Result (ℕ × ℕ) Refusal) [
  | None ↦ Err NotFound
  | Some o ↦ sizes_of_kind o StringsKind
])) ≡ length (elim o as (λ _. List (List ℕ)) [
  | None ↦ []
  | Some o ↦ if same_kind StringsKind (kind_of o.value) then texts_in o.value else []
])
texts-length None = refl
texts-length (Some o) = texts-sized o.value (same_kind StringsKind (kind_of o.value)) refl

-- the number of texts is the list's
pub texts-many : (s : SegmentState) (key : Key) (n : ℕ) → AnswersWith s (λ d. length_at_kind d key StringsKind) (Ok n)
    → AnswersWith s (λ d. length (texts_at d key)) n
texts-many s key n a =
    record { answers = λ d h. ap number_or_none (a.answers d h) ∙ texts-length (object_at d key) }
