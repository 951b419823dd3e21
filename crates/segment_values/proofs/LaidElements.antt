-- The texts of an object's elements are the texts of its value, in each layout.
use Rattle.std.proofs.Common.{◌≡◌, ℕ, ℤ, List, [], length, map, Option, Some, None, Result, Ok, Err}
use Rattle.std.proofs.Common.{if◌then◌else◌, slice_get, refl, sym, ap, ◌∙◌}
use Rattle.std.proofs.lemmas.List.{length-map}
use Rattle.seg_types.specs.declared.kinds.Kind.TheVariants.{Map, Scalar, String, Strings as StringsKind}
use Rattle.seg_types.specs.declared.refusals.Refusal.TheVariants.{NotFound, OutOfRange}
use Rattle.seg_types.specs.{declared.kinds.ScalarKind.ScalarKind, declared.refusals.Refusal.Refusal, Kinds.same_kind}
use Rattle.seg_types.specs.{Names.ByHandle, Names.Key}
use Rattle.seg_map.specs.Places.{item_of}
use Rattle.segment_manager.specs.Answers.{Answer, Element, Refused, TextElement}
use Rattle.segment_manager.specs.containers.Contents.{bytes_at, sizes_at, sizes_of, text_bytes}
use Rattle.segment_manager.specs.Directory.{Value, Numbers, Elements, Bytes, Pairs, Texts, Object, Directory, count_of}
use Rattle.segment_manager.specs.Directory.{kind_of, live, object_at}
use Rattle.segment_manager.specs.Plan.{Plan, Reply, perform, with}
use Rattle.segment_manager.specs.objects.ElementLists.{list_at, texts_at, texts_in}
use Rattle.segment_manager.specs.{Step.get, Step.step, Step.step_of_kind, State.answer_of}
use Rattle.segment_manager.specs.{declared.objects.object_ref.Object.Object as Located, objects.Located.IsLocated}
use Rattle.segment_manager.specs.{Calls.elements_of, Calls.scalar_reply, Parts.part_of, Parts.parts_until}
use Rattle.segment_manager.specs.State.{AnswersWith, SegmentState, DenotesCurrent}
use Rattle.segment_manager.proofs.{CommandLaws.answered-reads, ElementLaws.with-found, Laws.IsSaidAt, Laws.said-at}
use Rattle.segment_manager.proofs.Laws.{text-read}
use Rattle.segment_values.specs.Asked.{length_in}
use Rattle.segment_values.specs.Contents.{ValueContent, bytes_in, content_of, count_of_content}
use Rattle.segment_values.specs.Layouts.{Spelling, content_part, count_at, laid_at, laid_object, laid_out, object_count}
use Rattle.segment_values.specs.Layouts.{object_part, part_at}
use Rattle.segment_values.specs.Contents as content
use Rattle.segment_values.proofs.Laid.{parts-laid}
use Rattle.seg_types.specs.Commands as asked

-- mapping keeps the length
pub length-made : {X Y : Type 0} (g : X → Y) (xs : List X) → length (map g xs) ≡ length xs
length-made g xs = length-map xs g

-- ---- one element

-- the text of a scalar in an answer, or nothing if there is none
abbrev pub element_text : Spelling → ℕ → Answer → List ℕ
element_text s i (Element k z) = s.scalar i k z
element_text s i answer = []

-- the text of a string at a spelling
abbrev pub string_text : Spelling → ℕ → Result (List ℕ) Refusal → List ℕ
string_text s i (Ok bs) = s.text i bs
string_text s i (Err r) = []

module _ (sp : Spelling) (i : ℕ) (d : Directory) where
  -- a number that is read, or that is not there
  number-read : (k : ScalarKind) (r : Option ℤ)
      → element_text sp i (perform d (live d) (with (elim r as (λ _. Result ℤ Refusal) [
        | None ↦ Err OutOfRange
        | Some z ↦ Ok z
      ]) (λ z. Reply (Element k z) d))).0 ≡ part_of (sp.scalar i k) r
  number-read k None = refl
  number-read k (Some z) = refl

  -- the answer for a value whose elements are scalars
  scalar-said : (v : Value) → (kind_of v ≡ String → ⊥) → (kind_of v ≡ StringsKind → ⊥)
      → ((k l : ScalarKind) → kind_of v ≡ Map k l → ⊥) → (answer : Answer)
      → answer ≡ (perform d (live d) (get d v i)).0
      → element_text sp i (elim (elements_of (kind_of v)) as (λ _. Answer) [
        | Err why ↦ Refused why
        | Ok k ↦ answer
      ]) ≡ content_part sp (content_of v) i
  scalar-said (Numbers k zs) string strings map answer e = ap (element_text sp i) e ∙ number-read k (slice_get zs i)
  scalar-said (Elements k zs t) string strings map answer e = ap (element_text sp i) e ∙ number-read k (slice_get zs i)
  scalar-said (Bytes bs t) string strings map answer e = absurd (string refl)
  scalar-said (Texts ps t) string strings map answer e = absurd (strings refl)
  scalar-said (Pairs k l ps) string strings map answer e = absurd (map k l refl)

text-said : (sp : Spelling) (i : ℕ) (v : Value) → kind_of v ≡ StringsKind
    → part_of (sp.text i) (slice_get (if same_kind StringsKind (kind_of v) then texts_in v else []) i)
    ≡ content_part sp (content_of v) i
text-said sp i (Texts ps t) e = refl
text-said sp i v e = absurd (cc)

string-said : (sp : Spelling) (i : ℕ) (v : Value) → kind_of v ≡ String
    → string_text sp i (text_bytes v) ≡ content_part sp (content_of v) i
string-said sp i (Bytes bs t) e = refl
string-said sp i v e = absurd (cc)

-- the element of a scalar that is asked for
abbrev scalar_in : Answer → Option Object → Answer
scalar_in answer r = elim (elim r as (λ _. Result ScalarKind Refusal) [
  | None ↦ Err NotFound
  | Some o ↦ elements_of (kind_of o.value)
]) as (λ _. Answer) [ Err why ↦ Refused why | Ok k ↦ answer ]

-- ---- how many there are

-- the sizes of an object, if it is there
abbrev pub sizes_of_object : Option Object → Result (ℕ × ℕ) Refusal
sizes_of_object r = elim r as (λ _. Result (ℕ × ℕ) Refusal) [ None ↦ Err NotFound | Some o ↦ sizes_of o.value ]

-- the count of an object, if it is there
abbrev pub count_of_object : Option Object → ℕ
count_of_object r = elim r as (λ _. ℕ) [ None ↦ 0 | Some o ↦ object_count o ]

-- an array has as many elements as it counts
numbers-counted : (v : Value) (k : ScalarKind) → kind_of v ≡ Scalar k → count_of v ≡ count_of_content (content_of v)
numbers-counted (Numbers l zs) k e = refl
numbers-counted v k e = absurd (cc)

one-string : (v : Value) → kind_of v ≡ String → 1 ≡ count_of_content (content_of v)
one-string (Bytes bs t) e = refl
one-string v e = absurd (cc)

-- a container that is no string has as many elements as its length
measured : (v : Value) → ((k : ScalarKind) → kind_of v ≡ Scalar k → ⊥) → (kind_of v ≡ String → ⊥)
    → length_in (sizes_of v) ≡ count_of_content (content_of v)
measured (Numbers k zs) n m = absurd (n k refl)
measured (Elements k zs t) n m = refl
measured (Bytes bs t) n m = absurd (m refl)
measured (Pairs k v ps) n m = sym (length-map ps item_of)
measured (Texts ps t) n m = sym (length-map ps bytes_in)

-- ---- the object of a handle

-- the text that was read, if there is one
abbrev text_of : Result (List ℕ) Refusal → Option (List ℕ)
text_of (Ok text) = Some text
text_of (Err why) = None

module _ (s : SegmentState) (o : Located) (l : IsLocated s (ByHandle o.handle) o) where
  -- the directory has the object, of this kind
  pub here : (d : Directory) → DenotesCurrent s.cut.bytes d → IsSaidAt d (ByHandle o.handle) o
  here d st = said-at s (ByHandle o.handle) o l d st

  pub kind-here : (d : Directory) (st : DenotesCurrent s.cut.bytes d) → o.kind ≡ kind_of (here d st).object.value
  kind-here d st = ap (λ (q : Located). q.kind) (here d st).said

  -- how many elements it has
  pub scalars-counted : (k : ScalarKind) (n : ℕ) → o.kind ≡ Scalar k → n ≡ o.count
      → AnswersWith s (λ d. count_at d (ByHandle o.handle)) n
  scalars-counted k n e c = record {
    answers = λ d st.
        let f = here d st in
        rw (f.is, count_at) (c ∙ ap (λ (q : Located). q.count) f.said
        ∙ numbers-counted f.object.value k (sym (kind-here d st) ∙ e));
  }

  -- a string counts as one element
  pub string-counted : o.kind ≡ String → AnswersWith s (λ d. count_at d (ByHandle o.handle)) 1
  string-counted e = record {
    answers = λ d st. let f = here d st in rw (f.is, count_at) (one-string f.object.value (sym (kind-here d st) ∙ e));
  }

  -- another object counts its length
  pub others-counted : (n : ℕ) → ((k : ScalarKind) → o.kind ≡ Scalar k → ⊥) → (o.kind ≡ String → ⊥)
      → AnswersWith s (λ d. length_in (sizes_at d (ByHandle o.handle))) n
      → AnswersWith s (λ d. count_at d (ByHandle o.handle)) n
  others-counted n no_scalar no_text a = record {
    answers = λ d st.
        let f = here d st in let long = rw (f.is, length_in, sizes_at) at (a.answers d st) in
        rw (f.is, count_at) (long ∙ measured f.object.value (λ k e. no_scalar k (kind-here d st ∙ e)) (λ e.
        no_text (kind-here d st ∙ e)));
  }

  -- the element at a place, by how it is read
  pub scalar-part : (sp : Spelling) (i : ℕ) → (o.kind ≡ String → ⊥) → (o.kind ≡ StringsKind → ⊥)
      → ((k l : ScalarKind) → o.kind ≡ Map k l → ⊥) → (d : Directory) → DenotesCurrent s.cut.bytes d
      → element_text sp i (scalar_reply s.mode d (ByHandle o.handle) (asked.Get (ByHandle o.handle) i))
      ≡ part_at sp d (ByHandle o.handle) i
  scalar-part sp i string strings map d st =
      let f = here d st in let same = kind-here d st in let command = asked.Get (ByHandle o.handle) i in
      ap (λ (r : Option Object). element_text sp i (scalar_in (step s.mode d command).0 r)) f.is
      ∙ scalar-said sp i d f.object.value (λ e. string (same ∙ e)) (λ e. strings (same ∙ e)) (λ k l e.
      map k l (same ∙ e)) (step s.mode d command).0 (answered-reads s.mode d command refl
      ∙ ap (λ (p : Plan). (perform d (live d) p).0)
      (with-found d (ByHandle o.handle) f.object (λ o. get d o.value i) f.is))
      ∙ sym (ap (part_of (object_part sp i)) f.is)

  text-there : (sp : Spelling) (i : ℕ) → o.kind ≡ StringsKind → (d : Directory) → DenotesCurrent s.cut.bytes d
      → (p : Option (List ℕ)) → p ≡ slice_get (texts_at d (ByHandle o.handle)) i
      → part_of (sp.text i) p ≡ part_at sp d (ByHandle o.handle) i
  text-there sp i e d st p read =
      let f = here d st in
      ap (part_of (sp.text i)) read
      ∙ rw (f.is, texts_at, list_at) (text-said sp i f.object.value (sym (kind-here d st) ∙ e))

  -- the text of a string of a vector, by how it is read
  pub text-part : (sp : Spelling) (i : ℕ) → o.kind ≡ StringsKind → (d : Directory) → DenotesCurrent s.cut.bytes d
      → (r : Result (List ℕ) Refusal) → answer_of TextElement r ≡ (step_of_kind s.mode d (ByHandle o.handle) StringsKind
      (asked.Get (ByHandle o.handle) i)).0 → part_of (sp.text i) (text_of r) ≡ part_at sp d (ByHandle o.handle) i
  text-part sp i e d st (Ok text) said =
      text-there sp i e d st (Some text) (text-read s.mode d (ByHandle o.handle) i (Ok text) said)
  text-part sp i e d st (Err why) said =
      text-there sp i e d st None (text-read s.mode d (ByHandle o.handle) i (Err why) said)

  -- the text of a string
  pub string-part : (sp : Spelling) (i : ℕ) → o.kind ≡ String → (d : Directory) → DenotesCurrent s.cut.bytes d
      → string_text sp i (bytes_at d (ByHandle o.handle)) ≡ part_at sp d (ByHandle o.handle) i
  string-part sp i e d st =
      let f = here d st in rw (f.is, bytes_at) (string-said sp i f.object.value (sym (kind-here d st) ∙ e))

-- ---- all of them

all-parts : (sp : Spelling) (c : ValueContent) → parts_until (content_part sp c) (count_of_content c) ≡ laid_out sp c
all-parts sp (content.Scalars k zs) = parts-laid (λ i z. sp.scalar i k z) zs
all-parts sp (content.Vector k zs) = parts-laid (λ i z. sp.scalar i k z) zs
all-parts sp (content.String bs) = refl
all-parts sp (content.Map k v ps) = parts-laid (λ i p. sp.pair i k v p) ps
all-parts sp (content.Strings ts) = parts-laid sp.text ts

found-parts : (sp : Spelling) (r : Option Object)
    → parts_until (λ i. part_of (object_part sp i) r) (count_of_object r) ≡ part_of (laid_object sp) r
found-parts sp None = refl
found-parts sp (Some o) = all-parts sp (content_of o.value)

-- the texts of all parts are that of the object
pub parts-at : (sp : Spelling) (d : Directory) (key : Key)
    → parts_until (part_at sp d key) (count_at d key) ≡ laid_at sp d key
parts-at sp d key = found-parts sp (object_at d key)
