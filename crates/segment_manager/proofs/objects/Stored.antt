-- The elements of a key's object, one after another: the result of reading one, and their number.
use Rattle.segment_manager.proofs.Common as common
use Rattle.seg_types.specs.Commands as asked
use Rattle.byteorder.specs.Endian.{little_number}
use Rattle.std.proofs.{Common.negsuc, Common.set, lemmas.List.drop-map, lemmas.List.length-set}
use Rattle.std.specs.{Option.ok_or, Prelude.IfOk}
use Rattle.raw_region.proofs.Facts.{first, second}
use Rattle.seg_types.proofs.Laws.{all_spell_one}
use Rattle.seg_types.specs.{Kinds.is_spelling, Kinds.value_of, declared.kinds.Kind.TheVariants.Scalar as ScalarOf}
use Rattle.segment_manager.proofs.{blocks.Blocks.spelling-length, objects.KindCodes.numbers-only}
use Rattle.segment_manager.proofs.{directory.Frame.object-roomy, objects.RankedPairs.key-found}
use Rattle.segment_manager.proofs.containers.{ContentPlans.of_slice, Safely.Answered, Safely.answered, Safely.done-so}
use Rattle.segment_manager.proofs.containers.{ItemSteps.vector-only, MapSteps.texts-only, TextPlans.text_in}
use Rattle.segment_manager.proofs.directory.AnyDirectory.{IsOpenFor, by_no_change_of_kind, by_step_of_kind, lands}
use Rattle.segment_manager.proofs.directory.AnyDirectory.{open-reading, open-writing, step_of_kind-found}
use Rattle.segment_manager.proofs.directory.AnyDirectory.{step_of_kind-not_found, step_of_kind-other, with-found}
use Rattle.segment_manager.proofs.objects.{Exchanged.denotes-rewritten, Rewritten.value_start, Rewritten.with_value}
use Rattle.segment_manager.proofs.objects.{Slices.HasBytesAt-element, Slices.HasBytesAt-set, Standings.standing-room}
use Rattle.segment_manager.proofs.objects.Destroys.{standing}
use Rattle.segment_manager.specs.Keeping.{ChangesElement}
use Rattle.segment_manager.specs.objects.{BoundObjects.IsBound, BoundObjects.key_of, ElementLists.whole_of}
use Rattle.segment_manager.specs.objects.ElementLists.{element_of, list_at, numbers_at, numbers_in, texts_at, texts_in}
use Rattle.segment_manager.specs.objects.Located.{element_in, located, located_at}
use Rattle.segment_manager.specs.objects.Standing.{element_at, offset_in, place_at}
use common.{Answer, AnswersWith, Bool, BoolKind, ChangesBytes, Command, Denotes, Directory, Done, Element, Err}
use common.{HasBytesAt, IsObjectInBlock, IsSegment, IsTrue, IsValueAt, Key, Kind, List, Literal, Located, MatchOption}
use common.{Mode, None, NotFound, Numbers, Object, ObjectRole, Ok, Option, OutOfRange, OwnedText, Place, Refusal}
use common.{Refuse, Refused, Reply, Result, SameBytesExcept, Scalar, ScalarKind, SegmentState, Some, StringsKind}
use common.{TakesStepOfKind, TextElement, Value, Vector as VectorOf, WindowState, WrongKind, [], and_from, answer_of}
use common.{ap, arith, bytes_of, changed, code_of, cons_values, count_of, current, done_answer, drop, effect, eq-eqb}
use common.{false, false≢true, flat_map, get, get_or, handle, has_good_name, has_room, if◌then◌else◌, insert}
use common.{is_good_value, is_object, is_read_only, is_value, kind_of, length, list_all, literal_of, live, live_of}
use common.{ltb-false, ltb-true, map, map-append, mul-le-mul_left, nat_le, nat_lt, object_at, option_map, padded}
use common.{perform, pos, read, refl, remove, same_kind, serves, set as set_element, size_of, slice_get}
use common.{slice_get-get_or, slice_get_past, slice_get_within, slice_set, spelled, spelling, step_of_kind, subst, suc}
use common.{sym, take, take-map, true, value_extents, value_len, value_of_literal, values_of, with, with_changed, zero}
use common.{ℕ, ℤ, ◌&&◌, ◌*◌, ◌++◌, ◌+◌, ◌<◌, ◌∙◌, ◌∷◌, ◌≡◌, ◌≤◌}

-- the element that was read, if it was
abbrev pub got : {A : Type 0} → Result A Refusal → Option A
got (Ok a) = Some a
got (Err why) = None

-- ---- without such an object the list is empty

-- an object that does not exist has no elements
pub none-listed : {A : Type 0} (items : Value → List A) (d : Directory) (key : Key) (kind : Kind)
    → object_at d key ≡ None → list_at items d key kind ≡ []
none-listed {A} items d key kind e = ap (λ (r : Option Object).
    elim r as (λ _. List A) [ None ↦ [] | Some o ↦ if same_kind kind (kind_of o.value) then items o.value else [] ]) e

-- the elements of an object of the kind
pub list-of : {A : Type 0} (items : Value → List A) (d : Directory) (key : Key) (kind : Kind) (o : Object) (b : Bool)
    → object_at d key ≡ Some o → same_kind kind (kind_of o.value) ≡ b
    → list_at items d key kind ≡ (if b then items o.value else [])
list-of {A} items d key kind o b e f = ap (λ (r : Option Object).
    elim r as (λ _. List A) [ None ↦ [] | Some o ↦ if same_kind kind (kind_of o.value) then items o.value else [] ]) e
    ∙ ap (λ b. if b then items o.value else []) f

-- ---- one element

-- the answer for an element, or if there is none
abbrev pub told : {A : Type 0} → (A → Answer) → Option A → Answer
told says p = elim p as (λ _. Answer) [ None ↦ Refused OutOfRange | Some a ↦ says a ]

-- elements of an object of the kind are read this way, if an answer is no error and determines its element
module _ {A : Type 0} (says : A → Answer) (one : (a b : A) → says a ≡ says b → a ≡ b)
    (some : (a : A) (why : Refusal) → says a ≡ Refused why → ⊥) (items : Value → List A) where
  not-got : (r : Result A Refusal) (why : Refusal) → answer_of says r ≡ Refused why → got r ≡ None
  not-got (Ok a) why e = absurd (some a why e)
  not-got (Err other) why e = refl

  got-as : (r : Result A Refusal) (p : Option A) → answer_of says r ≡ told says p → got r ≡ p
  got-as r None e = not-got r OutOfRange e
  got-as (Ok a) (Some b) e = ap Some (one a b e)
  got-as (Err why) (Some b) e = absurd (some b why (sym e))

  module _ (mode : Mode) (d : Directory) (key : Key) (kind : Kind) (i : ℕ)
      (gets : (v : Value) → same_kind kind (kind_of v) ≡ true
      → (perform d (live d) (get d v i)).0 ≡ told says (slice_get (items v) i)) (r : Result A Refusal) where
    item-of : {o : Object} (b : Bool) → object_at d key ≡ Some o → same_kind kind (kind_of o.value) ≡ b
        → answer_of says r ≡ (step_of_kind mode d key kind (asked.Get key i)).0
        → got r ≡ slice_get (list_at items d key kind) i
    item-of {o} false e g f = not-got r WrongKind (f ∙ ap (λ (n : Answer × Directory). n.0)
        (step_of_kind-other mode d key kind (asked.Get key i) o (open-reading mode (asked.Get key i) refl) e g))
        ∙ sym (ap (λ zs. slice_get zs i) (list-of items d key kind o false e g))
    item-of {o} true e g f = got-as r (slice_get (items o.value) i) (f ∙ ap (λ (n : Answer × Directory). n.0)
        (step_of_kind-found mode d key kind (asked.Get key i) o (open-reading mode (asked.Get key i) refl) e g)
        ∙ ap (λ p. (perform d (live d) p).0) (with-found d key o (λ o. get d o.value i) e) ∙ gets o.value g)
        ∙ sym (ap (λ zs. slice_get zs i) (list-of items d key kind o true e g))

    item-at : (p : Option Object) → object_at d key ≡ p → answer_of says r ≡ (step_of_kind mode d key kind
        (asked.Get key i)).0 → got r ≡ slice_get (list_at items d key kind) i
    item-at None e f = not-got r NotFound (f ∙ ap (λ (n : Answer × Directory). n.0)
        (step_of_kind-not_found mode d key kind (asked.Get key i) (open-reading mode (asked.Get key i) refl) e))
        ∙ sym (ap (λ zs. slice_get zs i) (none-listed items d key kind e))
    item-at (Some o) e f = item-of (same_kind kind (kind_of o.value)) e refl f

-- numbers

-- the numbers of an object of the kind
pub numbers-listed : (d : Directory) (key : Key) (kind : Kind) (o : Object) → object_at d key ≡ Some o → (v : Value)
    → o.value ≡ v → kind_of v ≡ kind → numbers_at d key kind ≡ numbers_in v
numbers-listed d key kind o e v f g = list-of numbers_in d key kind o true e (eq-eqb (code_of kind)
    (code_of (kind_of o.value)) (ap code_of (sym (ap kind_of f ∙ g)))) ∙ ap numbers_in f

number-told : (d : Directory) (k : ScalarKind) (p : Option ℤ)
    → (perform d (live d) (with (of_slice p) (λ z. Reply (Element k z) d))).0 ≡ told (Element k) p
number-told d k None = refl
number-told d k (Some z) = refl

-- the answer for an element of a vector
pub vector-gets : (d : Directory) (k : ScalarKind) (i : ℕ) (v : Value) → same_kind (VectorOf k) (kind_of v) ≡ true
    → (perform d (live d) (get d v i)).0 ≡ told (Element k) (slice_get (numbers_in v) i)
vector-gets d k i v e =
    let is = vector-only k v e in
    ap (λ w. (perform d (live d) (get d w i)).0) is.1.1 ∙ number-told d k (slice_get is.0 i)
    ∙ sym (ap (λ w. told (Element k) (slice_get (numbers_in w) i)) is.1.1)

-- the answer for an element of an array
pub array-gets : (d : Directory) (k : ScalarKind) (i : ℕ) (v : Value) → same_kind (ScalarOf k) (kind_of v) ≡ true
    → (perform d (live d) (get d v i)).0 ≡ told (Element k) (slice_get (numbers_in v) i)
array-gets d k i v e =
    let is = numbers-only k v e in
    ap (λ w. (perform d (live d) (get d w i)).0) is.1 ∙ number-told d k (slice_get is.0 i)
    ∙ sym (ap (λ w. told (Element k) (slice_get (numbers_in w) i)) is.1)

-- texts
got-map : (ps : List OwnedText) (i : ℕ)
    → slice_get (map (λ (p : OwnedText). p.bytes) ps) i ≡ option_map (λ (p : OwnedText). p.bytes) (slice_get ps i)
got-map [] i = refl
got-map (p ∷ ps) zero = refl
got-map (p ∷ ps) (suc i) = got-map ps i

text-told : (d : Directory) (p : Option OwnedText)
    → (perform d (live d) (with (text_in p) (λ q. Reply (TextElement q.bytes) d))).0 ≡ told TextElement
    (option_map (λ (q : OwnedText). q.bytes) p)
text-told d None = refl
text-told d (Some q) = refl

texts-gets : (d : Directory) (i : ℕ) (v : Value) → same_kind StringsKind (kind_of v) ≡ true
    → (perform d (live d) (get d v i)).0 ≡ told TextElement (slice_get (texts_in v) i)
texts-gets d i v e =
    let is = texts-only v e in
    ap (λ w. (perform d (live d) (get d w i)).0) is.1.1 ∙ text-told d (slice_get is.0 i)
    ∙ ap (told TextElement) (sym (got-map is.0 i)) ∙ sym (ap (λ w. told TextElement (slice_get (texts_in w) i)) is.1.1)

-- a string that was read is the vector's
pub text-read : (mode : Mode) (d : Directory) (key : Key) (i : ℕ) (r : Result (List ℕ) Refusal) → answer_of TextElement
    r ≡ (step_of_kind mode d key StringsKind (asked.Get key i)).0 → got r ≡ slice_get (texts_at d key) i
text-read mode d key i r f = item-at TextElement (λ a b e. cc) (λ a why e. absurd (cc)) texts_in mode d key StringsKind
    i (texts-gets d i) r (object_at d key) refl f

-- The elements of a key's object: the place and the number of each, the result of reading one, and writing one.

-- ---- an element

-- a place in an object, as a place in the key's object
abbrev placed : ℕ → Result ℕ Refusal → Result Place Refusal
placed h q = elim q as (λ _. Result Place Refusal) [ Ok at ↦ Ok (record { handle = h; at = at }) | Err r ↦ Err r ]

abbrev in_object : Object → Result ℕ Refusal → Result Place Refusal
in_object o q = placed (handle o.extent) q

abbrev in_any : ScalarKind → ℕ → Option Object → Result Place Refusal
in_any k i r = elim r as (λ _. Result Place Refusal) [ None ↦ Err NotFound | Some o ↦ in_object o (offset_in o k i) ]

-- the place, or the error
placed-if : (s t : Bool) {at : ℕ} (n : ℕ) → Ok at ≡ (if s then (if t then Ok n else Err OutOfRange) else Err WrongKind)
    → (s ≡ true) × (t ≡ true) × (at ≡ n)
placed-if true true n e = (refl, refl, cc)
placed-if true false n e = absurd (cc)
placed-if false t n e = absurd (cc)

pub data Lacks (o : Object) (k : ScalarKind) (i : ℕ) (r : Refusal) : Type 0 where
  Other : same_kind (Scalar k) (kind_of o.value) ≡ false → r ≡ WrongKind → Lacks o k i r
  Past : same_kind (Scalar k) (kind_of o.value) ≡ true → nat_lt i (count_of o.value) ≡ false → r ≡ OutOfRange
      → Lacks o k i r

lacks-if : (o : Object) (k : ScalarKind) (i n : ℕ) {r : Refusal} (s t : Bool)
    → same_kind (Scalar k) (kind_of o.value) ≡ s → nat_lt i (count_of o.value) ≡ t
    → Err r ≡ (if s then (if t then Ok n else Err OutOfRange) else Err WrongKind) → Lacks o k i r
lacks-if o k i n true true e f g = absurd (cc)
lacks-if o k i n true false e f g = Past e f (cc)
lacks-if o k i n false t e f g = Other e (cc)

-- an element of a key's object, its place, and its number
pub record ElementAt (b : List ℕ) (d : Directory) (key : Key) (k : ScalarKind) (i : ℕ) (p : Place) : Type 0 where
  pub object : Object
  pub is : object_at d key ≡ Some object
  pub stands : IsObjectInBlock b p.handle object
  pub numbers : List ℤ
  pub value : object.value ≡ Numbers k numbers
  pub at : p.at ≡ element_at k object.name i
  pub number : ℤ
  pub there : slice_get numbers i ≡ Some number
  pub in_range : IsTrue (is_value k number)

-- a property of all elements holds for the one at an index
all-at : (t : ℤ → Bool) (zs : List ℤ) (i : ℕ) {z : ℤ} → IsTrue (list_all t zs) → slice_get zs i ≡ Some z → IsTrue (t z)
all-at t [] i h e = absurd (cc)
all-at t (y ∷ ys) zero {z} h e = let same : y ≡ z = cc in subst (λ x. IsTrue (t x)) same (first (t y) (list_all t ys) h)
all-at t (y ∷ ys) (suc i) h e = all-at t ys i (second (t y) (list_all t ys) h) e

-- the numbers of an object are values of their kind
pub numbers-good : (o : Object) (k : ScalarKind) (zs : List ℤ) → IsTrue (is_object current o) → o.value ≡ Numbers k zs
    → IsTrue (list_all (is_value k) zs)
numbers-good o k zs good e =
    second _ (list_all (is_value k) zs) (subst (λ v. IsTrue (is_good_value v)) e (object-roomy current o good).value)

module _ {b : List ℕ} {d : Directory} {key : Key} {k : ScalarKind} {i : ℕ} {p : Place} where
  element-of : {o : Object} → object_at d key ≡ Some o → IsObjectInBlock b p.handle o → Ok p.at ≡ offset_in o k i
      → ElementAt b d key k i p
  element-of {o} e s f =
      let parts =
      placed-if (same_kind (Scalar k) (kind_of o.value)) (nat_lt i (count_of o.value)) (element_at k o.name i) f in
      let n = numbers-only k o.value parts.0 in let many : count_of o.value ≡ length n.0 = ap count_of n.1 in
      let below : i < length n.0 = let l = ltb-true i (count_of o.value) parts.1 in omega arith in
      let there = slice_get-get_or n.0 i (pos 0) below in
      record {
        object = o;
        is = e;
        stands = s;
        numbers = n.0;
        value = n.1;
        at = parts.2;
        number = get_or n.0 i (pos 0);
        there = there;
        in_range = all-at (is_value k) n.0 i (numbers-good o k n.0 s.good n.1) there;
      }

  found-if : {o : Object} (q : Result ℕ Refusal) → Denotes current b d → object_at d key ≡ Some o → offset_in o k i ≡ q
      → Ok p ≡ in_object o q → ElementAt b d key k i p
  found-if {o} (Ok at) h e f g =
      let same : p ≡ record { handle = handle o.extent; at = at } = cc in
      element-of e (subst (λ (x : Place). IsObjectInBlock b x.handle o) (sym same) (standing b d key o h e))
      (ap (λ (x : Place). Ok x.at) same ∙ sym f)
  found-if (Err r) h e f g = absurd (cc)

  element-if : (r : Option Object) → Denotes current b d → object_at d key ≡ r → Ok p ≡ in_any k i r
      → ElementAt b d key k i p
  element-if None h e f = absurd (cc)
  element-if (Some o) h e f = found-if (offset_in o k i) h e refl f

  -- the place of an element is that of one
  pub element-found : Denotes current b d → Ok p ≡ place_at d key k i → ElementAt b d key k i p
  element-found h e = element-if (object_at d key) h refl e

-- ---- no such element

-- the error if there is no such element
pub data Missing (d : Directory) (key : Key) (k : ScalarKind) (i : ℕ) (r : Refusal) : Type 0 where
  Nowhere : object_at d key ≡ None → r ≡ NotFound → Missing d key k i r
  Within : (o : Object) → object_at d key ≡ Some o → Lacks o k i r → Missing d key k i r

within-if : (o : Object) (k : ScalarKind) (i : ℕ) {r : Refusal} (q : Result ℕ Refusal) → offset_in o k i ≡ q
    → Err r ≡ in_object o q → Lacks o k i r
within-if o k i (Ok at) e f = absurd (cc)
within-if o k i {r} (Err q) e f =
    let same : r ≡ q = cc in
    lacks-if o k i (element_at k o.name i) (same_kind (Scalar k) (kind_of o.value))
    (nat_lt i (count_of o.value)) refl refl (ap Err same ∙ sym e)

missing-if : {d : Directory} {key : Key} {k : ScalarKind} {i : ℕ} {r : Refusal} (p : Option Object)
    → object_at d key ≡ p → Err r ≡ in_any k i p → Missing d key k i r
missing-if None e f = Nowhere e (cc)
missing-if {k} {i} (Some o) e f = Within o e (within-if o k i (offset_in o k i) refl f)

-- an element that does not exist, and the error
pub element-missing : {d : Directory} {key : Key} {k : ScalarKind} {i : ℕ} {r : Refusal} → Err r ≡ place_at d key k i
    → Missing d key k i r
element-missing {d} {key} e = missing-if (object_at d key) refl e

-- ---- its bytes

module _ (b : List ℕ) (d : Directory) (key : Key) (k : ScalarKind) (i : ℕ) (p : Place)
    (e : ElementAt b d key k i p) where
  -- all numbers follow the head and the name
  pub numbers-stand : HasBytesAt (bytes_of b) (p.handle + (16 + padded (length e.object.name))) (spelled k e.numbers)
  numbers-stand =
      let at : handle e.object.extent + 16 + padded
      (length e.object.name) ≡ p.handle + (16 + padded (length e.object.name)) =
      let s = e.stands.at in
      omega arith in
      subst (λ a. HasBytesAt (bytes_of b) a (spelled k e.numbers)) at (subst (λ v. IsValueAt (bytes_of b)
      (handle e.object.extent + 16 + padded (length e.object.name)) v) e.value e.stands.said.value)

  -- an element is at its place
  pub element-read : read (bytes_of b) (p.handle + p.at) (size_of k) ≡ spelling k e.number
  element-read =
      let at : p.handle + p.at ≡ p.handle + (16 + padded (length e.object.name)) + size_of k * i = let f = e.at in
      omega arith in
      (λ j. read (bytes_of b) (at j) (sym (spelling-length k e.number) j))
      ∙ (HasBytesAt-element (spelling k) (spelling-length k) (bytes_of b)
      (p.handle + (16 + padded (length e.object.name))) e.numbers i numbers-stand e.there)

  -- its block has the room for it
  pub element-room : IsTrue (has_room (live_of b) p.handle (p.at + size_of k))
  element-room =
      let below = slice_get_within e.numbers i e.number e.there in
      let long : value_len e.object.value ≡ size_of k * length e.numbers = ap value_len e.value in
      let fits : size_of k * (i + 1) ≤ size_of k * length e.numbers = mul-le-mul_left (size_of k) (omega arith) in
      standing-room b p.handle (p.at + size_of k) e.object e.stands (let f = e.at in omega arith)

-- ---- the search

abbrev place_in : ScalarKind → ℕ → Option Located → Result Place Refusal
place_in k i r = elim r as (λ _. Result Place Refusal) [
  | None ↦ Err NotFound
  | Some o ↦ if same_kind (Scalar k) o.kind then element_in o k i else Err WrongKind
]

abbrev spot : ℕ → ℕ → Place
spot h at = record { handle = h; at = at }

same-spot : (h at : ℕ) (s t : Bool) → (if s then (if t then Ok (spot h at) else Err OutOfRange) else Err WrongKind)
    ≡ placed h (if s then (if t then Ok at else Err OutOfRange) else Err WrongKind)
same-spot h at true true = refl
same-spot h at true false = refl
same-spot h at false t = refl

same-place : (k : ScalarKind) (i : ℕ) (r : Option Object) → place_in k i (option_map located r) ≡ in_any k i r
same-place k i None = refl
same-place k i (Some o) = same-spot (handle o.extent) (element_at k o.name i) (same_kind (Scalar k) (kind_of o.value))
    (nat_lt i (count_of o.value))

-- the place in the object that is found is the key's place, and its error is the key's error
pub places : {s : SegmentState} (key : Key) (k : ScalarKind) (i : ℕ) {r : Option Located} {q : Result Place Refusal}
    → AnswersWith s (λ d. located_at d key) r → q ≡ place_in k i r → AnswersWith s (λ d. place_at d key k i) q
places key k i a e = record {
  answers = λ d l. e ∙ ap (place_in k i) (a.answers d l) ∙ same-place k i (object_at d key);
}

-- the place in a bound array
pub places-bound : {s : SegmentState} {k : ScalarKind} {o : Located} → IsBound (Scalar k) o s → (i : ℕ) {l : ScalarKind}
    → l ≡ k → {q : Result Place Refusal} → q ≡ element_in o l i → AnswersWith s (λ d. place_at d (key_of o) k i) q
places-bound {k = k} {o} bound i kinds e = places (key_of o) k i bound.there (e ∙ ap (λ m. element_in o m i) kinds
    ∙ sym (ap (λ (b : Bool). if b then element_in o k i else Err WrongKind) (eq-eqb (code_of (Scalar k))
    (code_of o.kind)
    (ap code_of (sym bound.of_kind)))))

-- ---- the plans

-- the plan of `set` for an array
pub set-effect : (d : Directory) (key : Key) {o : Object} (k : ScalarKind) (zs : List ℤ) (i : ℕ) (l : Literal) {z : ℤ}
    (r : Option ℤ) → object_at d key ≡ Some o → o.value ≡ Numbers k zs → value_of_literal k l ≡ Ok z
    → slice_get zs i ≡ r → effect d (asked.Set key i l) ≡ with (of_slice r)
    (λ old. Reply Done (changed d o (Numbers k (slice_set zs i z))))
set-effect d key {o} k zs i l {z} r e f g h =
    with-found d key o (λ o. set_element d o o.value i l) e ∙ ap (λ v. set_element d o v i l) f
    ∙ (λ j. with (g j) (λ z. with (of_slice (h j)) (λ old. Reply Done (changed d o (Numbers k (slice_set zs i z))))))

-- ---- the step

-- the object of an element is of its kind
pub element-kind : {b : List ℕ} {d : Directory} {key : Key} {k : ScalarKind} {i : ℕ} {p : Place}
    → (e : ElementAt b d key k i p) → same_kind (Scalar k) (kind_of e.object.value) ≡ true
element-kind {k} e =
    ap (λ v. same_kind (Scalar k) (kind_of v)) e.value ∙ eq-eqb (code_of (Scalar k)) (code_of (Scalar k)) refl

-- the step fails with the same error
lacking : (mode : Mode) (d : Directory) (key : Key) (k : ScalarKind) (i : ℕ) (r : Refusal) (c : Command) {o : Object}
    → IsOpenFor mode c → ((zs : List ℤ) → o.value ≡ Numbers k zs → slice_get zs i ≡ None → effect d c ≡ Refuse
    OutOfRange) → object_at d key ≡ Some o → Lacks o k i r → step_of_kind mode d key (Scalar k) c ≡ (Refused r, d)
lacking mode d key k i r c {o} may past e (Other s f) =
    step_of_kind-other mode d key (Scalar k) c o may e s ∙ (λ j. (Refused (sym f j), d))
lacking mode d key k i r c {o} may past e (Past s t f) =
    let n = numbers-only k o.value s in let many : count_of o.value ≡ length n.0 = ap count_of n.1 in
    let behind : length n.0 ≤ i = let l = ltb-false i (count_of o.value) t in omega arith in
    step_of_kind-found mode d key (Scalar k) c o may e s
    ∙ ap (perform d (live d)) (past n.0 n.1 (slice_get_past n.0 i behind)) ∙ (λ j. (Refused (sym f j), d))

-- a command on an element that does not exist fails
pub missing-steps : (mode : Mode) {d : Directory} {key : Key} {k : ScalarKind} {i : ℕ} {r : Refusal} (c : Command)
    → IsOpenFor mode c → ((o : Object) (zs : List ℤ) → object_at d key ≡ Some o → o.value ≡ Numbers k zs
    → slice_get zs i ≡ None → effect d c ≡ Refuse OutOfRange) → Missing d key k i r
    → step_of_kind mode d key (Scalar k) c ≡ (Refused r, d)
missing-steps mode {d} {key} {k} c may past (Nowhere e f) =
    step_of_kind-not_found mode d key (Scalar k) c may e ∙ (λ j. (Refused (sym f j), d))
missing-steps mode {d} {key} {k} {i} {r} c may past (Within o e l) =
    lacking mode d key k i r c may (λ zs. past o zs e) e l

-- ---- the call

-- an element is found, for the view before the call
module _ {s t : SegmentState} (key : Key) (k : ScalarKind) (i : ℕ) (view : s ≡ t) {p : Place} {n : ℕ} (long : n
    ≡ size_of k) (there : AnswersWith t (λ d. place_at d key k i) (Ok p)) where
  seen-place : AnswersWith s (λ d. place_at d key k i) (Ok p)
  seen-place = subst (λ (u : SegmentState). AnswersWith u (λ d. place_at d key k i) (Ok p)) (sym view) there

  -- the block has the room of the element
  pub place-room : IsSegment s.cut.bytes → IsTrue (has_room (live_of s.cut.bytes) p.handle (p.at + n))
  place-room b = subst (λ m. IsTrue (has_room (live_of s.cut.bytes) p.handle (p.at + m))) (sym long)
      (element-room s.cut.bytes b.0 key k i p (element-found b.1.denotes (seen-place.answers b.0 b.1)))

  -- the value of the bytes is the element
  pub found-there : {r : Result ℤ Refusal} {bytes : List ℕ} → bytes ≡ read (bytes_of s.cut.bytes) (p.handle + p.at) n
      → ((z : ℤ) → IsTrue (is_value k z) → bytes ≡ spelling k z → r ≡ Ok z)
      → AnswersWith t (λ d. element_of (numbers_at d key (Scalar k)) i) r
  found-there {r} are reads =
      subst (λ (u : SegmentState). AnswersWith u (λ d. element_of (numbers_at d key (Scalar k)) i) r) view (record {
        answers = λ d l.
            let e = element-found l.denotes (seen-place.answers d l) in
            reads e.number e.in_range
            (are ∙ ap (read (bytes_of s.cut.bytes) (p.handle + p.at)) long ∙ element-read s.cut.bytes d key k i p e)
            ∙ sym (ap (λ zs. element_of zs i) (numbers-listed d key (Scalar k) e.object e.is
            (Numbers k e.numbers) e.value refl)
            ∙ ap (λ q. ok_or q OutOfRange) e.there);
      })

-- ---- the value that is read

-- a value of a type with the number that the bytes encode
pub number-read : {T : Type 0} (k : ScalarKind) (z : ℤ) (whole : T
    → ℤ) {bytes : List ℕ} (q : Option T) {r : Result T Refusal} → r ≡ ok_or q WrongKind → IsTrue (is_value k z)
    → bytes ≡ spelling k z → MatchOption q (is_spelling k bytes ≡ false) (λ x. (is_spelling k bytes ≡ true)
    × (whole x ≡ value_of k (little_number (size_of k) bytes))) → whole_of whole r ≡ Ok z
number-read k z whole None f v e h = absurd (false≢true (sym h ∙ ap (is_spelling k) e ∙ (all_spell_one k z v).is_one))
number-read k z whole (Some x) f v e h = ap (whole_of whole) f ∙ ap Ok (h.1
    ∙ ap (λ (bs : List ℕ). value_of k (little_number (size_of k) bs)) e ∙ (all_spell_one k z v).reads)

-- ---- the literal of a value

-- the literal is read as the value
pub literal-read : (k : ScalarKind) (z : ℤ) → is_value k z ≡ true → value_of_literal k (literal_of k z) ≡ Ok z
literal-read BoolKind (pos zero) h = refl
literal-read BoolKind (pos (suc zero)) h = refl
literal-read BoolKind (pos (suc (suc n))) h = absurd (grind arith)
literal-read BoolKind (negsuc n) h = absurd (cc)
literal-read k z h = ap (λ (b : Bool). let r : Result ℤ Refusal = if b then Ok z else Err OutOfRange in r) h

-- the literals of values are read back as the values
pub literals-read : (k : ScalarKind) (zs : List ℤ) → IsTrue (list_all (is_value k) zs)
    → values_of k (map (literal_of k) zs) ≡ Ok zs
literals-read k [] h = refl
literals-read k (z ∷ zs) h =
    let rest = literals-read k zs (second (is_value k z) (list_all (is_value k) zs) h) in
    λ i. cons_values ((literal-read k z (first (is_value k z) (list_all (is_value k) zs) h)) i) (rest i)

-- A number of a key's object is written: the directory of the bytes after it is the step's.

-- ---- the numbers with one replaced

list_all-set : (t : ℤ → Bool) (zs : List ℤ) (i : ℕ) (z : ℤ) → IsTrue (list_all t zs) → IsTrue (t z)
    → IsTrue (list_all t (set zs i z))
list_all-set t [] i z h v = h
list_all-set t (y ∷ ys) zero z h v = and_from (t z) (list_all t ys) v (second (t y) (list_all t ys) h)
list_all-set t (y ∷ ys) (suc i) z h v = and_from (t y) (list_all t (set ys i z)) (first (t y) (list_all t ys) h)
    (list_all-set t ys i z (second (t y) (list_all t ys) h) v)

-- as many values make the object another
pub numbers-object : (o : Object) (k : ScalarKind) (zs new : List ℤ)
    → IsTrue (is_object current o) → o.value ≡ Numbers k zs → length new ≡ length zs
    → IsTrue (list_all (is_value k) new) → IsTrue (is_object current (with_value o (Numbers k new)))
numbers-object o k zs new h e many all =
    let h1 : IsTrue (is_object current (with_value o (Numbers k zs))) =
    subst (λ v. IsTrue (is_object current (with_value o v))) e h in
    let named = has_good_name current o in
    let serving : ℕ → Bool = λ n. serves o.extent ObjectRole (16 + padded (length o.name) + size_of k * n) in
    let counted : ℕ → Bool = λ n. nat_le 1 n && nat_le n 1048576 in
    let before = named && true && (counted (length zs) && list_all (is_value k) zs) in
    let value =
    second (named && true) (counted (length zs) && list_all (is_value k) zs) (first before (serving (length zs)) h1) in
    and_from (named && true && (counted (length new) && list_all (is_value k) new)) (serving (length new))
    (and_from (named && true) (counted (length new) && list_all (is_value k) new)
    (first (named && true) (counted (length zs) && list_all (is_value k) zs) (first before (serving (length zs)) h1))
    (and_from (counted (length new)) (list_all (is_value k) new)
    (subst (λ n. IsTrue (counted n)) (sym many) (first (counted (length zs)) (list_all (is_value k) zs) value)) all))
    (subst (λ n. IsTrue (serving n)) (sym many) (second before (serving (length zs)) h1))

-- ---- the element is written

module _ (old new : WindowState) (d : Directory) (key : Key) (k : ScalarKind) (i : ℕ) (p : Place)
    (e : ElementAt old.bytes d key k i p) where
  -- the object with the new number
  abbrev pub with_number : ℤ → Object
  with_number z = with_value e.object (Numbers k (set e.numbers i z))

  -- the offset of the array's numbers, and of one number
  start : value_start e.object ≡ p.handle + (16 + padded (length e.object.name))
  start = let s = e.stands.at in omega arith

  start-is : p.handle + p.at ≡ value_start e.object + size_of k * i
  start-is = let s = e.stands.at in let f = e.at in omega arith

  below : i < length e.numbers
  below = slice_get_within e.numbers i e.number e.there

  good : (z : ℤ) → IsTrue (is_value k z) → IsTrue (is_object current (with_number z))
  good z v = numbers-object e.object k e.numbers (set e.numbers i z) e.stands.good e.value (length-set e.numbers i z)
      (list_all-set (is_value k) e.numbers i z (numbers-good e.object k e.numbers e.stands.good e.value) v)

  -- memory has the numbers
  written : (z : ℤ) → SameBytesExcept (bytes_of old.bytes) (bytes_of new.bytes) (p.handle + p.at) (size_of k)
      → HasBytesAt (bytes_of new.bytes) (p.handle + p.at) (spelling k z)
      → IsValueAt (bytes_of new.bytes) (value_start e.object) (Numbers k (set e.numbers i z))
  written z s w =
      let m = bytes_of old.bytes in let m' = bytes_of new.bytes in
      HasBytesAt-set (spelling k) (spelling-length k) (value_start e.object) e.numbers i z
      (subst (λ a. HasBytesAt m a (spelled k e.numbers)) (sym start) (numbers-stand old.bytes d key k i p e)) below
      (subst (λ a. SameBytesExcept m m' a (size_of k)) start-is s)
      (subst (λ a. HasBytesAt m' a (spelling k z)) start-is w)

  -- the bytes denote the directory with the new number
  pub denotes-number : (z : ℤ) → Denotes current old.bytes d → IsTrue (is_value k z)
      → ChangesBytes current old new (p.handle + p.at) (size_of k) → HasBytesAt (bytes_of new.bytes) (p.handle + p.at)
      (spelling k z) → Denotes current new.bytes (with_changed d (with_number z))
  denotes-number z h v c w =
      let o : Object = e.object in let f = key-found current d key o h.directory e.is in
      let roomy = object-roomy current o e.stands.good in
      let room : 16 + padded (length o.name) + value_len o.value + 16 ≤ o.extent.len = roomy.room in
      let long : value_len o.value ≡ size_of k * length e.numbers = ap value_len e.value in let l = below in
      let fits : size_of k * (i + 1) ≤ size_of k * length e.numbers = mul-le-mul_left (size_of k) (omega arith) in
      let at = start-is in
      denotes-rewritten o (Numbers k (set e.numbers i z)) h f (ap kind_of (sym e.value))
      (length-set e.numbers i z ∙ ap count_of (sym e.value)) (ap value_extents (sym e.value)) (good z v) (omega arith)
      (omega arith) c (written z c.rest w)

-- ---- the step

-- an element is set
stored : (mode : Mode) {b : List ℕ} {d : Directory} {key : Key} {k : ScalarKind} {i : ℕ} {p : Place} (l : Literal)
    {z : ℤ} → (e : ElementAt b d key k i p) → is_read_only mode ≡ false → value_of_literal k l ≡ Ok z
    → step_of_kind mode d key (Scalar k)
    (asked.Set key i l) ≡ (Done, with_changed d (with_value e.object (Numbers k (set e.numbers i z))))
stored mode {d} {key} {k} {i} l e writing f = step_of_kind-found mode d key (Scalar k) (asked.Set key i l) e.object
    (open-writing mode (asked.Set key i l) writing) e.is (element-kind e)
    ∙ ap (perform d (live d)) (set-effect d key k e.numbers i l (Some e.number) e.is e.value f e.there)

-- ---- the call

-- if no element is found, the step has the same error
pub stores-nothing : {s : SegmentState} (key : Key) (k : ScalarKind) (i : ℕ) (z : ℤ) {r : Refusal}
    → is_read_only s.mode ≡ false → is_value k z ≡ true → AnswersWith s (λ d. place_at d key k i) (Err r)
    → TakesStepOfKind s s key (Scalar k) (asked.Set key i (literal_of k z)) (Refused r)
stores-nothing {s} key k i z {r} writing v a = by_no_change_of_kind s key (Scalar k) (asked.Set key i (literal_of k z))
    (Refused r) (λ d l. missing-steps s.mode (asked.Set key i (literal_of k z)) (open-writing s.mode (asked.Set key i
    (literal_of k z)) writing) (λ o zs e f. set-effect d key k zs i (literal_of k z) None e f (literal-read k z v))
    (element-missing (a.answers d l)))

-- a spelling was written at the place: the call is the step
pub stores-number : {s t : SegmentState} (view : s ≡ t) (b : IsSegment s.cut.bytes) {new : WindowState} {key : Key}
    (k : ScalarKind) (i : ℕ) {p : Place} (z : ℤ) {bytes : List ℕ}
    → is_read_only t.mode ≡ false → is_value k z ≡ true → bytes ≡ spelling k z
    → AnswersWith t (λ d. place_at d key k i) (Ok p) → ChangesBytes current s.cut new (p.handle + p.at) (length bytes)
    → HasBytesAt (bytes_of new.bytes) (p.handle + p.at) bytes
    → Answered done_answer s t new key (Scalar k) (asked.Set key i (literal_of k z)) (Ok tt)
stores-number {s} {t} view b {new} {key} k i {p} z may v f there c w = answered s t view b new key (Scalar k)
    (asked.Set key i (literal_of k z)) (Ok tt) (done-so (by_step_of_kind s (record s { cut = new }) key (Scalar k)
    (asked.Set key i (literal_of k z)) Done (record { mode = refl; place = c.place }) (λ d l.
    let e = element-found l.denotes ((subst (λ (u : SegmentState). AnswersWith u (λ d. place_at d key k i) (Ok p))
    (sym view) there).answers d l) in
    lands (with_changed d (with_value e.object (Numbers k (set e.numbers i z)))) (record {
      is = stored s.mode (literal_of k z) e (subst (λ (u : SegmentState). is_read_only u.mode ≡ false) (sym view) may)
          (literal-read k z v);
      denotes = denotes-number s.cut new d key k i p e z l.denotes v (subst (λ n. ChangesBytes current s.cut new
          (p.handle + p.at) n) (ap (λ (bs : List ℕ). length bs) f ∙ spelling-length k z) c)
          (subst (HasBytesAt (bytes_of new.bytes) (p.handle + p.at)) f w);
    }))))

-- only the bytes of the element that is found change
pub changes-element : {s t : SegmentState} (view : s ≡ t) {new : WindowState} (key : Key) (k : ScalarKind) (i : ℕ)
    {p : Place} {n : ℕ} → n ≡ size_of k → AnswersWith t (λ d. place_at d key k i) (Ok p)
    → ChangesBytes current s.cut new (p.handle + p.at) n → ChangesElement t (record s { cut = new }) key k i
changes-element {s} {t} view {new} key k i {p} long there c d said =
    let stays = λ (u : SegmentState) (q : Place). SameBytesExcept (bytes_of u.cut.bytes) (bytes_of new.bytes)
    (q.handle + q.at) in subst (λ r. IfOk r (λ (q : Place). stays t q (size_of k))) (there.answers d said)
    (subst (λ (u : SegmentState). stays u p (size_of k)) view (subst (stays s p) long c.rest))

-- The values of a type as the whole numbers of its kind, and lists of them.

-- ---- lists

module _ {T : Type 0} (w : T → ℤ) where
  -- inserting an element inserts its number
  pub whole-insert : (xs : List T) (i : ℕ) (x : T) → map w (insert xs i x) ≡ insert (map w xs) i (w x)
  whole-insert xs i x =
      map-append w (take i xs) (x ∷ drop i xs) ∙ (λ j. sym (take-map w i xs) j ++ w x ∷ sym (drop-map w i xs) j)

  -- removing an element removes its number
  pub whole-remove : (xs : List T) (i : ℕ) → map w (remove xs i) ≡ remove (map w xs) i
  whole-remove xs i =
      map-append w (take i xs) (drop (suc i) xs) ∙ (λ j. sym (take-map w i xs) j ++ sym (drop-map w (suc i) xs) j)

  -- setting an element sets its number
  pub whole-set : (xs : List T) (i : ℕ) (x : T) → map w (slice_set xs i x) ≡ slice_set (map w xs) i (w x)
  whole-set [] i x = refl
  whole-set (y ∷ ys) zero x = refl
  whole-set (y ∷ ys) (suc i) x = ap (λ zs. w y ∷ zs) (whole-set ys i x)

-- ---- spellings

-- the laws of a type for its values and their numbers
pub record IsOfKind {T : Type 0} (k : ScalarKind) (w : T → ℤ) (size : ℕ) (test : T → Bool)
    (sp : T → List ℕ) : Type 0 where
  pub long : size ≡ size_of k
  pub values : (x : T) → test x ≡ is_value k (w x)
  pub spelled : (x : T) → sp x ≡ spelling k (w x)
  pub reached : (z : ℤ) → is_value k z ≡ true → (x : T) × (w x ≡ z)

module _ {T : Type 0} (k : ScalarKind) (w : T → ℤ) (size : ℕ) (test : T → Bool) (sp : T → List ℕ)
    (law : IsOfKind k w size test sp) where
  -- elements and their numbers are spelled alike
  pub whole-spelled : (xs : List T) → flat_map sp xs ≡ spelled k (map w xs)
  whole-spelled [] = refl
  whole-spelled (x ∷ xs) = λ i. law.spelled x i ++ whole-spelled xs i

  -- elements and their numbers are values alike
  pub whole-values : (xs : List T) → list_all test xs ≡ list_all (is_value k) (map w xs)
  whole-values [] = refl
  whole-values (x ∷ xs) = λ i. law.values x i && whole-values xs i

  -- numbers of the kind are the numbers of values
  pub whole-reached : (zs : List ℤ) → IsTrue (list_all (is_value k) zs) → (xs : List T) × (map w xs ≡ zs)
  whole-reached [] h = ([], refl)
  whole-reached (z ∷ zs) h =
      let one = law.reached z (first (is_value k z) (list_all (is_value k) zs) h) in
      let rest = whole-reached zs (second (is_value k z) (list_all (is_value k) zs) h) in
      (one.0 ∷ rest.0, λ i. one.1 i ∷ rest.1 i)
