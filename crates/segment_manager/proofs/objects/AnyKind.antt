-- Calls on elements of the object's own kind: the step of the kind is the command's own.
use Rattle.segment_manager.proofs.Common as common
use Rattle.seg_types.specs.Commands as asked
use Rattle.segment_manager.specs.Step as step
use Rattle.segment_manager.proofs.containers.{Changeable.refuses, Changeable.says-kind, ItemSteps.same_plan-steps}
use Rattle.segment_manager.proofs.containers.ContentPlans.{erase-other, insert-other, insert-plan, is_no_vector}
use Rattle.segment_manager.proofs.containers.ContentPlans.{pop-other, push-other, push-plan}
use Rattle.segment_manager.proofs.containers.ItemSteps.{IsOfKindAt, kind-told, of_kind-steps, refused-steps}
use Rattle.segment_manager.proofs.directory.AnyDirectory.{open-reading, step-refuse, with-found, with-not_found}
use Rattle.segment_manager.proofs.objects.{Locating.step_of_kind-by_key, Stored.literal-read}
use Rattle.segment_manager.specs.Calls.{elements_at, scalar_reply}
use Rattle.segment_manager.specs.containers.Changeable.{IsElement, IsNoElement}
use common.{Answer, AnswersQuery, AnswersWith, BackingArray, ByHandle, Bytes, Command, DenotesCurrent, Directory, Done}
use common.{Elements, Err, IsChangeable, IsChangeableObject, IsLocated, IsUnchangeable, IsValueOf, Key, Kind, List}
use common.{Literal, Located, MapKind, Mode, None, NotFound, Numbers, Object, Ok, Option, OwnedText, Pairs, Plan}
use common.{Quoted, Refusal, Refuse, Refused, Reply, Result, ScalarKind, ScalarValue, SegmentState, Some, StringsKind}
use common.{TakesStep, TakesStepOfKind, Texts, U8, Value, Vector, WrongKind, ap, changed, effect, element_at}
use common.{elements_of, false, get, is_read_only, is_value, kind_at, kind_of, kind_of_scalar, length, literal_of, live}
use common.{map, nat_lt, object_at, perform, pos, refl, same_Some, set, slice_set, step, subst, sym, true}
use common.{value_of_literal, value_of_scalar, with, with_items, ℕ, ℤ, ◌∙◌, ◌≡◌}

-- ---- the elements of an object

abbrev elements_in : Option Object → Result ScalarKind Refusal
elements_in r =
    elim r as (λ _. Result ScalarKind Refusal) [ None ↦ Err NotFound | Some o ↦ elements_of (kind_of o.value) ]

-- the object of a key has elements of a kind
pub record HasElements (d : Directory) (key : Key) (k : ScalarKind) : Type 0 where
  pub object : Object
  pub is : object_at d key ≡ Some object
  pub elements : elements_of (kind_of object.value) ≡ Ok k

has-if : {d : Directory} {key : Key} {k : ScalarKind} (r : Option Object) → object_at d key ≡ r → Ok k ≡ elements_in r
    → HasElements d key k
has-if None e f = absurd (cc)
has-if (Some o) e f = record { object = o; is = e; elements = sym f }

pub has-elements : (d : Directory) (key : Key) {k : ScalarKind} → Ok k ≡ elements_at d key → HasElements d key k
has-elements d key e = has-if (object_at d key) refl e

-- or there is no such element: no object has the key, or its elements are not scalars
data HasNone (d : Directory) (key : Key) (r : Refusal) : Type 0 where
  Nowhere : object_at d key ≡ None → NotFound ≡ r → HasNone d key r
  Other : (o : Object) → object_at d key ≡ Some o → elements_of (kind_of o.value) ≡ Err r → HasNone d key r

none-if : {d : Directory} {key : Key} {r : Refusal} (p : Option Object) → object_at d key ≡ p → Err r ≡ elements_in p
    → HasNone d key r
none-if {r} None e f = let same : NotFound ≡ r = cc in Nowhere e same
none-if (Some o) e f = Other o e (sym f)

-- ---- reading

-- no element is read of an object whose elements are not scalars
not_read : (d : Directory) (v : Value) (i : ℕ) {r : Refusal} → elements_of (kind_of v) ≡ Err r
    → (kind_of v ≡ StringsKind → ⊥) → get d v i ≡ Refuse r
not_read d (Pairs k v ps) i {r} e n = let why : WrongKind ≡ r = cc in ap Refuse why
not_read d (Texts ps t) i e n = absurd (n refl)
not_read d v i e n = absurd (cc)

step-not_read : (mode : Mode) {d : Directory} {key : Key} (i : ℕ) {r : Refusal} → ((o : Object) → object_at d key ≡ Some
    o → kind_of o.value ≡ StringsKind → ⊥) → HasNone d key r → step mode d (asked.Get key i) ≡ (Refused r, d)
step-not_read mode {d} {key} i n (Nowhere e f) = step-refuse mode d (asked.Get key i) NotFound (open-reading mode
    (asked.Get key i) refl) (with-not_found d key (λ o. get d o.value i) e) ∙ (λ j. (Refused (f j), d))
step-not_read mode {d} {key} i {r} n (Other o e f) = step-refuse mode d (asked.Get key i) r (open-reading mode
    (asked.Get key i) refl) (with-found d key o (λ o. get d o.value i) e ∙ not_read d o.value i f (n o e))

abbrev reply_of : Mode → Directory → Command → Result ScalarKind Refusal → Answer
reply_of mode d c q = elim q as (λ _. Answer) [ Err r ↦ Refused r | Ok k ↦ (step mode d c).0 ]

machine-if : (mode : Mode) (d : Directory) (key : Key) (i : ℕ) (q : Result ScalarKind Refusal)
    → ((o : Object) → object_at d key ≡ Some o → kind_of o.value ≡ StringsKind → ⊥) → elements_at d key ≡ q
    → reply_of mode d (asked.Get key i) q ≡ (step mode d (asked.Get key i)).0
machine-if mode d key i (Ok k) n e = refl
machine-if mode d key i (Err r) n e =
    sym (ap (λ (x : Answer × Directory). x.0) (step-not_read mode i n (none-if (object_at d key) refl (sym e))))

-- the object of a key is no vector of texts
abbrev pub HasNoTexts : SegmentState → Key → Type 0
HasNoTexts s key = (d : Directory) → DenotesCurrent s.cut.bytes d → (o : Object) → object_at d key ≡ Some o
    → kind_of o.value ≡ StringsKind → ⊥

-- a call that reads only scalars has the machine's answer if the elements are not texts
pub scalars-replies : (s : SegmentState) (key : Key) (i : ℕ) (answer : Answer) → HasNoTexts s key
    → AnswersWith s (λ d. scalar_reply s.mode d key (asked.Get key i)) answer → AnswersQuery s (asked.Get key i) answer
scalars-replies s key i answer n r = record {
  answers = λ d l. r.answers d l ∙ machine-if s.mode d key i (elements_at d key) (n d l) refl;
}

-- ---- writing: the literal

-- the plan by the value of the literal
abbrev set_with : Directory → Object → Value → ℕ → List ℤ → Result ℤ Refusal → Plan
set_with d o v i zs r =
    with r (λ z. with (element_at zs i) (λ old. Reply Done (changed d o (with_items v (slice_set zs i z)))))

set-plan : (d : Directory) (o : Object) (v : Value) (i : ℕ) {k : ScalarKind} → elements_of (kind_of v) ≡ Ok k
    → (zs : List ℤ) × ((l : Literal) → set d o v i l ≡ set_with d o v i zs (value_of_literal k l))
set-plan d o (Numbers j zs) i {k} e =
    let same : j ≡ k = cc in (zs, λ l. ap (λ n. set_with d o (Numbers j zs) i zs (value_of_literal n l)) same)
set-plan d o (Elements j zs t) i {k} e =
    let same : j ≡ k = cc in (zs, λ l. ap (λ n. set_with d o (Elements j zs t) i zs (value_of_literal n l)) same)
set-plan d o (Bytes bs t) i {k} e =
    let same : U8 ≡ k = cc in
    (map pos bs, λ l. ap (λ n. set_with d o (Bytes bs t) i (map pos bs) (value_of_literal n l)) same)
set-plan d o v i e = absurd (cc)

set-effect : {d : Directory} {key : Key} {k : ScalarKind} (i : ℕ) (l : Literal) {r : Result ℤ Refusal}
    (e : HasElements d key k) → value_of_literal k l ≡ r → effect d (asked.Set key i l) ≡ set_with d e.object
    e.object.value i (set-plan d e.object e.object.value i e.elements).0 r
set-effect {d} {key} i l e f =
    let p = set-plan d e.object e.object.value i e.elements in
    with-found d key e.object (λ o. set d o o.value i l) e.is ∙ p.1 l ∙ ap (set_with d e.object e.object.value i p.0) f

-- a literal that is read as the value is as good as the value's own
pub any-literal : {old : SegmentState} {new : SegmentState} (key : Key) {k : ScalarKind} (i : ℕ) (l : Literal) {z : ℤ}
    {answer : Answer} → AnswersWith old (λ d. elements_at d key) (Ok k) → value_of_literal k l ≡ Ok z → is_value k z
    ≡ true → TakesStep old new (asked.Set key i (literal_of k z)) answer → TakesStep old new (asked.Set key i l) answer
any-literal {old} {new} key {k} i l {z} {answer} a f v r =
    same_plan-steps old new (asked.Set key i l) (asked.Set key i (literal_of k z)) answer refl (λ d w.
    let e = has-elements d key (a.answers d w) in
    set-effect i l e f ∙ sym (set-effect i (literal_of k z) e (literal-read k z v))) r

-- a literal that is no value of the kind fails
pub any-no_value : (s : SegmentState) (key : Key) (k : ScalarKind) (i : ℕ) (l : Literal) (r : Refusal)
    → AnswersWith s (λ d. elements_at d key) (Ok k) → is_read_only s.mode ≡ false → value_of_literal k l ≡ Err r
    → TakesStep s s (asked.Set key i l) (Refused r)
any-no_value s key k i l r a writing f = refused-steps s (asked.Set key i l) r writing
    (λ d w. ap (perform d (live d)) (set-effect i l (has-elements d key (a.answers d w)) f))

-- ---- objects of other kinds than texts

-- the key's object has another kind
pub kind-no_texts : (s : SegmentState) (key : Key) (kind : Kind) → AnswersWith s (λ d. kind_at d key) (Ok kind)
    → (kind ≡ StringsKind → ⊥) → HasNoTexts s key
kind-no_texts s key kind a n d l o e =
    let k = kind-told d key kind (a.answers d l) in
    λ f. n (sym (ap (λ (p : Object). kind_of p.value) (sym (same_Some k.object o (sym k.is ∙ e))) ∙ k.kind_is) ∙ f)

-- Commands on elements by literals: which call is the step of the command, by the kind of the object.

-- ---- values by their kinds

-- a vector of numbers of a kind
pub record IsElements (k : ScalarKind) (v : Value) : Type 0 where
  pub numbers : List ℤ
  pub table : BackingArray
  pub is : v ≡ Elements k numbers table

-- a value of a vector's kind is elements
pub vector-if : (k : ScalarKind) (v : Value) → kind_of v ≡ Vector k → IsElements k v
vector-if k (Elements l zs t) e =
    let same : l ≡ k = cc in record { numbers = zs; table = t; is = λ i. Elements (same i) zs t }
vector-if k v e = absurd (cc)

-- or of texts
pub record IsTexts (v : Value) : Type 0 where
  pub texts : List OwnedText
  pub table : BackingArray
  pub is : v ≡ Texts texts table

-- a value of the kind of vectors of strings is strings
pub texts-if : (v : Value) → kind_of v ≡ StringsKind → IsTexts v
texts-if (Texts ps t) e = record { texts = ps; table = t; is = refl }
texts-if v e = absurd (cc)

-- or of neither
no_vector-if : (v : Value) → ((k : ScalarKind) → kind_of v ≡ Vector k → ⊥) → (kind_of v ≡ StringsKind → ⊥)
    → is_no_vector v ≡ true
no_vector-if (Elements k zs t) n m = absurd (n k refl)
no_vector-if (Texts ps t) n m = absurd (m refl)
no_vector-if v n m = refl

-- ---- there is no object with the key that can be changed

module _ {s : SegmentState} {key : Key} {why : Refusal} (h : IsUnchangeable s key why) where
  -- an object that cannot be changed takes no element
  pub unchangeable-element : (l : Literal) → IsNoElement s key l why
  unchangeable-element l = record {
    push = h.refuses (asked.Push key l) refl (λ d n. with-not_found d key (λ o. step.push d o o.value l) n);
    insert = λ i. h.refuses (asked.Insert key i l) refl
        (λ d n. with-not_found d key (λ o. step.insert_at d o o.value i l) n);
  }

  -- `pop` from an object that cannot be changed fails
  pub pop-unchangeable : TakesStep s s (asked.Pop key) (Refused why)
  pop-unchangeable = h.refuses (asked.Pop key) refl (λ d n. with-not_found d key (λ o. step.pop d o o.value) n)

  -- `erase` from an object that cannot be changed fails
  pub erase-unchangeable : (i : ℕ) → TakesStep s s (asked.Erase key i) (Refused why)
  erase-unchangeable i =
      h.refuses (asked.Erase key i) refl (λ d n. with-not_found d key (λ o. step.erase d o o.value i) n)

  -- `assign` to an object that cannot be changed fails
  pub assign-unchangeable : (ls : List Literal) → TakesStep s s (asked.Assign key ls) (Refused why)
  assign-unchangeable ls =
      h.refuses (asked.Assign key ls) refl (λ d n. with-not_found d key (λ o. step.assign d o o.value ls) n)

  -- `set` of an object that cannot be changed fails
  pub set-unchangeable : (i : ℕ) (l : Literal) → TakesStep s s (asked.Set key i l) (Refused why)
  set-unchangeable i l =
      h.refuses (asked.Set key i l) refl (λ d n. with-not_found d key (λ o. step.set d o o.value i l) n)

-- ---- the object of the key is no vector

-- the kind in the result is the object's
pub told : {s : SegmentState} {key : Key} {kind : Kind} → AnswersWith s (λ d. kind_at d key) (Ok kind) → (d : Directory)
    → DenotesCurrent s.cut.bytes d → IsOfKindAt d key kind
told {s} {key} {kind} a d st = kind-told d key kind (a.answers d st)

module _ {s : SegmentState} {key : Key} {o : Located} (h : IsChangeableObject s key o)
    (other : (k : ScalarKind) → o.kind ≡ Vector k → ⊥) (no_texts : o.kind ≡ StringsKind → ⊥) where
  there : {d : Directory} → DenotesCurrent s.cut.bytes d → IsOfKindAt d key o.kind
  there {d} st = told (says-kind h.located refl) d st

  none : {d : Directory} (st : DenotesCurrent s.cut.bytes d) → is_no_vector (there st).object.value ≡ true
  none st = no_vector-if (there st).object.value (λ k e. other k (sym (there st).kind_is ∙ e))
      (λ e. no_texts (sym (there st).kind_is ∙ e))

  -- an object that is no vector takes no element
  pub no_vector-element : (l : Literal) → IsNoElement s key l WrongKind
  no_vector-element l = record {
    push = refuses s (asked.Push key l) WrongKind h.writing
        (λ d st. push-other d key (there st).object (there st).is (none st) l);
    insert = λ i. refuses s (asked.Insert key i l) WrongKind h.writing
        (λ d st. insert-other d key (there st).object (there st).is (none st) i l);
  }

  -- `pop` from an object that is no vector is refused
  pub pop-no_vector : TakesStep s s (asked.Pop key) (Refused WrongKind)
  pop-no_vector =
      refuses s (asked.Pop key) WrongKind h.writing (λ d st. pop-other d key (there st).object (there st).is (none st))

  -- `erase` from an object that is no vector is refused
  pub erase-no_vector : (i : ℕ) → TakesStep s s (asked.Erase key i) (Refused WrongKind)
  erase-no_vector i = refuses s (asked.Erase key i) WrongKind h.writing
      (λ d st. erase-other d key (there st).object (there st).is (none st) i)

-- ---- it is a vector

module _ {s : SegmentState} (key : Key) (k : ScalarKind) (a : AnswersWith s (λ d. kind_at d key) (Ok (Vector k))) where
  held : {d : Directory} (st : DenotesCurrent s.cut.bytes d) → IsElements k (told a d st).object.value
  held {d} st = vector-if k (told a d st).object.value (told a d st).kind_is

  -- a literal that is read as a value of the kind is as good as the value's own
  push-read : {new : SegmentState} (l : Literal) {z : ℤ} {answer : Answer} → value_of_literal k l ≡ Ok z
      → is_value k z ≡ true → TakesStepOfKind s new key (Vector k) (asked.Push key (literal_of k z)) answer
      → TakesStep s new (asked.Push key l) answer
  push-read {new} l {z} {answer} e v r =
      same_plan-steps s new (asked.Push key l) (asked.Push key (literal_of k z)) answer refl (λ d st.
      let f = told a d st in let h = held st in
      push-plan d key f.object k h.numbers h.table f.is h.is l (Ok z) e
      ∙ sym (push-plan d key f.object k h.numbers h.table f.is h.is (literal_of k z) (Ok z) (literal-read k z v)))
      (of_kind-steps s new key (Vector k) (asked.Push key (literal_of k z)) answer a r)

  insert-read : {new : SegmentState} (i : ℕ) (l : Literal) {z : ℤ} {answer : Answer} → value_of_literal k l ≡ Ok z
      → is_value k z ≡ true → TakesStepOfKind s new key (Vector k) (asked.Insert key i (literal_of k z)) answer
      → TakesStep s new (asked.Insert key i l) answer
  insert-read {new} i l {z} {answer} e v r =
      same_plan-steps s new (asked.Insert key i l) (asked.Insert key i (literal_of k z)) answer refl (λ d st.
      let f = told a d st in let h = held st in
      let outside = nat_lt (length h.numbers) i in
      insert-plan d key f.object k h.numbers h.table f.is h.is i l (Ok z) outside e refl
      ∙ sym (insert-plan d key f.object k h.numbers h.table f.is h.is i (literal_of k z) (Ok z) outside
      (literal-read k z v) refl)) (of_kind-steps s new key (Vector k) (asked.Insert key i (literal_of k z)) answer a r)

  -- a literal that is no value of the kind fails
  refused-element : {l : Literal} {why : Refusal} → is_read_only s.mode ≡ false → value_of_literal k l ≡ Err why
      → IsNoElement s key l why
  refused-element {l} {why} writing e = record {
    push = refuses s (asked.Push key l) why writing (λ d st. push-plan d key (told a d st).object k (held st).numbers
        (held st).table (told a d st).is (held st).is l (Err why) e);
    insert = λ i. refuses s (asked.Insert key i l) why writing
        (λ d st. insert-plan d key (told a d st).object k (held st).numbers (held st).table (told a d st).is
        (held st).is i l (Err why) (nat_lt (length (held st).numbers) i) e refl);
  }

-- the literal as a value of the object's elements
module _ {s : SegmentState} {key : Key} {o : Located} (h : IsChangeableObject s key o) {k : ScalarKind} (is : o.kind
    ≡ Vector k) where
  -- a literal that is a value is an element
  pub element-read : {l : Literal} (v : ScalarValue) → IsValueOf k (value_of_literal k l) (Ok v) → IsElement s key l v
  element-read {l} v (same, value, range) = record {
    is = says-kind h.located (is ∙ ap Vector (sym same));
    value = subst (λ j. value_of_literal j l ≡ Ok (value_of_scalar v)) (sym same) value;
    range = subst (λ j. is_value j (value_of_scalar v) ≡ true) (sym same) range;
  }

  -- a literal that is no value is no element
  pub no_value-element : {l : Literal} {why : Refusal} → value_of_literal k l ≡ Err why → IsNoElement s key l why
  no_value-element {l} {why} e = refused-element key k (says-kind h.located is) h.writing e

abbrev own : ScalarValue → Literal
own v = literal_of (kind_of_scalar v) (value_of_scalar v)

-- a new element, inserted for the handle of the vector
module _ {s : SegmentState} {key : Key} {o : Located} (located : IsLocated s key o) {l : Literal} {v : ScalarValue}
    (e : IsElement s key l v) {new : SegmentState} {answer : Answer} where
  -- a pushed element is the step of the command
  pub push-element : TakesStepOfKind s new (ByHandle o.handle) (Vector (kind_of_scalar v))
      (asked.Push (ByHandle o.handle) (own v)) answer → TakesStep s new (asked.Push key l) answer
  push-element r = push-read key (kind_of_scalar v) e.is l e.value e.range
      (step_of_kind-by_key s key o located new (Vector (kind_of_scalar v)) (asked.Push key (own v)) answer r)

  -- an inserted element is the step of the command
  pub insert-element : (i : ℕ) → TakesStepOfKind s new (ByHandle o.handle) (Vector (kind_of_scalar v))
      (asked.Insert (ByHandle o.handle) i (own v)) answer → TakesStep s new (asked.Insert key i l) answer
  insert-element i r = insert-read key (kind_of_scalar v) e.is i l e.value e.range
      (step_of_kind-by_key s key o located new (Vector (kind_of_scalar v)) (asked.Insert key i (own v)) answer r)

-- ---- it is a vector of strings, and the literal no text

-- the literal is no text
abbrev pub NoText : Literal → Type 0
NoText l = (bs : List ℕ) → l ≡ Quoted bs → ⊥

module _ (d : Directory) (o : Object) (ps : List OwnedText) (t : BackingArray) where
  not_pushed : (l : Literal) → NoText l → step.push d o (Texts ps t) l ≡ Refuse WrongKind
  not_pushed (Quoted bs) n = absurd (n bs refl)
  not_pushed l n = refl

  not_inserted : (i : ℕ) (l : Literal) → NoText l → step.insert_at d o (Texts ps t) i l ≡ Refuse WrongKind
  not_inserted i (Quoted bs) n = absurd (n bs refl)
  not_inserted i l n = refl

  not_set : (i : ℕ) (l : Literal) → NoText l → step.set d o (Texts ps t) i l ≡ Refuse WrongKind
  not_set i (Quoted bs) n = absurd (n bs refl)
  not_set i l n = refl

module _ {s : SegmentState} {key : Key} (h : IsChangeable s key StringsKind) {l : Literal} (n : NoText l) where
  found : {d : Directory} → DenotesCurrent s.cut.bytes d → IsOfKindAt d key StringsKind
  found {d} st = told h.is d st

  owned : {d : Directory} (st : DenotesCurrent s.cut.bytes d) → IsTexts (found st).object.value
  owned st = texts-if (found st).object.value (found st).kind_is

  -- `set` of a string with no text is refused
  pub set-no_text : (i : ℕ) → TakesStep s s (asked.Set key i l) (Refused WrongKind)
  set-no_text i = refuses s (asked.Set key i l) WrongKind h.writing (λ d st.
      let o : Object = (found st).object in
      with-found d key o (λ o. step.set d o o.value i l) (found st).is ∙ ap (λ v. step.set d o v i l) (owned st).is
      ∙ not_set d o (owned st).texts (owned st).table i l n)

  -- a literal that is no text is no string
  pub no_text-element : IsNoElement s key l WrongKind
  no_text-element = record {
    push = refuses s (asked.Push key l) WrongKind h.writing (λ d st.
        let o : Object = (found st).object in
        with-found d key o (λ o. step.push d o o.value l) (found st).is ∙ ap (λ v. step.push d o v l) (owned st).is
        ∙ not_pushed d o (owned st).texts (owned st).table l n);
    insert = λ i. refuses s (asked.Insert key i l) WrongKind h.writing (λ d st.
        let o : Object = (found st).object in
        with-found d key o (λ o. step.insert_at d o o.value i l) (found st).is
        ∙ ap (λ v. step.insert_at d o v i l) (owned st).is ∙ not_inserted d o (owned st).texts (owned st).table i l n);
  }

-- ---- an element of scalars that is set

abbrev elements_of_object : Option Object → Result ScalarKind Refusal
elements_of_object r =
    elim r as (λ _. Result ScalarKind Refusal) [ None ↦ Err NotFound | Some o ↦ elements_of (kind_of o.value) ]

-- the elements in the result are the object's
pub elements-told : {s : SegmentState} {key : Key} {kind : Kind} {k : ScalarKind} → IsChangeable s key kind
    → elements_of kind ≡ Ok k → AnswersWith s (λ d. elements_at d key) (Ok k)
elements-told h e = record {
  answers = λ d st. let f = told h.is d st in sym (ap elements_of_object f.is ∙ ap elements_of f.kind_is ∙ e);
}

-- a value of the kind that they have
pub set-step : {old new : SegmentState} (key : Key) {k : ScalarKind} (i : ℕ) (l : Literal) (v : ScalarValue)
    {answer : Answer} → AnswersWith old (λ d. elements_at d key) (Ok k) → IsValueOf k (value_of_literal k l) (Ok v)
    → TakesStep old new (asked.Set key i (literal_of (kind_of_scalar v) (value_of_scalar v))) answer
    → TakesStep old new (asked.Set key i l) answer
set-step {old} {new} key {k} i l v {answer} a (same, value, range) h = any-literal key i l a value range
    (subst (λ j. TakesStep old new (asked.Set key i (literal_of j (value_of_scalar v))) answer) same h)

-- a map has no elements
no_map_set : (d : Directory) (o : Object) (v : Value) (i : ℕ) (l : Literal) (k m : ScalarKind) → kind_of v ≡ MapKind k m
    → step.set d o v i l ≡ Refuse WrongKind
no_map_set d o (Pairs j n ps) i l k m e = refl
no_map_set d o v i l k m e = absurd (cc)

-- `set` of a map is refused
pub set-map : {s : SegmentState} {key : Key} {k m : ScalarKind} (i : ℕ) (l : Literal) → IsChangeable s key (MapKind k m)
    → TakesStep s s (asked.Set key i l) (Refused WrongKind)
set-map {s} {key} {k} {m} i l h = refuses s (asked.Set key i l) WrongKind h.writing (λ d st. let f = told h.is d st in
    with-found d key f.object (λ o. step.set d o o.value i l) f.is
    ∙ no_map_set d f.object f.object.value i l k m f.kind_is)
