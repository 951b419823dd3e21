-- What a call on a bound object says of the object's key.
use Rattle.segment_manager.proofs.Common as common
use Rattle.seg_types.specs.Commands as asked
use Rattle.std.specs.{Option.ok_or, Prelude.IsErrAnd}
use Rattle.best_fit.proofs.Laws.{gaps-refl}
use Rattle.best_fit.specs.Heap.{KeepsGaps}
use Rattle.segment_manager.proofs.containers.{ContentPlans.clear-plan, ToChange.not-changed}
use Rattle.segment_manager.proofs.containers.{Safely.Answered, TextAnswers.text-standing, TextListCalls.texts-standing}
use Rattle.segment_manager.proofs.containers.ItemSteps.{VectorExtended, by-kind, extended-missing, extended-reading}
use Rattle.segment_manager.proofs.containers.ItemSteps.{extended-stays, finds-no_container, of_object, placed}
use Rattle.segment_manager.proofs.containers.ItemSteps.{step_of_kind-reply, told-none, told-some, vector-only}
use Rattle.segment_manager.proofs.containers.RangeCalls.{HasNumbers, RangeWritten, many, no-same, numbers-of}
use Rattle.segment_manager.proofs.directory.AnyDirectory.{moves-same, open-reading, open-writing}
use Rattle.segment_manager.proofs.directory.AnyDirectory.{refuses_of_kind-read_only, step_of_kind-found}
use Rattle.segment_manager.proofs.directory.AnyDirectory.{step_of_kind-not_found, step_of_kind-other, with-found}
use Rattle.segment_manager.proofs.objects.{Destroys.seen-object, Stored.list-of, Stored.numbers-listed, Stored.told}
use Rattle.segment_manager.proofs.objects.{Locating.told-by_key, Standings.alike}
use Rattle.segment_manager.proofs.objects.ArrayItems.{extends-stay, leads_on-stay, objects_stay, writes-stay}
use Rattle.segment_manager.proofs.objects.Locating.{IsSaidAt, head-located, leads_on-by_key, locates}
use Rattle.segment_manager.proofs.objects.Locating.{reply_of_kind-by_key, said-at, same-object, step_of_kind-by_key}
use Rattle.segment_manager.specs.{Keeping.ChangesValue, Keeping.LacksFirst, Keeping.LacksPair, Laws.at_key}
use Rattle.segment_manager.specs.containers.{Ranges.ExtendsVector, Ranges.extended, ToChange.IsChangeableContainer}
use Rattle.segment_manager.specs.objects.{BoundSteps.StepsBound, Located.IsObject, Located.element_in, Located.located}
use Rattle.segment_manager.specs.objects.BoundObjects.{IsBound, LacksKind, container_of, key_of}
use Rattle.segment_manager.specs.objects.ElementLists.{element_of, numbers_at, numbers_in, whole_of}
use common.{Answer, AnswersQueryOfKind, AnswersWith, Bool, Command, DenotesCurrent, Directory, Done, Element, Elements}
use common.{Err, Get, IfErr, IsLocated, IsNotToChange, IsObjectInBlock, IsSegment, IsSomeText, IsTextsContainer, Key}
use common.{Kind, LeadsOnOfKind, List, Located, Map, MatchResult, None, NotFound, NumberPair, Numbers, Object, Ok}
use common.{OnErr, Option, OutOfRange, Place, ReadOnly, Refusal, Refuse, Refused, Result, Scalar, ScalarKind}
use common.{SegmentState, Some, String, StringsKind, TakesStepOfKind, UnchangedWhere, Value, Vector, WindowState}
use common.{WrongKind, [], answer_of, answer_of_map, ap, arith, code_of, container_at, done_answer, eq-eqb, exit-is}
use common.{false, get, handle_at, if◌then◌else◌, int_lt, is_changing, is_elementwise, is_read_only, kind_of, length}
use common.{live, ltb-false, nat_lt, object_at, pair_at, pairs_at, pairs_of, perform, refl, refusal_in, refusal_of}
use common.{same_kind, slice_get, slice_get_past, step_of_kind, storage_of, subst, sym, told_of, true, with, ℕ, ℤ, ◌∙◌}
use common.{◌≡◌}

module _ {s t : SegmentState} (same : t ≡ s) {key : Key} {o : Located} (l : IsLocated s key o) where
  -- an answer
  pub replies : (kind : Kind) {answer : Answer} (c : Command)
      → AnswersQueryOfKind t (key_of o) kind (at_key (key_of o) c) answer
      → AnswersQueryOfKind s key kind (at_key key c) answer
  replies kind {answer} c a = reply_of_kind-by_key s key o l kind c answer
      (subst (λ u. AnswersQueryOfKind u (key_of o) kind (at_key (key_of o) c) answer) same a)

  -- a function of the pairs of a map
  pub tells : {A : Type 0} (k v : ScalarKind) (say : List NumberPair → A) {r : Result A Refusal}
      → AnswersWith t (λ d. answer_of_map d (key_of o) k v say) r → AnswersWith s (λ d. answer_of_map d key k v say) r
  tells {A} k v say {r} a = told-by_key s key o l (λ d q. elim q as (λ _. Result A Refusal) [
    | None ↦ Err NotFound
    | Some p ↦ if same_kind (Map k v) (kind_of p.value) then told_of say p.value else Err WrongKind
  ]) r (subst (λ u. AnswersWith u (λ d. answer_of_map d (key_of o) k v say) r) same a)

  -- a function of the object
  pub says : {A : Type 0} (say : Directory → Option Object → A) {r : A}
      → AnswersWith t (λ d. say d (object_at d (key_of o))) r → AnswersWith s (λ d. say d (object_at d key)) r
  says say {r} a = told-by_key s key o l say r
      (subst (λ (u : SegmentState). AnswersWith u (λ d. say d (object_at d (key_of o))) r) same a)

  pairs-same : (d : Directory) → DenotesCurrent s.cut.bytes d → (x : ℤ)
      → pair_at int_lt (pairs_at d key) x ≡ pair_at int_lt (pairs_at d (key_of o)) x
  pairs-same d h x = ap (λ q. pair_at int_lt (elim q as (λ _. List NumberPair)
      [ None ↦ [] | Some p ↦ pairs_of p.value ]) x) (same-object s key o l d h)

  module _ (new : SegmentState) where
    -- a step
    pub takes : (kind : Kind) {answer : Answer} (c : Command)
        → TakesStepOfKind t new (key_of o) kind (at_key (key_of o) c) answer
        → TakesStepOfKind s new key kind (at_key key c) answer
    takes kind {answer} c m = step_of_kind-by_key s key o l new kind c answer
        (subst (λ u. TakesStepOfKind u new (key_of o) kind (at_key (key_of o) c) answer) same m)

    -- the change of a value
    pub overwrites : (k v : ScalarKind) (x : ℤ) → ChangesValue t new (key_of o) k x v → ChangesValue s new key k x v
    overwrites k v x m = λ d h p e.
        subst (λ u. ChangesValue u new (key_of o) k x v) same m d h p (sym (pairs-same d h x) ∙ e)

    -- that nothing changes
    pub keeps : (x : ℤ) → UnchangedWhere t new (LacksPair (key_of o) x) → UnchangedWhere s new (LacksPair key x)
    keeps x m = λ d h e. subst (λ u. UnchangedWhere u new (LacksPair (key_of o) x)) same m d h
        (sym (pairs-same d h x) ∙ e)

  module _ {new last : SegmentState} (ends : new ≡ last) where
    -- a property of the segment before and after the call
    pub from-to : (R : SegmentState → SegmentState → Type 0) → R t new → R s last
    from-to R r = subst (λ u. R u last) same (subst (R t) ends r)

    -- a step of a call that answers nothing
    pub steps : (kind : Kind) {answer : Answer} {c e : Command} → TakesStepOfKind t new (key_of o) kind c answer
        → at_key (key_of o) c ≡ c → at_key key c ≡ e → TakesStepOfKind s last key kind e answer
    steps kind {answer} {c} {e} m own with_key = subst (λ u. TakesStepOfKind s u key kind e answer) ends
        (subst (λ x. TakesStepOfKind s new key kind x answer) with_key
        (takes new kind c (subst (λ x. TakesStepOfKind t new (key_of o) kind x answer) (sym own) m)))

    -- a step of a call that answers less
    pub leads : (kind : Kind) {why : Option Refusal} (c : Command)
        → LeadsOnOfKind t new (key_of o) kind (at_key (key_of o) c) why
        → LeadsOnOfKind s last key kind (at_key key c) why
    leads kind {why} c m = leads_on-by_key s key o l last kind c why
        (from-to (λ u v. LeadsOnOfKind u v (key_of o) kind (at_key (key_of o) c) why) m)

    -- that nothing changes without a fit for the first block
    pub first-kept : (bytes : List ℕ) → UnchangedWhere t new (LacksFirst (key_of o) bytes)
        → UnchangedWhere s last (LacksFirst key bytes)
    first-kept bytes m = λ d h e. from-to (λ u v. UnchangedWhere u v (LacksFirst (key_of o) bytes)) m d h (record {
      object = e.object;
      is = sym (same-object s key o l d h) ∙ e.is;
      texts = e.texts;
      table = e.table;
      value = e.value;
      none = e.none;
    })

-- a refused look-up leaves the segment
pub rests : {V : Type 0} {s last : SegmentState} {why : Refusal} {r : Result V Refusal} → r ≡ Err why
    → OnErr r (last ≡ s) → last ≡ s
rests {s = s} {last} was rest = subst (λ r. OnErr r (last ≡ s)) was rest

-- and then the call is refused
pub not-bound : {V R : Type 0} {s last : SegmentState} {key : Key} {kind : Kind} {why : Refusal} {r : Result V Refusal}
    (says : R → Answer) (c : Command) (q : Result R Refusal) → is_changing c ≡ true
    → IsErrAnd q (λ e. e ≡ why) → IsNotToChange s key kind why → r ≡ Err why
    → OnErr r (last ≡ s) → TakesStepOfKind s last key kind c (answer_of says q)
not-bound {s = s} {key = key} {kind} says c q changing is not was rest =
    subst (λ (u : SegmentState). TakesStepOfKind s u key kind c (answer_of says q)) (sym (rests was rest))
    (not-changed says c q refl is changing not)

-- the same for a call that answers less
pub not-led : {V R : Type 0} {s last : SegmentState} {key : Key} {kind : Kind} {why : Refusal} {r : Result V Refusal}
    (c : Command) (q : Result R Refusal) → is_changing c ≡ true → IsErrAnd q (λ e. e ≡ why)
    → IsNotToChange s key kind why → r ≡ Err why → OnErr r (last ≡ s) → LeadsOnOfKind s last key kind c (refusal_in q)
not-led {R = R} {s} {last} {key} {kind} {why} c q changing is not was rest =
    let m : TakesStepOfKind s last key kind c (Refused why) =
    subst (λ (u : SegmentState). TakesStepOfKind s u key kind c (Refused why)) (sym (rests was rest))
    (not.refused c changing) in
    rw (exit-is q why is)
    (record { stays = m.stays; answers = λ d l. ap refusal_of (m.answers d l); denotes = m.denotes })

-- without an object of the kind, each call that reads it has this answer
pub lacks-replies : (s : SegmentState) (key : Key) (kind : Kind) (why : Refusal) (c : Command) → is_changing c ≡ false
    → LacksKind s key kind why → AnswersQueryOfKind s key kind c (Refused why)
lacks-replies s key kind why c e a = step_of_kind-reply s key kind c (Refused why)
    (finds-no_container s key kind c why (open-reading s.mode c e) a)

-- ---- an object that was located and then bound

-- it has the kind, or the key has no object of the kind
pub of-located : {s : SegmentState} {key : Key} {o : Located} → IsLocated s key o → (kind : Kind)
    (r : Result Located Refusal) → MatchResult r (λ q. (q ≡ o) × (q.kind ≡ kind)) (λ why. (why ≡ WrongKind) × (o.kind
    ≡ kind → ⊥)) → MatchResult r (IsLocated s key) (LacksKind s key kind)
of-located {s} {key} l kind (Ok q) m = subst (IsLocated s key) (sym m.0) l
of-located {s} {key} {o} l kind (Err why) m = subst (LacksKind s key kind) (sym m.0) (record {
  answers = λ d k.
      let p : IsSaidAt d key o = said-at s key o l d k in
      sym (told-some d key kind placed p.object false p.is (no-same kind (kind_of p.object.value)
      (λ e. m.1 (ap (λ (q : Located). q.kind) p.said ∙ sym e))));
})

-- the object at the handle that was found has the kind, or the key has no object of the kind
pub of-found : {s t : SegmentState} (view : s ≡ t) (key : Key) {h : ℕ} (kind : Kind) (r : Result Located Refusal)
    → IsSegment s.cut.bytes → AnswersWith t (λ d. handle_at d key) (Some h)
    → ((o : Object) → IsObjectInBlock s.cut.bytes h o → MatchResult r (λ q. (q ≡ located o) × (q.kind ≡ kind))
    (λ why. (why ≡ WrongKind) × (kind_of o.value ≡ kind → ⊥))) → MatchResult r (IsLocated t key) (LacksKind t key kind)
of-found view key {h} kind r g a each =
    let there = seen-object _ _ view key h g a in
    of-located (locates (head-located view key a (λ o s. alike there.1 s))) kind r (each there.0 there.1)

-- it is bound to its kind
pub binds : {s : SegmentState} {o : Located} {kind : Kind} → IsObject o s → o.kind ≡ kind → IsBound kind o s
binds there is = record { there = there; of_kind = is }

-- what holds of the bound object holds of the located one
pub of-bound : {s t : SegmentState} {o p : Located} (R : Located → SegmentState → Type 0) → p ≡ o → t ≡ s → R p t
    → R o s
of-bound {s} {t} {o} {p} R is same r = subst (R o) same (subst (λ (q : Located). R q t) is r)

-- the same for a call that changes it
pub of-change : {s t new last : SegmentState} {o p : Located} (R : Located → SegmentState → SegmentState → Type 0)
    → p ≡ o → t ≡ s → new ≡ last → R p t new → R o s last
of-change {s} {t} {new} {last} {o} {p} R is same ends r =
    of-bound (λ (q : Located) (u : SegmentState). R q u last) is same (subst (R p t) ends r)

-- Calls on bound arrays and vectors: what they leave of the object, and what they say of the object's key.

-- ---- arrays

-- the reason for which there is no place
past-if : (b : Bool) (p : Place) {why : Refusal} → Err why ≡ (if b then Ok p else Err OutOfRange)
    → (b ≡ false) × (why ≡ OutOfRange)
past-if true p e = absurd (cc)
past-if false p e = (refl, cc)

-- an element without a place is past the end
pub past-error : (o : Located) (i : ℕ) (l : ScalarKind) {why : Refusal} → Err why ≡ element_in o l i → why ≡ OutOfRange
past-error o i l e = (past-if (nat_lt i o.count) _ e).1

module _ {s : SegmentState} {k : ScalarKind} {o : Located} (bound : IsBound (Scalar k) o s) where
  numbers : (d : Directory) → DenotesCurrent s.cut.bytes d → HasNumbers d o k
  numbers d l = numbers-of s o (record { at = bound.there; here = bound.there }) k 0 [] bound.of_kind d l

  listed : {d : Directory} (h : HasNumbers d o k) → numbers_at d (key_of o) (Scalar k) ≡ h.numbers
  listed {d} h =
      numbers-listed d (key_of o) (Scalar k) h.object h.is (Numbers k h.numbers) h.value refl

  long : {d : Directory} (h : HasNumbers d o k) → o.count ≡ length h.numbers
  long h = many s o (record { at = bound.there; here = bound.there }) k 0 [] bound.of_kind h

  -- there is no element past the count
  pub array-past : (i : ℕ) (l : ScalarKind) {why : Refusal} → Err why ≡ element_in o l i
      → AnswersWith s (λ d. element_of (numbers_at d (key_of o) (Scalar k)) i) (Err why)
  array-past i l e = let past = past-if (nat_lt i o.count) _ e in record {
    answers = λ d l.
        let h = numbers d l in
        ap Err past.1 ∙ sym (ap (λ zs. element_of zs i) (listed h) ∙ ap (λ q. ok_or q OutOfRange)
        (slice_get_past h.numbers i (let n = long h in let m = ltb-false i o.count past.0 in omega (arith, n, m))));
  }

-- ---- a vector

-- values are appended
pub lengthened : {s t : SegmentState} (view : s ≡ t) {k : ScalarKind} {o : Located} → IsBound (Vector k) o t
    → IsSegment s.cut.bytes → {new : WindowState} (more : List ℤ) (r : Result (Unit {0}) Refusal)
    → VectorExtended s t new (key_of o) k more r → IsBound (Vector k) o (record s { cut = new })
lengthened view {k} {o} bound b more r a = record {
  there = extends-stay _ _ (key_of o) k more (done_answer r)
      (subst (λ (u : SegmentState). IsSegment u.cut.bytes) view b) a.step o bound.there;
  of_kind = bound.of_kind;
}

-- values are replaced
pub overwritten : {s t : SegmentState} (view : s ≡ t) {kind : Kind} {o : Located} → IsBound kind o t
    → IsSegment s.cut.bytes → {new : WindowState} (k : ScalarKind) (first : ℕ) (zs : List ℤ)
    (r : Result (Unit {0}) Refusal) → RangeWritten s t new (key_of o) k first zs r
    → IsBound kind o (record s { cut = new })
overwritten view {o = o} bound b k first zs r a = record {
  there = writes-stay _ _ (key_of o) k first zs (done_answer r)
      (subst (λ (u : SegmentState). IsSegment u.cut.bytes) view b) a.step o bound.there;
  of_kind = bound.of_kind;
}

-- ---- the key

module _ {s t : SegmentState} (same : t ≡ s) {key : Key} {o : Located} (l : IsLocated s key o) {kind : Kind}
    (is : o.kind ≡ kind) where
  -- the object of the key has the kind
  record There (d : Directory) : Type 0 where
    object : Object
    at : object_at d key ≡ Some object
    of_kind : same_kind kind (kind_of object.value) ≡ true
    lists : numbers_at d (key_of o) kind ≡ numbers_in object.value

  there : (d : Directory) → DenotesCurrent s.cut.bytes d → There d
  there d st =
      let p : IsSaidAt d key o = said-at s key o l d st in
      let e : same_kind kind (kind_of p.object.value) ≡ true = eq-eqb (code_of kind) (code_of (kind_of p.object.value))
      (ap code_of (sym is ∙ ap (λ (q : Located). q.kind) p.said)) in
      record {
        object = p.object;
        at = p.is;
        of_kind = e;
        lists = list-of numbers_in d (key_of o) kind p.object true (sym (same-object s key o l d st) ∙ p.is) e;
      }

  -- its element is the answer for the key
  pub replies-element : {T : Type 0} (k : ScalarKind) (w : T → ℤ) (i : ℕ) (r : Result T Refusal)
      → ((d : Directory) (v : Value) → same_kind kind (kind_of v) ≡ true
      → (perform d (live d) (get d v i)).0 ≡ told (Element k) (slice_get (numbers_in v) i))
      → AnswersWith t (λ d. element_of (numbers_at d (key_of o) kind) i) (whole_of w r)
      → AnswersQueryOfKind s key kind (Get key i) (answer_of (λ x. Element k (w x)) r)
  replies-element k w i r gets a = record {
    answers = λ d st.
        let h : There d = there d st in
        said k w r (slice_get (numbers_in h.object.value) i) ((subst (λ (u : SegmentState).
        AnswersWith u (λ d. element_of (numbers_at d (key_of o) kind) i) (whole_of w r)) same a).answers d st
        ∙ ap (λ zs. element_of zs i) h.lists) ∙ sym (ap (λ (n : Answer × Directory). n.0)
        (step_of_kind-found s.mode d key kind (Get key i) h.object (open-reading s.mode (Get key i) refl) h.at
        h.of_kind) ∙ ap (λ q. (perform d (live d) q).0) (with-found d key h.object (λ p. get d p.value i) h.at)
        ∙ gets d h.object.value h.of_kind);
  }
    where
      said : {T : Type 0} (k : ScalarKind) (w : T → ℤ) (r : Result T Refusal) (q : Option ℤ)
          → whole_of w r ≡ ok_or q OutOfRange → answer_of (λ x. Element k (w x)) r ≡ told (Element k) q
      said k w (Ok x) (Some z) e = let one : w x ≡ z = cc in ap (Element k) one
      said k w (Ok x) None e = absurd (cc)
      said k w (Err why) (Some z) e = absurd (cc)
      said k w (Err why) None e = let one : why ≡ OutOfRange = cc in ap Refused one

-- ---- the segment as the call by key leaves it

-- a refused look-up leaves the gaps
pub same-gaps : {s u : SegmentState} → u ≡ s → KeepsGaps s.cut u.cut
same-gaps {s} back = subst (λ (v : SegmentState). KeepsGaps s.cut v.cut) (sym back) (gaps-refl s.cut)

-- ---- values appended by one call

-- they are appended to the object of the key
pub key-extends : {s t new u : SegmentState} → t ≡ s → new ≡ u → {key : Key} {o : Located} → IsLocated s key o
    → (k : ScalarKind) (more : List ℤ) {answer : Answer} → ExtendsVector t new (key_of o) k more answer
    → ExtendsVector s u key k more answer
key-extends {s} {new = new} same back {key} {o} l k more {answer} m =
    subst (λ (v : SegmentState). ExtendsVector s v key k more answer) back (moves-same s new answer
    (λ d. extended s.mode d (key_of o) k more) (λ d. extended s.mode d key k more)
    (λ d st. ap (λ (r : Option Object). perform d (live d) (if is_read_only s.mode then Refuse ReadOnly else with
    (elim r as (λ _. Result Object Refusal) [ None ↦ Err NotFound | Some o ↦ Ok o ]) (of_object d k more)))
    (sym (same-object s key o l d st))) (subst (λ (v : SegmentState). ExtendsVector v new (key_of o) k more answer) same
    m))

-- without a vector of the kind, or in a segment that is open for reading, none is appended
module _ {s u : SegmentState} (back : u ≡ s) {key : Key} (k : ScalarKind) (more : List ℤ) {why : Refusal}
    (not : IsNotToChange s key (Vector k) why) where
  module _ (d : Directory) (st : DenotesCurrent s.cut.bytes d) where
    because : {p : Answer × Directory} {other : Refusal} → step_of_kind s.mode d key (Vector k) (asked.Clear key) ≡ p
        → p.0 ≡ Refused other → why ≡ other
    because {other = other} e f =
        let one : Refused why ≡ Refused other = (not.refused (asked.Clear key) refl).answers d st
        ∙ ap (λ (p : Answer × Directory). p.0) e ∙ f in
        cc

    lacks : is_read_only s.mode ≡ false → Err why ≡ container_at d key (Vector k)
    lacks w =
        let may = open-writing s.mode (asked.Clear key) w in
        by-kind d key (Vector k)
        (λ f. ap Err (because (step_of_kind-not_found s.mode d key (Vector k) (asked.Clear key) may f) refl)
        ∙ sym (told-none d key (Vector k) placed f))
        (λ o f g. ap Err (because (step_of_kind-other s.mode d key (Vector k) (asked.Clear key) o may f g) refl)
        ∙ sym (told-some d key (Vector k) placed o false f g))
        (λ o f g. let v = vector-only k o.value g in
        let one : Refused why ≡ Done = (not.refused (asked.Clear key) refl).answers d st
        ∙ ap (λ (p : Answer × Directory). p.0) (step_of_kind-found s.mode d key (Vector k) (asked.Clear key) o may f g
        ∙ ap (perform d (live d)) (clear-plan d key o f (storage_of (Elements k v.0 v.1.0)) (ap storage_of v.1.1))) in
        absurd (cc))

    extended-if : (b : Bool) → is_read_only s.mode ≡ b → extended s.mode d key k more ≡ (Refused why, d)
    extended-if true e = extended-reading s.mode d key k more e ∙ (λ i. (
      Refused (sym (because refl
          (sym ((refuses_of_kind-read_only s key (Vector k) (asked.Clear key) e refl).answers d st))) i),
      d,
    ))
    extended-if false e = extended-missing s.mode d key k more e why (lacks e)

  -- the call by key appends nothing
  pub refused-extends : (r : Result (Unit {0}) Refusal) → IsErrAnd r (λ e. e ≡ why)
      → ExtendsVector s u key k more (done_answer r)
  refused-extends r e = rw (exit-is r why e) (subst (λ (v : SegmentState). ExtendsVector s v key k more (Refused why))
      (sym back) (extended-stays s key k more why (λ d st. extended-if d st (is_read_only s.mode) refl)))

-- The place of the container of a bound object, and that the object stays bound.

module _ {kind : Kind} {o : Located} {s : SegmentState} (b : IsBound kind o s) where
  same : same_kind kind o.kind ≡ true
  same = eq-eqb (code_of kind) (code_of o.kind) (ap code_of (sym b.of_kind))

  -- the container of the object is where its head says
  pub container-bound : AnswersWith s (λ d. container_at d (key_of o) kind) (Ok (container_of o))
  container-bound = record {
    answers = λ d k.
        let p : IsSaidAt d (key_of o) o = said-at s (key_of o) o (record { at = b.there; here = b.there }) d k in
        ap (λ (q : Located). let r : Result Place Refusal = Ok (container_of q) in r) p.said
        ∙ sym (told-some d (key_of o) kind placed p.object true p.is
        (ap (λ (q : Located). same_kind kind q.kind) (sym p.said) ∙ same));
  }

  -- a call on elements of an object keeps it
  pub bound-stays : (new : SegmentState) (key : Key) (at : Kind) (c : Command) (answer : Answer)
      → IsSegment s.cut.bytes → is_elementwise c ≡ true → TakesStepOfKind s new key at c answer → IsBound kind o new
  bound-stays new key at c answer g e m =
      record { there = objects_stay.of_kind s new key at c answer g e m o b.there; of_kind = b.of_kind }

  -- as the call names the place
  pub container-here : {p : Place} → p ≡ container_of o → AnswersWith s (λ d. container_at d (key_of o) kind) (Ok p)
  container-here is = subst (λ q. AnswersWith s (λ d. container_at d (key_of o) kind) (Ok q)) (sym is) container-bound

  module _ (writing : is_read_only s.mode ≡ false) where
    -- it can be changed there
    pub to-change : {p : Place} → p ≡ container_of o → IsChangeableContainer s (key_of o) kind p
    to-change is = record { writing = writing; at = container-here is }

    -- after a call on its elements, it is bound in the segment that the call changed
    module _ {t : SegmentState} (view : t ≡ s) (g : IsSegment t.cut.bytes) where
      still-writing : is_read_only t.mode ≡ false
      still-writing = ap (λ (u : SegmentState). is_read_only u.mode) view ∙ writing

      pub still-bound : (new : WindowState) (key : Key) (at : Kind) (c : Command) (answer : Answer)
          → is_elementwise c ≡ true → TakesStepOfKind s (record t { cut = new }) key at c answer → record {
            live : IsBound kind o (record t { cut = new });
            writing : is_read_only t.mode ≡ false;
          }
      still-bound new key at c answer e m = record {
        live = bound-stays (record t { cut = new }) key at c answer
            (subst (λ (u : SegmentState). IsSegment u.cut.bytes) view g) e m;
        writing = still-writing;
      }

      -- the same for a call that answers less
      pub still-led : (new : WindowState) (key : Key) (at : Kind) (c : Command) (why : Option Refusal)
          → is_elementwise c ≡ true → LeadsOnOfKind s (record t { cut = new }) key at c why → record {
            live : IsBound kind o (record t { cut = new });
            writing : is_read_only t.mode ≡ false;
          }
      still-led new key at c why e m = record {
        live = record {
          there = leads_on-stay s (record t { cut = new }) key at c why
              (subst (λ (u : SegmentState). IsSegment u.cut.bytes) view g) e m o b.there;
          of_kind = b.of_kind;
        };
        writing = still-writing;
      }

-- the container of a located object, by its own kind
pub container-there : {o : Located} {s : SegmentState} {p : Place} → IsObject o s → p ≡ container_of o
    → AnswersWith s (λ d. container_at d (key_of o) o.kind) (Ok p)
container-there there is = container-here (record { there = there; of_kind = refl }) is

module _ {s t : SegmentState} (view : s ≡ t) (g : IsSegment s.cut.bytes) {o : Located} {p : Place}
    (is : p ≡ container_of o) where
  -- a bound string is at its place
  pub text-here : IsBound String o t → IsSomeText s.cut.bytes p
  text-here b = text-standing view (key_of o) p g (container-here b is)

  -- and a bound vector of strings
  pub texts-here : IsBound StringsKind o t → IsTextsContainer s.cut.bytes p
  texts-here b = texts-standing view (key_of o) p g (container-here b is)

-- A call that changed a bound object: its step, and that the object stays bound.

-- the step, the effect on the gaps, and what the call leaves
pub record Changed {R : Type 0} (kind : Kind) (o : Located) (s t : SegmentState) (new : WindowState) (c : Key → Command)
    (says : Result R Refusal → Answer) (reasons : Refusal → Type 0) (Gaps : Type 0)
    (r : Result R Refusal) : Type 0 where
  pub steps : StepsBound o kind t (record s { cut = new }) c says reasons r
  pub gaps : Gaps
  pub segment : IsSegment new.bytes
  pub kept : record { live : IsBound kind o (record s { cut = new }); writing : is_read_only s.mode ≡ false }

-- a call on elements leaves the object bound
pub leaves-bound : {R : Type 0} {says : Result R Refusal → Answer} {kind : Kind} {o : Located} {s t : SegmentState}
    (view : s
    ≡ t) (bound : IsBound kind o t) (may : is_read_only t.mode ≡ false) (b : IsSegment s.cut.bytes) (new : WindowState)
    (c : Key → Command) {r : Result R Refusal} {reasons : Refusal → Type 0} {Gaps : Type 0}
    → is_elementwise (c (key_of o)) ≡ true → IfErr r reasons → Gaps
    → Answered says s t new (key_of o) kind (c (key_of o)) r → Changed kind o s t new c says reasons Gaps r
leaves-bound {says = says} {kind} {o} view bound may b new c {r} e f g a = record {
  steps = record { step = a.step; refused = a.refused; error = f };
  gaps = g;
  segment = a.segment;
  kept = record {
    live = bound-stays bound _ (key_of o) kind (c (key_of o)) (says r)
        (subst (λ (u : SegmentState). IsSegment u.cut.bytes) view b) e a.step;
    writing = ap (λ (u : SegmentState). is_read_only u.mode) view ∙ may;
  };
}
