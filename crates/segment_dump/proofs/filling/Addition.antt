-- An element is added to an object.
use Rattle.segment_dump.proofs.Common.{◌≡◌, ℕ, zero, suc, ◌+◌, ◌<◌, ◌≤◌, ℤ, pos, negsuc, Bool, true, List, ◌++◌, length}
use Rattle.segment_dump.proofs.Common.{take, Result, Ok, Err, refl, sym, ap, subst, ◌∙◌, arith, nat_tests, Kind}
use Rattle.segment_dump.proofs.Common.{ScalarKind, U8, I32, I64, U64, Refusal, ScalarValue, Command, literal_of}
use Rattle.segment_dump.proofs.Common.{is_value, ByHandle, kind_of_scalar, scalar_of, value_of_scalar, Done, Boolean}
use Rattle.segment_dump.proofs.Common.{TakesStepOfKind, SegmentState, done_answer, AddsElement, Collects, IsFillable}
use Rattle.segment_dump.proofs.Common.{ReadsElement, ReadsPair, FillState, FillsAt, IsBuildableContent, ValueContent}
use Rattle.segment_dump.proofs.Common.{Map, Scalars, String, Strings, Vector, count_of_content, kind_of_content}
use Rattle.segment_dump.proofs.Common.{texts_needs, element_line, pair_line, text_lines, Answer, IsTypedPair}
use Rattle.seg_types.specs.declared.kinds.ScalarKind.TheVariants.{Bool as BoolKind}
use Rattle.segment_manager.specs.State.{truth_answer}
use Rattle.segment_dump.proofs.texts.Options.{never-ok, ok-same}
use Rattle.segment_dump.proofs.filling.OneElement.{IsShortText, NextElement, next-pair, next-pushed, next-scalar}
use Rattle.segment_dump.proofs.filling.OneElement.{next-text_of}
use Rattle.seg_types.specs.declared.kinds.Kind.TheVariants as kinds
use Rattle.seg_types.specs.Commands as asked

-- ---- the value that was read

bool-value : (z : ℤ) → is_value BoolKind z ≡ true → value_of_scalar (scalar_of BoolKind z) ≡ z
bool-value (pos zero) e = refl
bool-value (pos (suc zero)) e = refl
bool-value (pos (suc (suc n))) e = absurd (grind (arith, nat_tests))
bool-value (negsuc n) e = absurd (cc)

pub scalar-value : (k : ScalarKind) (z : ℤ) → is_value k z ≡ true → value_of_scalar (scalar_of k z) ≡ z
scalar-value BoolKind z e = bool-value z e
scalar-value U8 (pos n) e = refl
scalar-value U8 (negsuc n) e = absurd (cc)
scalar-value I32 z e = refl
scalar-value I64 z e = refl
scalar-value U64 (pos n) e = refl
scalar-value U64 (negsuc n) e = absurd (cc)

pub scalar-kind : (k : ScalarKind) (z : ℤ) → kind_of_scalar (scalar_of k z) ≡ k
scalar-kind BoolKind z = refl
scalar-kind k z = refl

-- ---- contents of a kind

pub scalars-of : (c : ValueContent) (k : ScalarKind) → kind_of_content c ≡ kinds.Scalar k
    → (zs : List ℤ) × (c ≡ Scalars k zs)
scalars-of (Scalars l zs) k e = let same : l ≡ k = cc in (zs, ap (λ l. Scalars l zs) same)
scalars-of c k e = absurd (cc)

pub vector-of : (c : ValueContent) (k : ScalarKind) → kind_of_content c ≡ kinds.Vector k
    → (zs : List ℤ) × (c ≡ Vector k zs)
vector-of (Vector l zs) k e = let same : l ≡ k = cc in (zs, ap (λ l. Vector l zs) same)
vector-of c k e = absurd (cc)

pub map-of : (c : ValueContent) (k w : ScalarKind) → kind_of_content c ≡ kinds.Map k w
    → (ps : List (ℤ × ℤ)) × (c ≡ Map k w ps)
map-of (Map l v ps) k w e = let one : l ≡ k = cc in let two : v ≡ w = cc in (ps, (λ i. Map (one i) (two i) ps))
map-of c k w e = absurd (cc)

pub strings-of : (c : ValueContent) → kind_of_content c ≡ kinds.Strings → (ts : List (List ℕ)) × (c ≡ Strings ts)
strings-of (Strings ts) e = (ts, refl)
strings-of c e = absurd (cc)

-- a content of a string's kind is a string
pub string-of : (c : ValueContent) → kind_of_content c ≡ kinds.String → (bs : List ℕ) × (c ≡ String bs)
string-of (String bs) e = (bs, refl)
string-of c e = absurd (cc)

-- ---- what a call answered

-- an answer that is done is a success
pub was-done : (r : Result (Unit {0}) Refusal) → done_answer r ≡ Done → r ≡ Ok tt
was-done (Ok u) e = refl
was-done (Err why) e = absurd (cc)

pub was-true : (r : Result Bool Refusal) → truth_answer r ≡ Boolean true → r ≡ Ok true
was-true (Ok b) e = let same : b ≡ true = cc in ap Ok same
was-true (Err why) e = absurd (cc)

-- ---- an element that is read is added

module _ {Y : Type 0} (old : SegmentState) (h n room : ℕ) (kind : Kind) (text : List ℕ) (line : Y → List ℕ)
    (Good : Y → Type 0) (c : Y → Command) (answer : Answer) where
  -- what comes next in the text, and what the call leads to
  abbrev Next : Type 0
  Next = (p : FillState) → IsFillable p kind room → n < count_of_content p.content → FillsAt old text p h n
      → NextElement old text p h n line Good kind c answer

  unread : {F : Type 0} (new : SegmentState) (rest : List ℕ) (result : Result (Unit {0}) F) → Next
      → ((y : Y) (a : List ℕ) → Good y → text ≡ line y ++ a → ⊥) → AddsElement old new h kind n text rest room result
  unread new rest result next never =
      record { adds = λ p f l at. let q = next p f l at in absurd (never q.value q.after q.good q.text_is) }

  added : {F : Type 0} (new : SegmentState) (rest : List ℕ) (result : Result (Unit {0}) F) (given : Answer) → Next
      → ((y : Y) (a : List ℕ) → Good y → text ≡ line y ++ a → TakesStepOfKind old new (ByHandle h) kind (c y) given
      × (rest ≡ a)) → (given ≡ answer → result ≡ Ok tt) → AddsElement old new h kind n text rest room result
  added new rest result given next reads ok = record {
    adds = λ p f l at.
        let q = next p f l at in
        let read = reads q.value q.after q.good q.text_is in
        let led = q.leads new given read.0 in
        (ok led.0, subst (λ t. FillsAt new t p h (n + 1)) (sym read.1) led.1);
  }

-- ---- scalars

module _ (old : SegmentState) (h n room : ℕ) (k : ScalarKind) (text : List ℕ) where
  set-next : Next old h n room (kinds.Scalar k) text (element_line k) (λ z. is_value k z ≡ true)
      (λ z. asked.Set (ByHandle h) n (literal_of k z)) Done
  set-next p f l at =
      let q = scalars-of p.content k f.kind_is in
      let good = subst IsBuildableContent q.1 f.good in
      next-scalar old text p h n at k q.0 q.1 (subst (λ (c : ValueContent). n < count_of_content c) q.1 l) good.2

  push-next : Next old h n room (kinds.Vector k) text (element_line k) (λ z. is_value k z ≡ true)
      (λ z. asked.Push (ByHandle h) (literal_of k z)) Done
  push-next p f l at =
      let q = vector-of p.content k f.kind_is in
      let good = subst IsBuildableContent q.1 f.good in
      next-pushed old text p h n at k q.0 q.1 (subst (λ (c : ValueContent). n < count_of_content c) q.1 l) good.1

module _ {E : Type 0} (old new : SegmentState) (h : ℕ) (k : ScalarKind) (text rest : List ℕ) where
  -- the step is that of the kind and the value that were read
  scalar-read : (kind_by : ScalarKind → Kind) (c : ScalarKind → ℤ → Command) (v : ScalarValue) (given : Answer)
      → ReadsElement {E = E} k text rest (Ok v)
      → TakesStepOfKind old new (ByHandle h) (kind_by (kind_of_scalar v)) (c (kind_of_scalar v) (value_of_scalar v))
      given
      → (z : ℤ) (a : List ℕ) → is_value k z ≡ true → text ≡ element_line k z ++ a
      → TakesStepOfKind old new (ByHandle h) (kind_by k) (c k z) given × (rest ≡ a)
  scalar-read kind_by c v given r step z a good t =
      let read = r.reads z a good t in
      let is : v ≡ scalar_of k z = ok-same {E = E} v (scalar_of k z) read.0 in
      let kind_is : kind_of_scalar v ≡ k = ap kind_of_scalar is ∙ scalar-kind k z in
      let value_is : value_of_scalar v ≡ z = ap value_of_scalar is ∙ scalar-value k z good in (
        subst (λ y. TakesStepOfKind old new (ByHandle h) (kind_by k) (c k y) given) value_is
            (subst (λ j. TakesStepOfKind old new (ByHandle h) (kind_by j) (c j (value_of_scalar v)) given) kind_is
            step),
        read.1,
      )

module _ {E F : Type 0} (old new : SegmentState) (h n room : ℕ) (k : ScalarKind) (text rest : List ℕ) where
  -- an element of an array that was not read: nothing is added
  pub set-unread : (e : E) (result : Result (Unit {0}) F) → ReadsElement k text rest (Err e)
      → AddsElement old new h (kinds.Scalar k) n text rest room result
  set-unread e result r = unread old h n room _ text _ _ _ _ new rest result (set-next old h n room k text)
      (λ z a good t. never-ok e (scalar_of k z) (r.reads z a good t).0)

  -- an element of an array that was read is set
  pub set-adds : (v : ScalarValue) (called : Result (Unit {0}) Refusal) (result : Result (Unit {0}) F)
      → ReadsElement {E = E} k text rest (Ok v) → TakesStepOfKind old new (ByHandle h) (kinds.Scalar (kind_of_scalar v))
      (asked.Set (ByHandle h) n (literal_of (kind_of_scalar v) (value_of_scalar v))) (done_answer called)
      → (called ≡ Ok tt → result ≡ Ok tt) → AddsElement old new h (kinds.Scalar k) n text rest room result
  set-adds v called result r step ok =
      added old h n room _ text _ _ _ _ new rest result (done_answer called) (set-next old h n room k text)
      (scalar-read old new h k text rest kinds.Scalar (λ j z. asked.Set (ByHandle h) n (literal_of j z)) v
      (done_answer called) r step) (λ e. ok (was-done called e))

  -- an element of a vector that was not read: nothing is added
  pub push-unread : (e : E) (result : Result (Unit {0}) F) → ReadsElement k text rest (Err e)
      → AddsElement old new h (kinds.Vector k) n text rest room result
  push-unread e result r = unread old h n room _ text _ _ _ _ new rest result (push-next old h n room k text)
      (λ z a good t. never-ok e (scalar_of k z) (r.reads z a good t).0)

  -- an element of a vector that was read is pushed
  pub push-adds : (v : ScalarValue) (called : Result (Unit {0}) Refusal) (result : Result (Unit {0}) F)
      → ReadsElement {E = E} k text rest (Ok v) → TakesStepOfKind old new (ByHandle h) (kinds.Vector (kind_of_scalar v))
      (asked.Push (ByHandle h) (literal_of (kind_of_scalar v) (value_of_scalar v))) (done_answer called)
      → (called ≡ Ok tt → result ≡ Ok tt) → AddsElement old new h (kinds.Vector k) n text rest room result
  push-adds v called result r step ok =
      added old h n room _ text _ _ _ _ new rest result (done_answer called) (push-next old h n room k text)
      (scalar-read old new h k text rest kinds.Vector (λ j z. asked.Push (ByHandle h) (literal_of j z)) v
      (done_answer called) r step) (λ e. ok (was-done called e))

-- ---- pairs

module _ (old : SegmentState) (h n room : ℕ) (k w : ScalarKind) (text : List ℕ) where
  put-next : Next old h n room (kinds.Map k w) text (pair_line k w) (IsTypedPair k w)
      (λ y. asked.Put (ByHandle h) (literal_of k y.0) (literal_of w y.1)) (Boolean true)
  put-next p f l at =
      let q = map-of p.content k w f.kind_is in
      let good = subst IsBuildableContent q.1 f.good in
      next-pair old text p h n k w q.0 q.1 (subst (λ (c : ValueContent). n < count_of_content c) q.1 l) good.1
      good.2 f.rest at

module _ {E F : Type 0} (old new : SegmentState) (h n room : ℕ) (k w : ScalarKind) (text rest : List ℕ) where
  -- a pair that was not read: nothing is added
  pub put-unread : (e : E) (result : Result (Unit {0}) F) → ReadsPair k w text rest (Err e)
      → AddsElement old new h (kinds.Map k w) n text rest room result
  put-unread e result r = unread old h n room _ text _ _ _ _ new rest result (put-next old h n room k w text)
      (λ y a good t. never-ok e (scalar_of k y.0, scalar_of w y.1) (r.reads y a good t).0)

  -- a pair that was read is put
  pub put-adds : (x y : ScalarValue) (called : Result Bool Refusal) (result : Result (Unit {0}) F)
      → ReadsPair {E = E} k w text rest (Ok (x, y))
      → TakesStepOfKind old new (ByHandle h) (kinds.Map (kind_of_scalar x) (kind_of_scalar y))
      (asked.Put (ByHandle h) (literal_of (kind_of_scalar x) (value_of_scalar x))
      (literal_of (kind_of_scalar y) (value_of_scalar y))) (truth_answer called)
      → (called ≡ Ok true → result ≡ Ok tt) → AddsElement old new h (kinds.Map k w) n text rest room result
  put-adds x y called result r step ok =
      added old h n room _ text _ _ _ _ new rest result (truth_answer called) (put-next old h n room k w text)
      (λ q a good t.
      let read = r.reads q a good t in
      let both : ◌≡◌ {A = ScalarValue × ScalarValue} (x, y) (scalar_of k q.0, scalar_of w q.1) =
      ok-same {E = E} (x, y) (scalar_of k q.0, scalar_of w q.1) read.0 in
      let first : x ≡ scalar_of k q.0 = ap (λ (b : ScalarValue × ScalarValue). b.0) both in
      let second : y ≡ scalar_of w q.1 = ap (λ (b : ScalarValue × ScalarValue). b.1) both in
      let kx : kind_of_scalar x ≡ k = ap kind_of_scalar first ∙ scalar-kind k q.0 in
      let ky : kind_of_scalar y ≡ w = ap kind_of_scalar second ∙ scalar-kind w q.1 in
      let vx : value_of_scalar x ≡ q.0 = ap value_of_scalar first ∙ scalar-value k q.0 good.0 in
      let vy : value_of_scalar y ≡ q.1 = ap value_of_scalar second ∙ scalar-value w q.1 good.1 in
      let P : ScalarKind → ScalarKind → ℤ → ℤ → Type 0 =
      λ a b c d. TakesStepOfKind old new (ByHandle h) (kinds.Map a b)
      (asked.Put (ByHandle h) (literal_of a c) (literal_of b d)) (truth_answer called) in (
        subst (λ d. P k w q.0 d) vy (subst (λ c. P k w c (value_of_scalar y)) vx
            (subst (λ b. P k b (value_of_scalar x) (value_of_scalar y)) ky
            (subst (λ a. P a (kind_of_scalar y) (value_of_scalar x) (value_of_scalar y)) kx step))),
        read.1,
      )) (λ e. ok (was-true called e))

-- ---- texts

module _ (old : SegmentState) (h n : ℕ) (text room : List ℕ) where
  text-next : Next old h n (length room) kinds.Strings text text_lines (IsShortText (length room))
      (λ bs. asked.Push (ByHandle h) (asked.Quoted bs)) Done
  text-next p f l at =
      let q = strings-of p.content f.kind_is in
      let good = subst IsBuildableContent q.1 f.good in
      let long : (texts_needs (Strings q.0)).longest ≤ length room =
      subst (λ (c : ValueContent). (texts_needs c).longest ≤ length room) q.1 f.longest in
      next-text_of old text p h n (length room) q.0 q.1 (subst (λ (c : ValueContent). n < count_of_content c) q.1 l)
      good.1 long f.rest at

module _ {E F : Type 0} (old new : SegmentState) (h n : ℕ) (text rest room after : List ℕ) where
  -- a string that was not read: nothing is added
  pub text-unread : (e : E) (result : Result (Unit {0}) F) → Collects text rest room after (Err e)
      → AddsElement old new h kinds.Strings n text rest (length room) result
  text-unread e result r =
      unread old h n (length room) _ text _ _ _ _ new rest result (text-next old h n text room)
      (λ bs a good t. never-ok e (length bs) (r.collects bs a good.1.1 good.1.0 good.0 t).0)

  -- a string that was read is pushed
  pub text-adds : (len : ℕ) (called : Result (Unit {0}) Refusal) (result : Result (Unit {0}) F)
      → Collects {E = E} text rest room after (Ok len)
      → TakesStepOfKind old new (ByHandle h) kinds.Strings (asked.Push (ByHandle h) (asked.Quoted (take len after)))
      (done_answer called) → (called ≡ Ok tt → result ≡ Ok tt)
      → AddsElement old new h kinds.Strings n text rest (length room) result
  text-adds len called result r step ok = added old h n (length room) _ text _ _ _ _ new rest result
      (done_answer called) (text-next old h n text room) (λ bs a good t.
      let c = r.collects bs a good.1.1 good.1.0 good.0 t in
      let is : len ≡ length bs = ok-same {E = E} len (length bs) c.0 in (
        subst (λ b. TakesStepOfKind old new (ByHandle h) kinds.Strings (asked.Push (ByHandle h) (asked.Quoted b))
            (done_answer called)) (ap (λ m. take m after) is ∙ c.1) step,
        c.2,
      )) (λ e. ok (was-done called e))
