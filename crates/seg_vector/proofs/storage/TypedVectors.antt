-- Vectors of values and texts, from the facts about their bytes.
use Rattle.seg_vector.proofs.Common as W
use W.{◌≡◌, sym, ◌∙◌, ℕ, suc, ◌+◌, ◌*◌, ◌<◌, ◌∷◌, ◌-◌, ◌≤◌, max, part, WindowState, Ok, Err, ShrinksStorage, [], refl}
use W.{zero, Bool, true, List, ◌++◌, take, drop, arith, false, Some, BackingArray, Place, Result, ReservesStorage}
use W.{IsContainer, IsText, ap, if◌then◌else◌, length-append, take-append-add, drop-append-add, length-insert}
use W.{length-remove, LacksSpace, subst, list_all-append, take-append-drop, flat_map-append, take-append_seam}
use W.{capacity_for_one, capacity_for_text, length, append_assoc, append-nil, length-take, length-drop, MatchResult}
use W.{RewritesElements, GrowsTextOk, GrowsVectorOk, ReplacesVector, IsTrue, insert, remove, nat_le, patched, word_at}
use W.{live_of, Refusal, ErasesElement, Extends, Inserts, ReservesStorageOk, drop-nil, flat_map, list_all, and_from}
use W.{leb-true, bytes_of, no_backing, ReadsOne, IsVector, take-nil, gaps-refl, slice_get, slice_set, and_parts}
use W.{length-set, FreesStorage, Overwrites, Truncates, IsStanding, ReplacesText, gaps-trans}
use Rattle.seg_vector.proofs.storage.Storage.{at-least, capacity-bytes, exchange-then, grown-gaps, has-place}
use Rattle.seg_vector.proofs.storage.Storage.{not-refused}
use Rattle.seg_vector.proofs.{storage.Storage.same-storage, storage.Storage.unchanged-rewritten}
use Rattle.seg_vector.proofs.{storage.Storage.wanted-places, storage.HeadAndBlock.same-some}
use Rattle.best_fit.specs.Table.{shrunk_backing}
use Rattle.raw_region.proofs.Laws.{patched-append}
use Rattle.seg_vector.specs.{Vector.capacity_for_more, VectorCalls.replaced}

-- ---- properties of each element

all-parts : {T : Type 0} → (test : T → Bool) (n : ℕ) (xs : List T) → IsTrue (list_all test xs)
    → IsTrue (list_all test (take n xs)) × IsTrue (list_all test (drop n xs))
all-parts test n xs v = and_parts (list_all test (take n xs)) (list_all test (drop n xs))
    (sym (list_all-append test (take n xs) (drop n xs)) ∙ ap (list_all test) (take-append-drop n xs) ∙ v)

-- a property of two lists holds for both together
pub all-both : {T : Type 0} → (test : T → Bool) (xs ys : List T) → IsTrue (list_all test xs)
    → IsTrue (list_all test ys) → IsTrue (list_all test (xs ++ ys))
all-both test xs ys v w = list_all-append test xs ys ∙ and_from (list_all test xs) (list_all test ys) v w

-- the case of an empty list
pub all-none : {T : Type 0} → (test : T → Bool) (xs : List T) → length xs ≡ 0 → IsTrue (list_all test xs)
all-none test [] e = refl
all-none test (x ∷ xs) e = absurd (omega (arith, e))

-- the elements between the first i and those from j on are replaced
all-edit : {T : Type 0} → (test : T → Bool) (xs : List T) (i j : ℕ) (ys : List T) → IsTrue (list_all test xs)
    → IsTrue (list_all test ys) → IsTrue (list_all test (take i xs ++ (ys ++ drop j xs)))
all-edit test xs i j ys v e = all-both test (take i xs) (ys ++ drop j xs) (all-parts test i xs v).0
    (all-both test ys (drop j xs) e (all-parts test j xs v).1)

all-one : {T : Type 0} → (test : T → Bool) (y : T) → test y ≡ true → IsTrue (list_all test (y ∷ []))
all-one test y e = and_from (test y) true e refl

-- a property of all elements holds for one
pub all-at : {T : Type 0} → (test : T → Bool) (xs : List T) (i : ℕ) {x : T} → IsTrue (list_all test xs)
    → slice_get xs i ≡ Some x → test x ≡ true
all-at test [] i v e = absurd (cc)
all-at test (y ∷ ys) zero v e = subst (λ z. test z ≡ true) (same-some e) (and_parts (test y) (list_all test ys) v).0
all-at test (y ∷ ys) (suc i) v e = all-at test ys i (and_parts (test y) (list_all test ys) v).1 e

-- and one more
pub all-next : {T : Type 0} → (test : T → Bool) (xs : List T) (y : T) → IsTrue (list_all test xs) → test y ≡ true
    → IsTrue (list_all test (xs ++ y ∷ []))
all-next test xs y v e = all-both test xs (y ∷ []) v (all-one test y e)

-- replacing by an empty list changes nothing
pub replaced-none : {T : Type 0} → (xs : List T) (i : ℕ) (ys : List T) → length ys ≡ 0 → xs ≡ replaced xs i ys
replaced-none xs i [] e =
    let at : i ≡ i + 0 = omega arith in sym (take-append-drop i xs) ∙ ap (λ k. take i xs ++ drop k xs) at
replaced-none xs i (y ∷ ys) e = absurd (omega (arith, e))

-- ---- one element

-- an index below the length has an element
pub has-element : {T : Type 0} → (xs : List T) (i : ℕ) → i < length xs → (x : T) × (slice_get xs i ≡ Some x)
has-element [] i f = absurd (omega arith)
has-element (x ∷ xs) zero f = (x, refl)
has-element (x ∷ xs) (suc i) f = has-element xs i (omega arith)

-- an element that is set, with the elements before and after it
pub set-pieces : {T : Type 0} → (xs : List T) (i : ℕ) (y : T) → i < length xs
    → slice_set xs i y ≡ take i xs ++ (y ∷ drop (suc i) xs)
set-pieces [] i y f = absurd (omega arith)
set-pieces (x ∷ xs) zero y f = refl
set-pieces (x ∷ xs) (suc i) y f = ap (λ l. x ∷ l) (set-pieces xs i y (omega arith))

-- ---- their bytes

module _ {T : Type 0} (size : ℕ) (test : T → Bool) (sp : T → List ℕ)
    (spells : (x : T) → test x ≡ true → length (sp x) ≡ size) where
  one-more : (n : ℕ) (x : T) → test x ≡ true → size * suc n ≡ length (sp x) + size * n
  one-more n x e = let step : size * suc n ≡ size + size * n = omega arith in omega (arith, step, spells x e)

  -- the number of all bytes
  pub flat-long : (xs : List T) → IsTrue (list_all test xs) → length (flat_map sp xs) ≡ size * length xs
  flat-long [] v = let none : 0 ≡ size * 0 = omega arith in none
  flat-long (x ∷ xs) v =
      let both = and_parts (test x) (list_all test xs) v in
      length-append (sp x) (flat_map sp xs) ∙ ap (λ k. length (sp x) + k) (flat-long xs both.1)
      ∙ sym (one-more (length xs) x both.0)

  -- one more value is encoded after others
  pub spelled-next : (slice : List ℕ) (from : ℕ) (front : List T) (y : T) → IsTrue (list_all test front) → test y ≡ true
      → from + size * length front + size ≤ length slice
      → patched (patched slice from (flat_map sp front)) (from + size * length front) (sp y)
      ≡ patched slice from (flat_map sp (front ++ y ∷ []))
  spelled-next slice from front y v e inside =
      let long = flat-long front v in
      ap (λ k. patched (patched slice from (flat_map sp front)) (from + k) (sp y)) (sym long)
      ∙ patched-append slice from (flat_map sp front) (sp y) (omega (arith, long, spells y e, inside))
      ∙ ap (λ bs. patched slice from bs) (ap (λ bs. flat_map sp front ++ bs) (sym (append-nil (sp y)))
      ∙ sym (flat_map-append sp front (y ∷ [])))

  -- the first elements have the first bytes
  pub flat-take : (n : ℕ) (xs : List T) → IsTrue (list_all test xs) → take (size * n) (flat_map sp xs) ≡ flat_map sp
      (take n xs)
  flat-take zero xs v = let none : size * 0 ≡ 0 = omega arith in ap (λ k. take k (flat_map sp xs)) none
  flat-take (suc n) [] v = take-nil (size * suc n)
  flat-take (suc n) (x ∷ xs) v =
      let both = and_parts (test x) (list_all test xs) v in
      ap (λ k. take k (sp x ++ flat_map sp xs)) (one-more n x both.0) ∙ take-append-add (sp x) (flat_map sp xs)
      (size * n) ∙ ap (λ bs. sp x ++ bs) (flat-take n xs both.1)

  -- and the others the others
  flat-drop : (n : ℕ) (xs : List T) → IsTrue (list_all test xs) → drop (size * n) (flat_map sp xs) ≡ flat_map sp
      (drop n xs)
  flat-drop zero xs v = let none : size * 0 ≡ 0 = omega arith in ap (λ k. drop k (flat_map sp xs)) none
  flat-drop (suc n) [] v = drop-nil (size * suc n)
  flat-drop (suc n) (x ∷ xs) v =
      let both = and_parts (test x) (list_all test xs) v in
      ap (λ k. drop k (sp x ++ flat_map sp xs)) (one-more n x both.0) ∙ drop-append-add (sp x) (flat_map sp xs)
      (size * n) ∙ flat-drop n xs both.1

  flat-first : (xs : List T) (i : ℕ) {x : T} → IsTrue (list_all test xs) → slice_get xs i ≡ Some x
      → take size (flat_map sp (drop i xs)) ≡ sp x
  flat-first [] i v e = absurd (cc)
  flat-first (y ∷ ys) zero v e =
      let long = spells y (and_parts (test y) (list_all test ys) v).0 in
      ap (λ k. take k (sp y ++ flat_map sp ys)) (sym long) ∙ take-append_seam (sp y) (flat_map sp ys)
      ∙ ap sp (same-some e)
  flat-first (y ∷ ys) (suc i) v e = flat-first ys i (and_parts (test y) (list_all test ys) v).1 e

  -- the bytes of one element
  pub flat-element : (xs : List T) (i : ℕ) {x : T} → IsTrue (list_all test xs) → slice_get xs i ≡ Some x
      → part (flat_map sp xs) (size * i) size ≡ sp x
  flat-element xs i v e = ap (take size) (flat-drop i xs v) ∙ flat-first xs i v e

  -- the elements between the first i and those from j on are replaced
  flat-edit : (xs : List T) (i j k : ℕ) (ys : List T) → k ≡ size * j → IsTrue (list_all test xs)
      → take (size * i) (flat_map sp xs) ++ (flat_map sp ys ++ drop k (flat_map sp xs)) ≡ flat_map sp
      (take i xs ++ (ys ++ drop j xs))
  flat-edit xs i j k ys e v =
      let front = flat-take i xs v in
      let back : drop k (flat_map sp xs) ≡ flat_map sp (drop j xs) = ap (λ n. drop n (flat_map sp xs)) e ∙ flat-drop j
      xs v in
      let both : take (size * i) (flat_map sp xs) ++ (flat_map sp ys ++ drop k (flat_map sp xs)) ≡ flat_map sp
      (take i xs) ++ (flat_map sp ys ++ flat_map sp (drop j xs)) = λ n. front n ++ (flat_map sp ys ++ back n) in
      both ∙ ap (λ bs. flat_map sp (take i xs) ++ bs) (sym (flat_map-append sp ys (drop j xs)))
      ∙ sym (flat_map-append sp (take i xs) (ys ++ drop j xs))

  -- others in the places from one on
  pub flat-replaced : (xs : List T) (i : ℕ) (ys : List T) → IsTrue (list_all test xs) → IsTrue (list_all test ys)
      → patched (flat_map sp xs) (size * i) (flat_map sp ys) ≡ flat_map sp (replaced xs i ys)
  flat-replaced xs i ys v w =
      let fs : List ℕ = flat_map sp xs in let long = flat-long ys w in
      let step : size * (i + length ys) ≡ size * i + size * length ys = omega arith in
      let behind : size * i + length (flat_map sp ys) ≡ size * (i + length ys) = omega (arith, step, long) in
      append_assoc (take (size * i) fs) (flat_map sp ys) (drop (size * i + length (flat_map sp ys)) fs)
      ∙ flat-edit xs i (i + length ys) (size * i + length (flat_map sp ys)) ys behind v

  -- another one in its place
  pub flat-set : (xs : List T) (i : ℕ) (y : T) → IsTrue (list_all test xs) → i < length xs → test y ≡ true
      → patched (flat_map sp xs) (size * i) (sp y) ≡ flat_map sp (slice_set xs i y)
  flat-set xs i y v f e =
      let fs : List ℕ = flat_map sp xs in let long = spells y e in
      let step : size * suc i ≡ size * i + size = omega arith in
      let behind : size * i + length (sp y) ≡ size * suc i = omega (arith, step, long) in
      append_assoc (take (size * i) fs) (sp y) (drop (size * i + length (sp y)) fs)
      ∙ ap (λ bs. take (size * i) fs ++ (bs ++ drop (size * i + length (sp y)) fs)) (sym (append-nil (sp y)))
      ∙ flat-edit xs i (suc i) (size * i + length (sp y)) (y ∷ []) behind v
      ∙ sym (ap (flat_map sp) (set-pieces xs i y f))

  -- one more element
  pub flat-insert : (xs : List T) (i : ℕ) (y : T) → IsTrue (list_all test xs)
      → take (size * i) (flat_map sp xs) ++ (sp y ++ drop (size * i) (flat_map sp xs)) ≡ flat_map sp (insert xs i y)
  flat-insert xs i y v = ap (λ bs. take (size * i) (flat_map sp xs) ++ (bs ++ drop (size * i) (flat_map sp xs)))
      (sym (append-nil (sp y))) ∙ flat-edit xs i i (size * i) (y ∷ []) refl v

  -- one element less
  pub flat-remove : (xs : List T) (i : ℕ) → IsTrue (list_all test xs)
      → take (size * i) (flat_map sp xs) ++ drop (size * i + size) (flat_map sp xs) ≡ flat_map sp (remove xs i)
  flat-remove xs i v = let step : size * i + size ≡ size * suc i = omega arith in flat-edit xs i (suc i)
      (size * i + size) [] step v

-- ---- vectors of values, from the facts about their bytes

-- the vector has this many elements, and these values
pub vector-now : {T : Type 0} → {size : ℕ} (test : T → Bool) (sp : T
    → List ℕ) {old new : WindowState} {p : Place} {n : ℕ}
    {t : BackingArray} {bytes : List ℕ} (ys : List T) → RewritesElements old new p size n t bytes
    → n ≡ length ys → bytes ≡ flat_map sp ys → IsTrue (list_all test ys) → ReplacesVector size test sp old new p t ys t
vector-now {size = size} test sp {new = new} {p} {n} {t} ys r e f v = record {
  change = r.change;
  gaps = λ same. r.gaps;
  vector = record {
    stands = subst (λ k. IsContainer new.bytes p size k t (flat_map sp ys)) e
        (subst (λ bs. IsContainer new.bytes p size n t bs) f r.stands);
    values = v;
  };
}

module _ {T : Type 0} {size : ℕ} {test : T → Bool} {sp : T → List ℕ} where
  -- two changes, one after the other, in the same storage
  pub now-then : {old mid new : WindowState} {p : Place} {t : BackingArray} {xs ys zs : List T}
      → IsVector size test sp old.bytes p xs t → ReplacesVector size test sp old mid p t ys t
      → ReplacesVector size test sp mid new p t zs t → ReplacesVector size test sp old new p t zs t
  now-then {old} {mid} {new} v c w = record {
    change = exchange-then c.change w.change;
    gaps = λ same. gaps-trans old mid new (same-storage v.stands c.change) (c.gaps same) (w.gaps same);
    vector = w.vector;
  }

  -- the storage is grown, and the values stay
  pub vector-grown : {old new : WindowState} {p : Place} {n : ℕ} {t : BackingArray} {xs : List T}
      → IsVector size test sp old.bytes p xs t
      → ReservesStorageOk old new p size n (length xs) t (flat_map sp xs) → GrowsVectorOk size test sp old new p t n xs
  vector-grown v g = record {
    table = g.table;
    grown = g.grown;
    now = record {
      change = g.change;
      gaps = g.gaps;
      vector = record { stands = g.stands; values = v.values };
    };
  }

  -- the storage grows, and then has other values
  pub grown-then : {old mid new : WindowState} {p : Place} {n : ℕ} {t : BackingArray} {xs ys : List T}
      → IsVector size test sp old.bytes p xs t → (g : ReservesStorageOk old mid p size n (length xs) t (flat_map sp xs))
      → ReplacesVector size test sp mid new p g.table ys g.table → GrowsVectorOk size test sp old new p t n ys
  grown-then v g w = record {
    table = g.table;
    grown = g.grown;
    now = record {
      change = exchange-then g.change w.change;
      gaps = λ same. grown-gaps v.stands g same (w.gaps refl);
      vector = w.vector;
    };
  }

  -- nothing is done
  pub unchanged-now : (c : WindowState) {p : Place} {xs : List T} (ys : List T) {t : BackingArray}
      → IsVector size test sp c.bytes p xs t → xs ≡ ys → ReplacesVector size test sp c c p t ys t
  unchanged-now c {p} ys {t} v e = subst (λ (zs : List T). ReplacesVector size test sp c c p t zs t) e
      (record { change = (unchanged-rewritten c v.stands).change; gaps = λ same. gaps-refl c; vector = v })

  -- a place that is free
  pub has-space : {b : List ℕ} {p : Place} {xs : List T} {t : BackingArray} → IsVector size test sp b p xs t → length xs
      < t.capacity → word_at (bytes_of b) (p.handle + p.at + 8) < word_at (bytes_of b) (p.handle + p.at + 16)
  has-space v f = omega (arith, f, v.stands.words.len_word, v.stands.words.capacity)

-- ---- the same of texts

pub text-now : {old new : WindowState} {p : Place} {n : ℕ} {t : BackingArray} {bytes : List ℕ} (ys : List ℕ)
    → RewritesElements old new p 1 n t bytes → n ≡ length ys → bytes ≡ ys → ReplacesText old new p t ys t
text-now {new} {p} {n} {t} ys r e f = record {
  change = r.change;
  gaps = λ same. r.gaps;
  text = subst (λ k. IsContainer new.bytes p 1 k t ys) e (subst (λ bs. IsContainer new.bytes p 1 n t bs) f r.stands);
}

-- two replacements of a string, one after the other
pub text-then : {old mid new : WindowState} {p : Place} {t : BackingArray} {bytes ys zs : List ℕ}
    → IsText old.bytes p bytes t
    → ReplacesText old mid p t ys t → ReplacesText mid new p t zs t → ReplacesText old new p t zs t
text-then {old} {mid} {new} s c w = record {
  change = exchange-then c.change w.change;
  gaps = λ same. gaps-trans old mid new (same-storage s c.change) (c.gaps same) (w.gaps same);
  text = w.text;
}

-- a string that grew, and then was replaced
pub text-grown-then : {old mid new : WindowState} {p : Place} {n : ℕ} {t : BackingArray} {bytes ys : List ℕ}
    → IsText old.bytes p bytes t → (g : ReservesStorageOk old mid p 1 n (length bytes) t bytes)
    → ReplacesText mid new p g.table ys g.table → GrowsTextOk old new p t n ys
text-grown-then s g w = record {
  table = g.table;
  grown = g.grown;
  now = record {
    change = exchange-then g.change w.change;
    gaps = λ same. grown-gaps s g same (w.gaps refl);
    text = w.text;
  };
}

-- ---- the effect of calls on bytes, for vectors. The element size is the type's.

-- the effect of growing the storage to this capacity, by the length and the capacity
abbrev pub HasGrown : WindowState → WindowState → Place → ℕ → (ℕ → ℕ → ℕ) → Type 0
HasGrown old mid p k n = (len : ℕ) (t : BackingArray) (bytes : List ℕ) → IsContainer old.bytes p k len t bytes
    → ReservesStorageOk old mid p k (n len t.capacity) len t bytes

module _ {T : Type 0} {size : ℕ} {test : T → Bool} {sp : T
    → List ℕ} (old mid : WindowState) {p : Place} {k : ℕ} {xs : List T}
    {t : BackingArray} (e : k ≡ size) (v : IsVector size test sp old.bytes p xs t) where
  stands-at : IsContainer old.bytes p k (length xs) t (flat_map sp xs)
  stands-at = subst (λ j. IsContainer old.bytes p j (length xs) t (flat_map sp xs)) (sym e) v.stands

  -- a vector that grew: its capacity
  pub grown-of : (n : ℕ → ℕ → ℕ) → HasGrown old mid p k n
      → ReservesStorageOk old mid p size (n (length xs) t.capacity) (length xs) t (flat_map sp xs)
  grown-of n h = subst (λ j. HasGrown old mid p j n) e h (length xs) t (flat_map sp xs) v.stands

  pub without-space : (n : ℕ → ℕ → ℕ) {f : Refusal} → ((len : ℕ) (u : BackingArray) (bytes : List ℕ)
      → IsContainer old.bytes p k len u bytes → LacksSpace old mid k (n len u.capacity) u f)
      → LacksSpace old mid size (n (length xs) t.capacity) t f
  without-space n {f = f} h = subst (λ j. LacksSpace old mid j (n (length xs) t.capacity) t f) e
      (h (length xs) t (flat_map sp xs) stands-at)

  -- the bytes of an element encode its value
  pub element-spells : (i : ℕ) {x : T} (out : List ℕ) → ((x : T) → test x ≡ true → length (sp x) ≡ size)
      → slice_get xs i ≡ Some x → ReadsOne old.bytes p k i out → out ≡ sp x
  element-spells i out spells f h = h (length xs) t (flat_map sp xs) stands-at
      ∙ ap (λ j. part (flat_map sp xs) (j * i) j) e ∙ flat-element size test sp spells xs i v.values f

  -- the requested capacity
  pub reserved-of : (n : ℕ) (r : Result (Unit {0}) Refusal) → ReservesStorage old mid p k n r
      → MatchResult r (λ u. GrowsVectorOk size test sp old mid p t n xs) (LacksSpace old mid size n t)
  reserved-of n (Ok u) h = vector-grown v (grown-of (λ len capacity. n) h)
  reserved-of n (Err f) h = without-space (λ len capacity. n) h

  -- a capacity that suffices: nothing changes
  pub reserved-enough : (n : ℕ) (r : Result (Unit {0}) Refusal) → ReservesStorage old mid p k n r → n ≤ t.capacity
      → (r ≡ Ok tt) × (mid ≡ old)
  reserved-enough n (Ok tt) h less = (refl, (grown-of (λ len capacity. n) h).enough less)
  reserved-enough n (Err f) h less = absurd (not-refused less (without-space (λ len capacity. n) h))

  -- one more element: the capacity suffices then
  pub stands-for-one : HasGrown old mid p k capacity_for_one → IsStanding mid.bytes p size
  stands-for-one h = let grown = grown-of capacity_for_one h in
      (length xs, (grown.table, (flat_map sp xs, grown.stands)))

  -- a vector that grew has a place for one element
  pub space-for-one : HasGrown old mid p k capacity_for_one
      → word_at (bytes_of mid.bytes) (p.handle + p.at + 8) < word_at (bytes_of mid.bytes) (p.handle + p.at + 16)
  space-for-one h = has-place (wanted-places (length xs) t.capacity v.stands.fits).0 (grown-of capacity_for_one h)

  -- a vector that was truncated
  pub cut-now : (n : ℕ) → ((x : T) → test x ≡ true → length (sp x) ≡ size) → n ≤ length xs → Truncates old mid p k n
      → ReplacesVector size test sp old mid p t (take n xs) t
  cut-now n spells f h =
      let r = subst (λ j. Truncates old mid p j n) e h (length xs) t (flat_map sp xs) v.stands in
      vector-now test sp (take n xs) r (omega (arith, length-take n xs, f))
      (flat-take size test sp spells n xs v.values) (all-parts test n xs v.values).0

  -- a vector with one element set
  pub set-now : (i : ℕ) (y : T) → ((x : T) → test x ≡ true → length (sp x) ≡ size) → i < length xs → test y ≡ true
      → Overwrites old mid p k i (sp y) → ReplacesVector size test sp old mid p t (slice_set xs i y) t
  set-now i y spells f good h =
      let r = subst (λ j. Overwrites old mid p j i (sp y)) e h (length xs) t (flat_map sp xs) v.stands in
      vector-now test sp (slice_set xs i y) r (sym (length-set xs i y)) (flat-set size test sp spells xs i y v.values f
      good) (subst (λ l. IsTrue (list_all test l)) (sym (set-pieces xs i y f)) (all-edit test xs i (suc i) (y ∷ [])
      v.values (all-one test y good)))

  -- a vector with elements overwritten
  pub replaced-now : (i : ℕ) (ys : List T) → ((x : T) → test x ≡ true → length (sp x) ≡ size)
      → i + length ys ≤ length xs → IsTrue (list_all test ys) → Overwrites old mid p k i (flat_map sp ys)
      → ReplacesVector size test sp old mid p t (replaced xs i ys) t
  replaced-now i ys spells f w h =
      let r = subst (λ j. Overwrites old mid p j i (flat_map sp ys)) e h (length xs) t (flat_map sp xs) v.stands in
      let long : length xs ≡ length (replaced xs i ys) = omega (
        arith,
        f,
        length-append (take i xs) (ys ++ drop (i + length ys) xs),
        length-append ys (drop (i + length ys) xs),
        length-take i xs,
        length-drop (i + length ys) xs,
      ) in
      vector-now test sp (replaced xs i ys) r long (flat-replaced size test sp spells xs i ys v.values w)
      (all-edit test xs i (i + length ys) ys v.values w)

  -- a vector with one element appended
  pub appended-now : (y : T) → test y ≡ true → Extends old mid p k 1 (sp y)
      → ReplacesVector size test sp old mid p t (xs ++ y ∷ []) t
  appended-now y good h =
      let r = subst (λ j. Extends old mid p j 1 (sp y)) e h (length xs) t (flat_map sp xs) v.stands in
      vector-now test sp (xs ++ y ∷ []) r (sym (length-append xs (y ∷ [])))
      (ap (λ bs. flat_map sp xs ++ bs) (sym (append-nil (sp y))) ∙ sym (flat_map-append sp xs (y ∷ [])))
      (all-both test xs (y ∷ []) v.values (all-one test y good))

  -- a vector with elements appended at once
  pub extended-now : (ys : List T) → IsTrue (list_all test ys) → Extends old mid p k (length ys) (flat_map sp ys)
      → ReplacesVector size test sp old mid p t (xs ++ ys) t
  extended-now ys good h =
      let r = subst (λ j. Extends old mid p j (length ys) (flat_map sp ys)) e h (length xs) t (flat_map sp xs)
      v.stands in
      vector-now test sp (xs ++ ys) r (sym (length-append xs ys)) (sym (flat_map-append sp xs ys))
      (all-both test xs ys v.values good)

  -- a vector with one element inserted
  pub inserted-now : (i : ℕ) (y : T) → ((x : T) → test x ≡ true → length (sp x) ≡ size) → i ≤ length xs → test y ≡ true
      → Inserts old mid p k i (sp y) → ReplacesVector size test sp old mid p t (insert xs i y) t
  inserted-now i y spells f good h =
      let r = subst (λ j. Inserts old mid p j i (sp y)) e h (length xs) t (flat_map sp xs) v.stands in
      vector-now test sp (insert xs i y) r (sym (length-insert xs i y f))
      (flat-insert size test sp spells xs i y v.values) (all-edit test xs i i (y ∷ []) v.values (all-one test y good))

  -- a vector with one element erased
  pub erased-now : (i : ℕ) → ((x : T) → test x ≡ true → length (sp x) ≡ size)
      → i < length xs → ErasesElement old mid p k i → ReplacesVector size test sp old mid p t (remove xs i) t
  erased-now i spells f h =
      let r = subst (λ j. ErasesElement old mid p j i) e h (length xs) t (flat_map sp xs) v.stands in
      vector-now test sp (remove xs i) r (omega (arith, length-remove xs i f))
      (flat-remove size test sp spells xs i v.values) (all-edit test xs i (suc i) [] v.values refl)

  -- a vector whose storage fits its elements
  pub fitted-now : ShrinksStorage old mid p k
      → ReplacesVector size test sp old mid p t xs (shrunk_backing (live_of old.bytes) size (length xs) t)
  fitted-now h =
      let r = subst (ShrinksStorage old mid p) e h (length xs) t (flat_map sp xs) v.stands in
      record { change = r.change; gaps = r.gaps; vector = record { stands = r.stands; values = v.values } }

  -- a vector that was released
  pub released-now : FreesStorage old mid p k → let none : List T = [] in ReplacesVector size test sp old mid p t none
      no_backing
  released-now h =
      let r = subst (FreesStorage old mid p) e h (length xs) t (flat_map sp xs) v.stands in
      record { change = r.change; gaps = r.gaps; vector = record { stands = r.stands; values = refl } }

-- ---- capacities for more

-- the capacity is enough
pub enough-for-more : (len more c : ℕ) → len + more ≤ capacity_for_more len more c
enough-for-more len more c = by-test (nat_le (len + more) c) refl
  where
    by-test : (b : Bool) → nat_le (len + more) c ≡ b → len + more ≤ (if b then c else max (max 4 (2 * c)) (len + more))
    by-test true e = leb-true (len + more) c e
    by-test false e = grind arith

-- the capacity for more elements, by the words that were read
pub wanted-for-more : {w len capacity n k : ℕ} (more : ℕ) → w ≡ capacity_for_more len more capacity → len ≡ n
    → capacity ≡ k → w ≡ capacity_for_more n more k
wanted-for-more more e f g = e ∙ (λ i. capacity_for_more (f i) more (g i))

-- a vector has few elements and places
pub few-places : {T : Type 0} {size : ℕ} {test : T → Bool} {sp : T → List ℕ} (c : WindowState) {p : Place} {xs : List T}
    {t : BackingArray} → 1 ≤ size → IsVector size test sp c.bytes p xs t
    → (length xs ≤ t.capacity) × (t.capacity < 1073741824)
few-places {size = size} c {t = t} some v = (
  v.stands.fits,
  omega (arith, capacity-bytes c v.stands.heap v.stands, at-least size t.capacity some),
)

-- ---- the effect of calls on bytes, for texts

-- the capacity is enough for the requested bytes
pub wanted-bytes : (n c : ℕ) → n ≤ capacity_for_text n c
wanted-bytes n c = wanted-if n c (nat_le n c) refl
  where
    wanted-if : (n c : ℕ) (b : Bool) → nat_le n c ≡ b → n ≤ (if b then c else max (max 16 (2 * c)) n)
    wanted-if n c true e = leb-true n c e
    wanted-if n c false e = grind arith

-- the capacity for a longer string, by the words that were read
pub text-wanted : {w n capacity k : ℕ} (bytes more : List ℕ) → w ≡ capacity_for_text (n + length more) capacity
    → n ≡ length bytes → capacity ≡ k → w ≡ capacity_for_text (length (bytes ++ more)) k
text-wanted {n = n} bytes more e f g =
    let needed : n + length more ≡ length (bytes ++ more) = omega (arith, f, length-append bytes more) in
    e ∙ (λ i. capacity_for_text (needed i) (g i))

module _ (old mid : WindowState) {p : Place} {bytes : List ℕ} {t : BackingArray} (v : IsText old.bytes p bytes t) where
  -- a string has fewer than 2^30 bytes of capacity
  pub few-bytes : t.capacity < 1073741824
  few-bytes = let few : 1 * t.capacity < 1073741824 = capacity-bytes old v.heap v in omega (arith, few)

  -- a string whose capacity was reserved, or not
  pub text-reserved : (n : ℕ) (r : Result (Unit {0}) Refusal) → ReservesStorage old mid p 1 n r
      → MatchResult r (λ u. GrowsTextOk old mid p t n bytes) (LacksSpace old mid 1 n t)
  text-reserved n (Ok u) h = let g = h (length bytes) t bytes v in
      record {
        table = g.table;
        grown = g.grown;
        now = record {
          change = g.change;
          gaps = g.gaps;
          text = g.stands;
        };
      }
  text-reserved n (Err f) h = h (length bytes) t bytes v

  -- a capacity that suffices: nothing changes
  pub text-enough : (n : ℕ) (r : Result (Unit {0}) Refusal) → ReservesStorage old mid p 1 n r → n ≤ t.capacity
      → (r ≡ Ok tt) × (mid ≡ old)
  text-enough n (Ok tt) h less = (refl, (h (length bytes) t bytes v).enough less)
  text-enough n (Err f) h less = absurd (not-refused less (h (length bytes) t bytes v))

  -- a string with one byte set
  pub byte-set : (i x : ℕ) → i < length bytes → Overwrites old mid p 1 i (x ∷ [])
      → ReplacesText old mid p t (slice_set bytes i x) t
  byte-set i x f h =
      let at : 1 * i ≡ i = omega arith in let next : i + 1 ≡ suc i = omega arith in
      let r = subst (λ j. RewritesElements old mid p 1 (length bytes) t (patched bytes j (x ∷ []))) at
      (h (length bytes) t bytes v) in
      let is : patched bytes i (x ∷ []) ≡ slice_set bytes i x = append_assoc (take i bytes) (x ∷ [])
      (drop (i + 1) bytes) ∙ ap (λ k. take i bytes ++ (x ∷ drop k bytes)) next ∙ sym (set-pieces bytes i x f) in
      text-now (slice_set bytes i x) r (sym (length-set bytes i x)) is

  -- a string with bytes appended
  pub text-extended : (more : List ℕ) → Extends old mid p 1 (length more) more
      → ReplacesText old mid p t (bytes ++ more) t
  text-extended more h = text-now (bytes ++ more) (h (length bytes) t bytes v) (sym (length-append bytes more)) refl

  -- places for bytes after the last one
  pub text-space : (more : List ℕ) → length bytes + length more ≤ t.capacity → word_at (bytes_of old.bytes)
      (p.handle + p.at + 8) + length more ≤ word_at (bytes_of old.bytes) (p.handle + p.at + 16)
  text-space more f = omega (arith, f, v.words.len_word, v.words.capacity)
