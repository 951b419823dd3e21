-- Bytes one row after another: elements of one length, and the same bytes several times.
use Rattle.best_fit.proofs.Laws.{room-less}
use Rattle.raw_region.proofs.Bytes.{HasBytesAt-append, HasBytesAt-drop, HasBytesAt-patched}
use Rattle.raw_region.proofs.Facts.{AllByRecursion-behind, first, second}
use Rattle.seg_vector.proofs.storage.TypedVectors.{flat-set}
use Rattle.segment_manager.proofs.Common.{AllByRecursion, Bool, ChangesBytes, HasBytesAt, IsHeap, IsTrue, List, Memory}
use Rattle.segment_manager.proofs.Common.{Option, SameBytesExcept, ScalarKind, Some, WindowState, Yields, [], and_from}
use Rattle.segment_manager.proofs.Common.{ap, arith, bytes_of, changed-room, current, flat_map, flat_map_more, has_room}
use Rattle.segment_manager.proofs.Common.{is_value, length, length-append, length-map, list_all, live_of, map}
use Rattle.segment_manager.proofs.Common.{mul-le-mul_left, refl, repeated, replicate, size_of, slice_get, slice_set}
use Rattle.segment_manager.proofs.Common.{spelled, spelling, subst, suc, sym, true, zero, ℕ, ℤ, ◌*◌, ◌++◌, ◌+◌, ◌<◌}
use Rattle.segment_manager.proofs.Common.{◌∙◌, ◌∷◌, ◌≡◌, ◌≤◌}
use Rattle.segment_manager.proofs.blocks.{Blocks.spelled-length, Blocks.spelling-length, NewBlocks.changed-trans}
use Rattle.segment_manager.proofs.objects.{Exchanged.bytes-stay, Exchanged.room-small, Heads.Has-front}
use Rattle.segment_manager.specs.objects.PendingObjects.{WritesItem}
use Rattle.std.proofs.{Math.Seq.drop-append_seam, lemmas.List.map_push, lemmas.List.replicate_more}
use Rattle.std.specs.Iterator.{HoldsAlong}

-- ---- two rows

-- the second of two
pub HasBytesAt-behind : (m : Memory) (at : ℕ) (xs ys : List ℕ) → HasBytesAt m at (xs ++ ys)
    → HasBytesAt m (at + length xs) ys
HasBytesAt-behind m at xs ys h = subst (HasBytesAt m (at + length xs)) (drop-append_seam xs ys)
    (HasBytesAt-drop m at (length xs) (xs ++ ys) (omega (arith, length-append xs ys)) h)

-- ---- elements of n bytes each

all-true : {X : Type 0} (xs : List X) → IsTrue (list_all (λ (x : X). true) xs)
all-true [] = refl
all-true (x ∷ xs) = all-true xs

module _ {X : Type 0} (f : X → List ℕ) {n : ℕ} (each : (x : X) → length (f x) ≡ n) where
  pub flat-length : (xs : List X) → length (flat_map f xs) ≡ n * length xs
  flat-length [] = omega arith
  flat-length (x ∷ xs) = omega (arith, length-append (f x) (flat_map f xs), each x, flat-length xs)

  -- the same bytes at an equal offset
  moved : (m : Memory) (at to : ℕ) (bytes : List ℕ) → at ≡ to → HasBytesAt m at bytes → HasBytesAt m to bytes
  moved m at to bytes e h = subst (λ a. HasBytesAt m a bytes) e h

  -- each element is at its place
  pub HasBytesAt-element : (m : Memory) (at : ℕ) (xs : List X) (i : ℕ) {x : X} → HasBytesAt m at (flat_map f xs)
      → slice_get xs i ≡ Some x → HasBytesAt m (at + n * i) (f x)
  HasBytesAt-element m at [] i h e = absurd (cc)
  HasBytesAt-element m at (y ∷ ys) zero {x} h e =
      let same : y ≡ x = cc in
      subst (λ z. HasBytesAt m (at + n * 0) (f z)) same
      (moved m at (at + n * 0) (f y) (omega arith) (Has-front m at (f y) (flat_map f ys) h))
  HasBytesAt-element m at (y ∷ ys) (suc i) {x} h e =
      let len = each y in
      moved m (at + length (f y) + n * i) (at + n * suc i) (f x) (omega arith)
      (HasBytesAt-element m (at + length (f y)) ys i (HasBytesAt-behind m at (f y) (flat_map f ys) h) e)

  -- one element is written at its place
  pub HasBytesAt-set : {m m' : Memory} (at : ℕ) (xs : List X) (i : ℕ) (x : X)
      → HasBytesAt m at (flat_map f xs) → i < length xs → SameBytesExcept m m' (at + n * i) n
      → HasBytesAt m' (at + n * i) (f x) → HasBytesAt m' at (flat_map f (slice_set xs i x))
  HasBytesAt-set {m} {m'} at xs i x h l s w =
      let within : n * suc i ≤ n * length xs = mul-le-mul_left n (omega arith) in
      let fits : n * i + length (f x) ≤ length (flat_map f xs) = omega (arith, within, each x, flat-length xs) in
      subst (HasBytesAt m' at) (flat-set n (λ (y : X). true) f (λ y e. each y) xs i x (all-true xs) l refl)
      (HasBytesAt-patched at (n * i) (flat_map f xs) (f x) fits
      (subst (SameBytesExcept m m' (at + n * i)) (sym (each x)) s) h w)

-- ---- the same bytes several times

-- this many repetitions have this many times the length
pub repeated-length : (n : ℕ) (bytes : List ℕ) → length (repeated n bytes) ≡ length bytes * n
repeated-length zero bytes = omega arith
repeated-length (suc n) bytes = omega (arith, length-append bytes (repeated n bytes), repeated-length n bytes)

-- they spell equal numbers
pub repeated-spelled : (k : ScalarKind) (n : ℕ) (z : ℤ) → repeated n (spelling k z) ≡ spelled k (replicate n z)
repeated-spelled k zero z = refl
repeated-spelled k (suc n) z = ap (λ bs. spelling k z ++ bs) (repeated-spelled k n z)

-- there is room for one more copy
pub room-once_more : {a b : WindowState} (h at len i n : ℕ) → i < n
    → IsTrue (has_room (live_of a.bytes) h (at + len * n))
    → ChangesBytes current a b (h + at) (len * i) → IsTrue (has_room (live_of b.bytes) h (at + len * i + len))
room-once_more {a} {b} h at len i n l room c =
    let fits : len * (i + 1) ≤ len * n = mul-le-mul_left len (omega arith) in
    changed-room current a b (h + at) (len * i) h (at + len * i + len) c
    (room-less (live_of a.bytes) h (at + len * n) (at + len * i + len) (omega arith) room)

-- the offset of the next is small
pub next-small : (a : WindowState) (h at len i n : ℕ) → IsHeap current a.bytes
    → IsTrue (has_room (live_of a.bytes) h (at + len * n)) → i < n → at + len * i ≤ 1073741824
next-small a h at len i n heap room l =
    let small = room-small a h (at + len * n) heap room in
    let fits : len * i ≤ len * n = mul-le-mul_left len (omega arith) in
    omega arith

-- the bytes were written i times, and then once more
pub record Repeats (a b : WindowState) (from i : ℕ) (bytes : List ℕ) : Type 0 where
  pub change : ChangesBytes current a b from (length bytes * i)
  pub content : HasBytesAt (bytes_of b.bytes) from (repeated i bytes)

-- one more copy is written
pub repeats-more : {a b c : WindowState} (h at : ℕ) {i : ℕ} {bytes : List ℕ} → Repeats a b (h + at) i bytes
    → ChangesBytes current b c (h + (at + length bytes * i)) (length bytes)
    → HasBytesAt (bytes_of c.bytes) (h + (at + length bytes * i)) bytes → Repeats a c (h + at) (i + 1) bytes
repeats-more {a} {b} {c} h at {i} {bytes} r s w =
    let n = length bytes in let long = repeated-length i bytes in
    let to : h + (at + n * i) ≡ h + at + n * i = omega arith in let sum : n * i + n ≡ n * (i + 1) = omega arith in
    let s' : ChangesBytes current b c (h + at + n * i) n = subst (λ from. ChangesBytes current b c from n) to s in
    let front = bytes-stay (h + at) (repeated i bytes) s' (omega arith) r.content in
    record {
      change = subst (λ k. ChangesBytes current a c (h + at) k) sum (changed-trans r.change s');
      content = subst (HasBytesAt (bytes_of c.bytes) (h + at)) (flat_map_more (λ (each : List ℕ). each) [] (replicate i
          bytes) bytes ∙ ap (flat_map (λ (each : List ℕ). each)) (replicate_more i bytes))
          (HasBytesAt-append (bytes_of c.bytes) (h + at)
          (repeated i bytes) bytes front (subst (λ p. HasBytesAt (bytes_of c.bytes) p bytes) (omega arith) w));
    }

-- Items taken from an iterator and written one after another.

-- ---- calls, and then one more

pub yields-more : {S A : Type 0} (steps : S → Option A → S → Type 0) (s t u : S) (xs : List A) (x : A)
    → Yields steps s xs t → steps t (Some x) u → Yields steps s (xs ++ x ∷ []) u
yields-more steps s t u [] x e f = (u, subst (λ r. steps r (Some x) u) (sym e) f, refl)
yields-more steps s t u (y ∷ ys) x h f = (h.0, h.1, yields-more steps h.0 t u ys x h.2 f)

-- a property of all possible items holds for the last one
pub last-holds : {S A : Type 0} (steps : S → Option A → S → Type 0) (P : A → Type 0) (s t u : S) (xs : List A) (x : A)
    → HoldsAlong steps s (AllByRecursion P) → Yields steps s xs t → steps t (Some x) u → P x
last-holds steps P s t u xs x all h f =
    (AllByRecursion-behind P xs (x ∷ []) (all (xs ++ x ∷ []) u (yields-more steps s t u xs x h f))).0

-- a test holds of one more
all-more : (t : ℤ → Bool) (zs : List ℤ) (z : ℤ) → IsTrue (list_all t zs) → IsTrue (t z)
    → IsTrue (list_all t (zs ++ z ∷ []))
all-more t [] z h e = and_from (t z) true e refl
all-more t (y ∷ ys) z h e = and_from (t y) (list_all t (ys ++ z ∷ [])) (first (t y) (list_all t ys) h)
    (all-more t ys z (second (t y) (list_all t ys) h) e)

-- ---- this many items were written

-- an object that is being filled: the items so far, and the bytes
pub record IsFilling {S A : Type 0} (gives : S → Option A → S → Type 0) (can : S → Type 0) (whole : A → ℤ)
    (old now : WindowState) (k : ScalarKind) (from i : ℕ) (before at : S) : Type 0 where
  pub items : List A
  pub ran : Yields gives before items at
  pub long : length items ≡ i
  pub callable : can at
  pub values : IsTrue (list_all (is_value k) (map whole items))
  pub change : ChangesBytes current old now from (size_of k * i)
  pub content : HasBytesAt (bytes_of now.bytes) from (spelled k (map whole items))

module _ (S : Type 0) {A : Type 0} {gives : S → Option A → S → Type 0} {can : S → Type 0} {whole : A
    → ℤ} {old : WindowState}
    {k : ScalarKind} {from : ℕ} {before : S} where
  -- and one more
  pub filling-more : {b c : WindowState} {i to : ℕ} {s t : S}
      → IsFilling gives can whole old b k from i before s → can t → to ≡ from + size_of k * i
      → WritesItem gives whole b c k to s t → IsFilling gives can whole old c k from (i + 1) before t
  filling-more {b} {c} {i} {to} {s} {t} f go at w =
      let zs = map whole f.items in let bytes = spelling k (whole w.item) in
      let more = map_push whole f.items w.item in let each = spelling-length k (whole w.item) in
      let all = spelled-length k zs ∙ ap (λ m. size_of k * m) (length-map f.items whole ∙ f.long) in
      let sum : size_of k * i + size_of k ≡ size_of k * (i + 1) = omega arith in
      let change' : ChangesBytes current b c (from + size_of k * i) (size_of k) =
      subst (λ p. ChangesBytes current b c p (size_of k)) at w.change in
      let front = bytes-stay from (spelled k zs) change' (omega arith) f.content in
      let place : to ≡ from + length (spelled k zs) = omega arith in
      record {
        items = f.items ++ w.item ∷ [];
        ran = yields-more gives before s t f.items w.item f.ran w.step;
        long = length-append f.items (w.item ∷ []) ∙ ap (λ m. m + 1) f.long;
        callable = go;
        values = subst (λ ys. IsTrue (list_all (is_value k) ys)) (sym more)
            (all-more (is_value k) zs (whole w.item) f.values w.value);
        change = subst (ChangesBytes current old c from) sum (changed-trans f.change change');
        content = subst (HasBytesAt (bytes_of c.bytes) from) (flat_map_more (spelling k) [] zs (whole w.item)
            ∙ ap (spelled k) (sym more)) (HasBytesAt-append (bytes_of c.bytes) from (spelled k zs) bytes front
            (subst (λ p. HasBytesAt (bytes_of c.bytes) p bytes) place w.content));
      }

-- a property of each item holds for the possible ones
pub always-holds : {S A : Type 0} (steps : S → Option A → S → Type 0) (P : A → Type 0) (s : S) → ((x : A) → P x)
    → HoldsAlong steps s (AllByRecursion P)
always-holds {S = S} {A = A} steps P s each xs t ran = every xs where
  every : (xs : List A) → AllByRecursion P xs
  every [] = tt
  every (x ∷ xs) = (each x, every xs)
