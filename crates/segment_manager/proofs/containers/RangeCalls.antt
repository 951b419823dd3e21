-- Elements of arrays and vectors that one call writes: the result in each directory.
use Rattle.segment_manager.proofs.Common as common
use Rattle.best_fit.{proofs.Laws.gaps-payload, specs.Heap.KeepsGaps}
use Rattle.raw_region.proofs.Bytes.{HasBytesAt-patched}
use Rattle.seg_map.specs.Changing.{FreesAllPairs}
use Rattle.seg_vector.proofs.storage.TypedVectors.{all-both, flat-replaced}
use Rattle.seg_vector.specs.TextsCalls.{ReleasesTexts}
use Rattle.seg_vector.specs.{Containers.IsStanding, Elements.FreesStorage, Elements.FreesStorageOk}
use Rattle.segment_manager.proofs.blocks.Blocks.{spelled-length, spelling-length}
use Rattle.segment_manager.proofs.containers.ElementRuns.{HoldsElements, holds-elements, nothing-left}
use Rattle.segment_manager.proofs.containers.Emptied.{IsEmptied, changed-itself, emptied-is, emptied-numbers}
use Rattle.segment_manager.proofs.containers.ItemSteps.{Shape, contents-shape, good-with, placed, start-place}
use Rattle.segment_manager.proofs.containers.ItemSteps.{told-some, value-said}
use Rattle.segment_manager.proofs.containers.{MapCalls.HoldsPairs, MapCalls.holds-pairs, MapSteps.HoldsTexts}
use Rattle.segment_manager.proofs.containers.{MapSteps.holds-texts, Safely.Performed, Safely.performed}
use Rattle.segment_manager.proofs.directory.AnyDirectory.{IsMove, by_moves, by_same, denotes-heap, moves-same}
use Rattle.segment_manager.proofs.directory.AnyDirectory.{stays-refl}
use Rattle.segment_manager.proofs.objects.Exchanged.{Exchange, between, denotes-container, denotes-rewritten}
use Rattle.segment_manager.proofs.objects.RankedPairs.{all-found, each-true, found-handle, key-found}
use Rattle.segment_manager.proofs.objects.Stored.{ElementAt, IsOfKind, element-found, numbers-good, numbers-object}
use Rattle.segment_manager.proofs.objects.Stored.{whole-spelled, whole-values}
use Rattle.segment_manager.proofs.objects.{Destroys.standing, KindCodes.code-read, KindCodes.numbers-only}
use Rattle.segment_manager.proofs.objects.{Locating.said-at, Locating.same-object, Rewritten.value_start}
use Rattle.segment_manager.proofs.objects.{Rewritten.with_value, Standings.standing-room}
use Rattle.segment_manager.proofs.{directory.Frame.object-roomy, directory.LiveSet.IsIn, objects.Destroys.IsReadAt}
use Rattle.segment_manager.specs.containers.Ranges.{ChangesRange, WritesRange, numbers_if, range_in, replaced}
use Rattle.segment_manager.specs.containers.Ranges.{with_range, written, written_if}
use Rattle.segment_manager.specs.containers.{Maps.ReleasesPairs, Stored.each_of}
use Rattle.segment_manager.specs.objects.Standing.{offset_in, place_at}
use Rattle.segment_manager.specs.objects.{ElementLists.numbers_in, Located.located, Located.value_offset}
use Rattle.std.proofs.lemmas.List.{drop-map, length-drop, length-take, nil_from_length, take-append-drop}
use Rattle.std.{proofs.lemmas.Bool.leb-false, proofs.lemmas.List.Folds.list_all-append, specs.Prelude.IfOk}
use common.{Answer, BackingArray, Becomes, Bool, ByHandle, ChangesBytes, Denotes, DenotesCurrent, Directory, Done}
use common.{Elements, Empties, Err, ExchangesBlocks, Extent, HasBytesAt, HasObject, HasPairs, Head, HoldsObject}
use common.{IsHeadOf, IsLocated, IsObjectInBlock, IsSegment, IsTextsContainer, IsTrue, IsValueAt, Key, Kind, List}
use common.{Located, Map, Mode, None, NotFound, Numbers, Object, Ok, Option, OutOfRange, Pairs, Place, ReadOnly}
use common.{Refusal, Refused, ReplacesTexts, Result, SameBytesExcept, Scalar, ScalarKind, SegmentState, Some}
use common.{StringsKind, Texts, Value, Vector, WindowState, WrongKind, [], and_parts, ap, append-nil, arith, bytes_of}
use common.{changed, code_of, container_at, container_place, count_of, current, drop, emptied, eq-eqb, false, flat_map}
use common.{handle, has_key, has_room, has_storage, head_len, if◌then◌else◌, is_object, is_read_only, is_value, kind_of}
use common.{kind_of_code, le-leb, leb-true, length, length-append, length-map, list_all, live_of, lt-leb, map}
use common.{map-append, mul-le-mul_left, nat_le, ne_eqb, no_backing, numbers_of, object_at, padded}
use common.{place_at as place_from, refl, same_Some, same_kind, size_of, spelled, spelling, subst, sym, take, take-map}
use common.{true, value_extents, value_len, with_items, ℕ, ℤ, ◌*◌, ◌++◌, ◌+◌, ◌<◌, ◌||◌, ◌∙◌, ◌≡◌, ◌≤◌}

-- ---- a list with others in the places from one on

-- overwriting elements keeps the length
pub replaced-length : {T : Type 0} (xs : List T) (i : ℕ) (ys : List T) → i + length ys ≤ length xs
    → length (replaced xs i ys) ≡ length xs
replaced-length xs i ys h = omega (
  arith,
  h,
  length-append (take i xs) (ys ++ drop (i + length ys) xs),
  length-append ys (drop (i + length ys) xs),
  length-take i xs,
  length-drop (i + length ys) xs,
)

all-parts : {T : Type 0} (test : T → Bool) (n : ℕ) (xs : List T) → IsTrue (list_all test xs)
    → IsTrue (list_all test (take n xs)) × IsTrue (list_all test (drop n xs))
all-parts test n xs v = and_parts (list_all test (take n xs)) (list_all test (drop n xs))
    (sym (list_all-append test (take n xs) (drop n xs)) ∙ ap (list_all test) (take-append-drop n xs) ∙ v)

-- overwriting elements overwrites their numbers
pub whole-replaced : {T : Type 0} (w : T → ℤ) (xs : List T) (i : ℕ) (ys : List T)
    → map w (replaced xs i ys) ≡ replaced (map w xs) i (map w ys)
whole-replaced w xs i ys =
    let many = length-map ys w in
    map-append w (take i xs) (ys ++ drop (i + length ys) xs)
    ∙ ap (λ zs. map w (take i xs) ++ zs) (map-append w ys (drop (i + length ys) xs))
    ∙ (λ j. sym (take-map w i xs) j ++ (map w ys ++ sym (drop-map w (i + length ys) xs) j))
    ∙ ap (λ n. take i (map w xs) ++ (map w ys ++ drop (i + n) (map w xs))) (sym many)

-- ---- the result

-- the numbers of an object that has a row of the kind, or its error
abbrev pub slice_in : ScalarKind → Option Object → Result (List ℤ) Refusal
slice_in k r =
    elim r as (λ _. Result (List ℤ) Refusal) [ None ↦ Err NotFound | Some o ↦ numbers_if k o.value ]

-- the directory with a range of an object written
abbrev pub range_with : Directory → ℕ → List ℤ → Option Object → Directory
range_with d first zs r = elim r as (λ _. Directory) [
  | None ↦ d
  | Some o ↦ changed d o (with_items o.value (replaced (numbers_in o.value) first zs))
]

module _ (mode : Mode) (d : Directory) (key : Key) (k : ScalarKind) (first : ℕ) (zs : List ℤ) where
  open-for : is_read_only mode ≡ false → (q : Result (List ℤ) Refusal) → slice_in k (object_at d key) ≡ q
      → written mode d key k first zs ≡ written_if (range_in q first (length zs)) d (with_range d key first zs)
  open-for e q f = λ i.
      if e i then (Refused ReadOnly, d)
      else written_if (range_in (f i) first (length zs)) d (with_range d key first zs)

  pub range-other : is_read_only mode ≡ false → (o : Object) → object_at d key ≡ Some o
      → numbers_if k o.value ≡ Err WrongKind → written mode d key k first zs ≡ (Refused WrongKind, d)
  range-other e o f g = open-for e (Err WrongKind) (ap (slice_in k) f ∙ g)

  module _ (e : is_read_only mode ≡ false) (o : Object) (f : object_at d key ≡ Some o) (ns : List ℤ)
      (g : numbers_if k o.value ≡ Ok ns) where
    range-if : (b : Bool) → nat_le (first + length zs) (length ns) ≡ b → written mode d key k first zs
        ≡ written_if (if b then Ok (take (length zs) (drop first ns)) else Err OutOfRange) d (with_range d key first zs)
    range-if b h = open-for e (Ok ns) (ap (slice_in k) f ∙ g)
        ∙ ap (λ c. written_if (if c then Ok (take (length zs) (drop first ns)) else Err OutOfRange) d
        (with_range d key first zs)) h

    -- writing a range after the end is refused
    pub range-short : length ns < first + length zs → written mode d key k first zs ≡ (Refused OutOfRange, d)
    range-short h = range-if false (lt-leb (first + length zs) (length ns) h)

    -- writing a range within the elements is done
    pub range-done : first + length zs ≤ length ns → written mode d key k first zs ≡ (Done, with_range d key first zs)
    range-done h = range-if true (le-leb (first + length zs) (length ns) h)

-- the directory in which they are others, of an array and of a vector
pub range-numbers : (d : Directory) (key : Key) (o : Object) (k : ScalarKind) (ns : List ℤ) (first : ℕ) (zs : List ℤ)
    → object_at d key ≡ Some o → o.value ≡ Numbers k ns
    → with_range d key first zs ≡ changed d o (Numbers k (replaced ns first zs))
range-numbers d key o k ns first zs is value = ap (range_with d first zs) is
    ∙ ap (λ v. changed d o (with_items v (replaced (numbers_in v) first zs))) value

-- the object with a range written
pub range-elements : (d : Directory) (key : Key) (o : Object) (k : ScalarKind) (ns : List ℤ) (t : BackingArray)
    (first : ℕ) (zs : List ℤ) → object_at d key ≡ Some o
    → o.value ≡ Elements k ns t → with_range d key first zs ≡ changed d o (Elements k (replaced ns first zs) t)
range-elements d key o k ns t first zs is value = ap (range_with d first zs) is
    ∙ ap (λ v. changed d o (with_items v (replaced (numbers_in v) first zs))) value

-- ---- the segment

-- the effect of the call
abbrev pub RangeWritten : SegmentState → SegmentState → WindowState → Key → ScalarKind → ℕ → List ℤ
    → Result (Unit {0}) Refusal → Type 0
RangeWritten s t new key k first zs r = Performed s t new (λ mode d. written mode d key k first zs) r

module _ (s : SegmentState) (key : Key) (k : ScalarKind) (first : ℕ) (zs : List ℤ) where
  -- nothing changes
  pub range-stays : (why : Refusal) → ((d : Directory) → DenotesCurrent s.cut.bytes d
      → written s.mode d key k first zs ≡ (Refused why, d)) → WritesRange s s key k first zs (Refused why)
  range-stays why each = by_same (λ d. written s.mode d key k first zs) each

  -- the elements are others
  pub range-moves : (new : WindowState) (d : Directory) → written s.mode d key k first zs
      ≡ (Done, with_range d key first zs) → Denotes current new.bytes (with_range d key first zs)
      → IsMove (record s { cut = new }) Done (written s.mode d key k first zs)
  range-moves new d is leads =
      record { after = with_range d key first zs; is = is; stands = record { denotes = leads } }

-- under a key as under the handle of its object
pub range-by_key : (s t : SegmentState) (key : Key) (o : Located) → IsLocated s key o → (k : ScalarKind) (first : ℕ)
    (zs : List ℤ) (answer : Answer) → WritesRange s t (ByHandle o.handle) k first zs answer
    → WritesRange s t key k first zs answer
range-by_key s t key o l k first zs answer m =
    let same : (d : Directory) → DenotesCurrent s.cut.bytes d
    → written s.mode d (ByHandle o.handle) k first zs ≡ written s.mode d key k first zs = λ d st.
    ap (λ (r : Option Object). if is_read_only s.mode then (Refused ReadOnly, d)
    else written_if (range_in (slice_in k r) first (length zs)) d (range_with d first zs r))
    (sym (same-object s key o l d st)) in
    moves-same s t answer (λ d. written s.mode d (ByHandle o.handle) k first zs)
    (λ d. written s.mode d key k first zs) same m

-- ---- kinds

-- kinds that differ have other codes
pub no-same : (a b : Kind) → (a ≡ b → ⊥) → same_kind a b ≡ false
no-same a b n = ne_eqb (code_of a) (code_of b)
    (λ e. n (same_Some a b (sym (code-read a) ∙ ap kind_of_code e ∙ code-read b)))

-- a vector of another kind has no such row, nor has an object that is no array of the kind
pub series-none : (k : ScalarKind) (v : Value) → same_kind (Vector k) (kind_of v) ≡ false
    → same_kind (Scalar k) (kind_of v) ≡ false → numbers_if k v ≡ Err WrongKind
series-none k v e f = λ i. if e i || f i then Ok (numbers_in v) else Err WrongKind

-- the numbers of a vector are its elements
pub series-elements : (k : ScalarKind) (ns : List ℤ) (t : BackingArray) → numbers_if k (Elements k ns t) ≡ Ok ns
series-elements k ns t = ap (λ b. if b || same_kind (Scalar k) (Vector k) then Ok ns else Err WrongKind)
    (eq-eqb (code_of (Vector k)) (code_of (Vector k)) refl)

or-true : (b : Bool) → (b || true) ≡ true
or-true true = refl
or-true false = refl

-- ---- an array

module _ (old new : WindowState) (d : Directory) (key : Key) (o : Object) (k : ScalarKind) (ns : List ℤ) (first : ℕ)
    (zs : List ℤ) (den : Denotes current old.bytes d) (is : object_at d key ≡ Some o) (value : o.value ≡ Numbers k ns)
    (fits : first + length zs ≤ length ns) (good : IsTrue (list_all (is_value k) zs)) where
  -- the offset of the elements to write
  abbrev spot : ℕ
  spot = value_start o + size_of k * first

  -- the bytes denote the directory with the new elements
  pub array-denotes : ChangesBytes current old new spot (size_of k * length zs)
      → HasBytesAt (bytes_of new.bytes) spot (spelled k zs)
      → Denotes current new.bytes (changed d o (Numbers k (replaced ns first zs)))
  array-denotes c w =
      let s : IsObjectInBlock old.bytes (handle o.extent) o = standing old.bytes d key o den is in
      let f = key-found current d key o den.directory is in
      let roomy = object-roomy current o s.good in
      let room = roomy.room in let long : value_len o.value ≡ size_of k * length ns = ap value_len value in
      let many : length (spelled k zs) ≡ size_of k * length zs = spelled-length k zs in
      let all : length (spelled k ns) ≡ size_of k * length ns = spelled-length k ns in
      let step : size_of k * (first + length zs) ≡ size_of k * first + size_of k * length zs = omega arith in
      let inside = mul-le-mul_left (size_of k) fits in
      let new_good = numbers-object o k ns (replaced ns first zs) s.good value (replaced-length ns first zs fits)
      (all-both (is_value k) (take first ns) (zs ++ drop (first + length zs) ns) (all-parts (is_value k) first ns
      (numbers-good o k ns s.good value)).0 (all-both (is_value k) zs (drop (first + length zs) ns) good (all-parts
      (is_value k) (first + length zs) ns (numbers-good o k ns s.good value)).1)) in
      let was : HasBytesAt (bytes_of old.bytes) (value_start o) (spelled k ns) =
      subst (λ v. IsValueAt (bytes_of old.bytes) (value_start o) v) value s.said.value in
      let rest = subst (λ n. SameBytesExcept (bytes_of old.bytes) (bytes_of new.bytes) spot n) (sym many) c.rest in
      let at : IsValueAt (bytes_of new.bytes) (value_start o) (Numbers k (replaced ns first zs)) =
      subst (HasBytesAt (bytes_of new.bytes) (value_start o)) (flat-replaced (size_of k) (is_value k) (spelling k)
      (λ z v. spelling-length k z) ns first zs (numbers-good o k ns s.good value) good)
      (HasBytesAt-patched (value_start o) (size_of k * first) (spelled k ns) (spelled k zs)
      (omega (arith, many, all, step, inside)) rest was w) in
      denotes-rewritten o (Numbers k (replaced ns first zs)) den f (ap kind_of (sym value))
      (replaced-length ns first zs fits ∙ ap count_of (sym value)) (ap value_extents (sym value)) new_good
      (omega arith) (omega (arith, room, long, step, inside)) c at

-- ---- an array that was located

-- a located array has these numbers
pub record HasNumbers (d : Directory) (o : Located) (k : ScalarKind) : Type 0 where
  pub object : Object
  pub is : object_at d (ByHandle o.handle) ≡ Some object
  pub said : o ≡ located object
  pub numbers : List ℤ
  pub value : object.value ≡ Numbers k numbers

module _ (s : SegmentState) (o : Located) (l : IsLocated s (ByHandle o.handle) o) (k : ScalarKind) (first : ℕ)
    (zs : List ℤ) where
  -- the object is neither an array nor a vector of the kind
  pub other-kind : is_read_only s.mode ≡ false → (o.kind ≡ Vector k → ⊥) → (o.kind ≡ Scalar k → ⊥)
      → WritesRange s s (ByHandle o.handle) k first zs (Refused WrongKind)
  other-kind writing vector array = range-stays s (ByHandle o.handle) k first zs WrongKind (λ d st.
      let p = said-at s (ByHandle o.handle) o l d st in
      let kind : o.kind ≡ kind_of p.object.value = ap (λ (q : Located). q.kind) p.said in
      range-other s.mode d (ByHandle o.handle) k first zs writing p.object p.is (series-none k p.object.value
      (no-same (Vector k) (kind_of p.object.value) (λ e. vector (kind ∙ sym e)))
      (no-same (Scalar k) (kind_of p.object.value) (λ e. array (kind ∙ sym e)))))

  module _ (is : o.kind ≡ Scalar k) where
    -- the numbers of the array
    pub numbers-of : (d : Directory) → DenotesCurrent s.cut.bytes d → HasNumbers d o k
    numbers-of d st =
        let p = said-at s (ByHandle o.handle) o l d st in
        let kind : o.kind ≡ kind_of p.object.value = ap (λ (q : Located). q.kind) p.said in
        let n = numbers-only k p.object.value
        (eq-eqb (code_of (Scalar k)) (code_of (kind_of p.object.value)) (ap code_of (sym is ∙ kind))) in
        record { object = p.object; is = p.is; said = p.said; numbers = n.0; value = n.1 }

    -- as many as the head counts
    pub many : {d : Directory} (h : HasNumbers d o k) → o.count ≡ length h.numbers
    many h = ap (λ (q : Located). q.count) h.said ∙ ap count_of h.value

    series-of : {d : Directory} (h : HasNumbers d o k) → numbers_if k h.object.value ≡ Ok h.numbers
    series-of h = ap (numbers_if k) h.value ∙ (ap (λ b. if same_kind (Vector k) (Scalar k) || b then Ok h.numbers else
        Err WrongKind) (eq-eqb (code_of (Scalar k)) (code_of (Scalar k)) refl) ∙ ap (λ b. if b then Ok h.numbers else
        Err WrongKind) (or-true (same_kind (Vector k) (Scalar k))))

    -- there are too few elements
    pub array-short : is_read_only s.mode ≡ false → nat_le (first + length zs) o.count ≡ false
        → WritesRange s s (ByHandle o.handle) k first zs (Refused OutOfRange)
    array-short writing f = range-stays s (ByHandle o.handle) k first zs OutOfRange (λ d st.
        let h = numbers-of d st in
        range-short s.mode d (ByHandle o.handle) k first zs writing h.object h.is h.numbers (series-of h)
        (let l = leb-false (first + length zs) o.count f in omega (arith, l, many h)))

    -- the offset of the elements
    abbrev pub slice_spot : ℕ
    slice_spot = o.handle + (value_offset o + size_of k * first)

    module _ (t : SegmentState) (view : s ≡ t) (b : IsSegment s.cut.bytes) (new : WindowState)
        (writing : is_read_only t.mode ≡ false)
        (fits : nat_le (first + length zs) o.count ≡ true) (good : IsTrue (list_all (is_value k) zs))
        (c : ChangesBytes current s.cut new slice_spot (size_of k * length zs))
        (w : HasBytesAt (bytes_of new.bytes) slice_spot (spelled k zs)) where
      inside : {d : Directory} (h : HasNumbers d o k) → first + length zs ≤ length h.numbers
      inside h = let l = leb-true (first + length zs) o.count fits in omega (arith, l, many h)

      same-spot : {d : Directory} (h : HasNumbers d o k) → slice_spot ≡ value_start h.object + size_of k * first
      same-spot h = ap (λ (q : Located). q.handle + (value_offset q + size_of k * first)) h.said
          ∙ (let e : handle h.object.extent + (head_len + padded (length h.object.name) + size_of k * first)
          ≡ value_start h.object + size_of k * first = omega arith in e)

      -- they are written
      pub array-written : RangeWritten s t new (ByHandle o.handle) k first zs (Ok tt)
      array-written = performed s t view b new (λ mode d. written mode d (ByHandle o.handle) k first zs) c.place
          (λ d st.
          let h = numbers-of d st in
          range-moves s (ByHandle o.handle) k first zs new d (range-done s.mode d (ByHandle o.handle) k first zs
          (subst (λ (u : SegmentState). is_read_only u.mode ≡ false) (sym view) writing) h.object h.is h.numbers
          (series-of h) (inside h)) (subst (Denotes current new.bytes)
          (sym (range-numbers d (ByHandle o.handle) h.object k h.numbers first zs h.is h.value))
          (array-denotes s.cut new d (ByHandle o.handle) h.object k h.numbers first zs st.denotes h.is h.value
          (inside h) good (subst (λ at. ChangesBytes current s.cut new at (size_of k * length zs)) (same-spot h) c)
          (subst (λ at. HasBytesAt (bytes_of new.bytes) at (spelled k zs)) (same-spot h) w))))

-- ---- no other byte of an array

abbrev But : SegmentState → SegmentState → ℕ → Result Place Refusal → Type 0
But old new n r = IfOk r (λ (p : Place).
    SameBytesExcept (bytes_of old.cut.bytes) (bytes_of new.cut.bytes) (p.handle + p.at) n)

module _ (s t : SegmentState) (o : Located) (l : IsLocated s (ByHandle o.handle) o) (k : ScalarKind) (first n : ℕ) where
  but-if : (d : Directory) → DenotesCurrent s.cut.bytes d → ((p : Place) → ElementAt s.cut.bytes d (ByHandle o.handle) k
      first p → SameBytesExcept (bytes_of s.cut.bytes) (bytes_of t.cut.bytes) (p.handle + p.at) (size_of k * n))
      → (r : Result Place Refusal) → place_at d (ByHandle o.handle) k first ≡ r → But s t (size_of k * n) r
  but-if d st each (Ok p) e = each p (element-found st.denotes (sym e))
  but-if d st each (Err why) e = tt

  pub array-but : SameBytesExcept (bytes_of s.cut.bytes) (bytes_of t.cut.bytes)
      (o.handle + (value_offset o + size_of k * first)) (size_of k * n) → ChangesRange s t (ByHandle o.handle) k first n
  array-but but d st = but-if d st (λ p x.
      let q = said-at s (ByHandle o.handle) o l d st in
      let same : o ≡ located x.object = q.said ∙ ap located (same_Some q.object x.object (sym q.is ∙ x.is)) in
      subst (λ at. SameBytesExcept (bytes_of s.cut.bytes) (bytes_of t.cut.bytes) at (size_of k * n))
      (ap (λ (q : Located). q.handle + (value_offset q + size_of k * first)) same
      ∙ (λ j. sym x.stands.at j + sym x.at j)) but) (place_at d (ByHandle o.handle) k first) refl

-- the place of an element of an object
abbrev pub index_at : Option Object → ScalarKind → ℕ → Result Place Refusal
index_at r k i = elim r as (λ _. Result Place Refusal) [
  | None ↦ Err NotFound
  | Some o ↦ elim (offset_in o k i) as (λ _. Result Place Refusal)
      [ Ok at ↦ Ok (record { handle = handle o.extent; at = at }) | Err r ↦ Err r ]
]

-- ---- the calls

-- whether a range is within the elements, as it is tested
pub series-test : {T : Type 0} (w : T → ℤ) (xs : List T) (first : ℕ) {count n : ℕ} {r b : Bool} → n ≡ count
    → r ≡ nat_le (first + length xs) n → r ≡ b → nat_le (first + length (map w xs)) count ≡ b
series-test w xs first e f g = (λ i. nat_le (first + length-map xs w i) (sym e i)) ∙ sym f ∙ g

-- there was nothing to write
pub array-empty : (s : SegmentState) (o : Located) → IsLocated s (ByHandle o.handle) o → (k : ScalarKind) (first : ℕ)
    (zs : List ℤ) → o.kind ≡ Scalar k → is_read_only s.mode ≡ false → nat_le (first + length zs) o.count ≡ true
    → length zs ≡ 0 → WritesRange s s (ByHandle o.handle) k first zs Done
array-empty s o l k first zs is writing fits none =
    let nothing : zs ≡ [] = nil_from_length zs none in
    by_moves stays-refl (λ d st.
    let h = numbers-of s o l k first zs is d st in
    let f = leb-true (first + length zs) o.count fits in
    let inside : first + length zs ≤ length h.numbers = omega (arith, f, many s o l k first zs is h) in
    range-moves s (ByHandle o.handle) k first zs s.cut d
    (range-done s.mode d (ByHandle o.handle) k first zs writing h.object h.is h.numbers
    (series-of s o l k first zs is h) inside) (subst (Denotes current s.cut.bytes)
    (sym (range-numbers d (ByHandle o.handle) h.object k h.numbers first zs h.is h.value))
    (array-denotes s.cut s.cut d (ByHandle o.handle) h.object k h.numbers first zs st.denotes h.is h.value inside
    (subst (λ ys. IsTrue (list_all (is_value k) ys)) (sym nothing) refl) (record {
      place = record { before = refl; after = refl };
      live = denotes-heap current s.cut.bytes d st.denotes;
      rest = record { at = λ j out. refl };
    }) (subst (λ ys. HasBytesAt (bytes_of s.cut.bytes) (value_start h.object + size_of k * first) (spelled k ys))
    (sym nothing) refl))))

-- its block has the room
pub array-room : (s : SegmentState) (b : IsSegment s.cut.bytes) (o : Located) → IsLocated s (ByHandle o.handle) o
    → (k : ScalarKind) (first : ℕ) (zs : List ℤ) → o.kind ≡ Scalar k → nat_le (first + length zs) o.count ≡ true
    → {at n : ℕ} → at ≡ value_offset o + size_of k * first → n ≡ size_of k * length zs
    → IsTrue (has_room (live_of s.cut.bytes) o.handle (at + n))
array-room s b o loc k first zs is fits {at} {n} e g =
    let h = numbers-of s o loc k first zs is b.0 b.1 in
    let stands = standing s.cut.bytes b.0 (ByHandle o.handle) h.object b.1.denotes h.is in
    let own : o.handle ≡ handle h.object.extent = ap (λ (q : Located). q.handle) h.said in
    let at_is : at ≡ head_len + padded (length h.object.name) + size_of k * first =
    e ∙ ap (λ (q : Located). value_offset q + size_of k * first) h.said in
    let long : value_len h.object.value ≡ size_of k * length h.numbers = ap value_len h.value in
    let few = leb-true (first + length zs) o.count fits in let all = many s o loc k first zs is h in
    let inside = mul-le-mul_left (size_of k) (let j : first + length zs ≤ length h.numbers = omega arith in j) in
    let step : size_of k * (first + length zs) ≡ size_of k * first + size_of k * length zs = omega arith in
    subst (λ m. IsTrue (has_room (live_of s.cut.bytes) m (at + n))) (sym own)
    (standing-room s.cut.bytes (handle h.object.extent) (at + n) h.object stands
    (omega (arith, at_is, long, inside, step, g)))

-- memory has the encodings of a type's values at the elements' place
module _ {T : Type 0} {k : ScalarKind} {w : T → ℤ} {size : ℕ} {test : T → Bool} {sp : T → List ℕ}
    (law : IsOfKind k w size test sp) (s t : SegmentState) (view : s ≡ t) (b : IsSegment s.cut.bytes) (o : Located)
    (l : IsLocated t (ByHandle o.handle) o) (first : ℕ) (values : List T) (is : o.kind ≡ Scalar k)
    (writing : is_read_only t.mode ≡ false) (fits : nat_le (first + length (map w values)) o.count ≡ true)
    {at : ℕ} (at_is : at ≡ value_offset o + size_of k * first) (good : IsTrue (list_all test values))
    (new : WindowState) (c : ChangesBytes current s.cut new (o.handle + at) (size * length values)) where
  abbrev wholes : List ℤ
  wholes = map w values

  spot-is : o.handle + at ≡ o.handle + (value_offset o + size_of k * first)
  spot-is = λ i. o.handle + at_is i

  long-is : size * length values ≡ size_of k * length wholes
  long-is = λ i. law.long i * sym (length-map values w) i

  change : ChangesBytes current s.cut new (o.handle + (value_offset o + size_of k * first)) (size_of k * length wholes)
  change = subst (λ m. ChangesBytes current s.cut new m (size_of k * length wholes)) spot-is
      (subst (λ n. ChangesBytes current s.cut new (o.handle + at) n) long-is c)

  -- a range that was spelled in the image is the directory's
  pub array-spelled : HasBytesAt (bytes_of new.bytes) (o.handle + at) (flat_map sp values)
      → RangeWritten s t new (ByHandle o.handle) k first wholes (Ok tt)
  array-spelled h =
      array-written s o (subst (λ (u : SegmentState). IsLocated u (ByHandle o.handle) o) (sym view) l) k first
      wholes is t view b new writing fits (sym (whole-values k w size test sp law values) ∙ good) change
      (subst (λ m. HasBytesAt (bytes_of new.bytes) m (spelled k wholes)) spot-is
      (subst (HasBytesAt (bytes_of new.bytes) (o.handle + at))
      (whole-spelled k w size test sp law values) h))

  -- no other byte changes
  pub array-framed : ChangesRange t (record s { cut = new }) (ByHandle o.handle) k first (length values)
  array-framed = array-but t (record s { cut = new }) o l k first (length values)
      (subst (λ (u : SegmentState). SameBytesExcept (bytes_of u.cut.bytes) (bytes_of new.bytes)
      (o.handle + (value_offset o + size_of k * first)) (size_of k * length values)) view
      (subst (λ n. SameBytesExcept (bytes_of s.cut.bytes) (bytes_of new.bytes)
      (o.handle + (value_offset o + size_of k * first)) (size_of k * n)) (length-map values w) change.rest))

  -- no byte of a gap changes
  pub array-gaps : KeepsGaps t.cut new
  array-gaps =
      let room = array-room s b o (subst (λ (u : SegmentState). IsLocated u (ByHandle o.handle) o) (sym view) l) k first
      wholes is fits at_is long-is in
      subst (λ (u : SegmentState). KeepsGaps u.cut new) view
      (gaps-payload s.cut new o.handle (at + size * length values) (o.handle + at) (size * length values) c room
      (omega arith) (omega arith))

-- What becomes of an object whose contents are released, for each kind of value.

-- ---- the object of a handle

pub held-stands : (b : List ℕ) (h : ℕ) (d : Directory) (o : Object)
    → DenotesCurrent b d → object_at d (ByHandle h) ≡ Some o → IsObjectInBlock b h o
held-stands b h d o k e = subst (λ g. IsObjectInBlock b g o) (sym (found-handle h d.objects o (record { is = e })))
    (standing b d (ByHandle h) o k.denotes e)

-- the object of the handle exists
pub held-object : (b : List ℕ) (h : ℕ) → HoldsObject b h → HasObject b h
held-object b h x = (x.object, held-stands b h x.directory x.object x.stands x.is)

-- the place of the object's container, by its head
abbrev pub place_behind : ℕ → ℕ → Place
place_behind h at = record { handle = h; at = at }

pub behind-head : (b : List ℕ) (h at : ℕ) (o : Object) (head : Head) → IsObjectInBlock b h o → IsHeadOf o head
    → at ≡ head_len + padded head.name_len → container_place o ≡ place_behind h at
behind-head b h at o head s said e =
    let there : at ≡ head_len + padded (length o.name) = e ∙ ap (λ (n : ℕ). head_len + padded n) said.name_len in
    λ i. record { handle = sym s.at i; at = sym there i }

-- ---- the head

-- the value after the head has elements of one length, or is a vector of texts, or a map
module _ {b : List ℕ} {h at : ℕ} {head : Head} (said : IsReadAt b h head)
    (behind : at ≡ head_len + padded head.name_len) {d : Directory} {o : Object} (s : DenotesCurrent b d)
    (e : object_at d (ByHandle h) ≡ Some o) where
  read-place : (kind : Kind) → head.kind ≡ kind → Ok (place_behind h at) ≡ container_at d (ByHandle h) kind
  read-place kind is =
      let there : IsObjectInBlock b h o = held-stands b h d o s e in
      (ap Ok (sym (behind-head b h at o head there (said o there) behind)) ∙ sym (told-some d (ByHandle h) kind placed
      o true e (eq-eqb (code_of kind) (code_of (kind_of o.value)) (ap code_of (sym (sym (said o there).kind
      ∙ is))))))

  read-elements : has_storage head.kind ≡ true → (head.kind ≡ StringsKind → ⊥)
      → HoldsElements b d (ByHandle h) head.kind (place_behind h at)
  read-elements stored no_texts = holds-elements b d (ByHandle h) head.kind (place_behind h at) s.denotes
      (read-place head.kind refl) stored no_texts

  read-texts : head.kind ≡ StringsKind → HoldsTexts b d (ByHandle h) (place_behind h at)
  read-texts is = holds-texts b d (ByHandle h) (place_behind h at) s.denotes (read-place StringsKind is)

  read-pairs : (k l : ScalarKind) → head.kind ≡ Map k l → HoldsPairs b d (ByHandle h) k l (place_behind h at)
  read-pairs k l is = holds-pairs b d (ByHandle h) k l (place_behind h at) s.denotes (read-place (Map k l) is)

module _ (b : List ℕ) (h at : ℕ) (head : Head) (x : HoldsObject b h) (said : IsReadAt b h head)
    (behind : at ≡ head_len + padded head.name_len) where
  -- the contents of an object are elements
  pub some-elements : has_storage head.kind ≡ true → (head.kind ≡ StringsKind → ⊥)
      → IsStanding b (place_behind h at) (each_of head.kind)
  some-elements stored no_texts =
      let e = read-elements said behind x.stands x.is stored no_texts in (e.len, (e.table, (e.bytes, e.stands)))

  -- the contents of an object are strings
  pub some-texts : head.kind ≡ StringsKind → IsTextsContainer b (place_behind h at)
  some-texts is = let t = read-texts said behind x.stands x.is is in (t.texts, (t.table, t.stand))

  -- the contents of an object are pairs
  pub some-pairs : (k l : ScalarKind) → head.kind ≡ Map k l → HasPairs k l b (place_behind h at)
  some-pairs k l is = let m = read-pairs said behind x.stands x.is k l is in (m.pairs, m.map)

-- ---- the effect on the object

-- numbers have no block to free
pub number-contents : (old : WindowState) (h : ℕ) (head : Head) → IsReadAt old.bytes h head → (k : ScalarKind)
    → head.kind ≡ Scalar k → Empties old old h
number-contents old h head said k is d o s e =
    let kind : kind_of o.value ≡ Scalar k = sym (said o (held-stands old.bytes h d o s e)).kind ∙ is in
    let f : IsIn d o = key-found current d (ByHandle h) o s.denotes.directory e in
    record {
      place = record { before = refl; after = refl };
      denotes = subst (Denotes current old.bytes)
          (sym (changed-itself d o f (emptied o.value) (emptied-numbers k o.value kind))) s.denotes;
    }

-- All blocks of a container's value are freed, none is allocated, and its 24 bytes are an empty container: the facts
-- about a call that releases a kind of value.
container-released : (old new : WindowState) (d : Directory) (key : Key) (o : Object) (p : Place) (v : Value)
    → Denotes current old.bytes d → object_at d key ≡ Some o → o.value ≡ v → container_place o ≡ p
    → value_len v ≡ 24 → ExchangesBlocks current old new (place_from p) 24 (value_extents v) []
    → IsValueAt (bytes_of new.bytes) (place_from p) (emptied v) → Becomes old new (changed d o (emptied o.value))
container-released old new d key o p v k e is at len change said =
    let start : place_from p ≡ value_start o = sym (ap place_from at) ∙ sym (start-place o) in
    let f : IsIn d o = key-found current d key o k.directory e in let empty : IsEmptied o.value = emptied-is o.value in
    let was : IsTrue (is_object current o) =
    all-found (λ p. IsTrue (is_object current p)) (has_key (ByHandle (handle o.extent))) d.objects o
    (each-true (is_object current) d.objects k.directory.objects) f.is in
    let good : IsTrue (is_object current (with_value o (emptied o.value))) =
    good-with current o (emptied o.value) was empty.kind empty.len (empty.good (object-roomy current o was).value) in
    let gone : List Extent = value_extents o.value in
    let x : Exchange o (with_value o (emptied o.value)) gone [] =
    between o (with_value o (emptied o.value)) [] gone [] [] (sym (append-nil gone)) empty.alone in
    record {
      place = change.place;
      denotes = denotes-container current old new d o (emptied o.value) gone [] k f x empty.kind empty.count
          (ap value_len is ∙ len) was good (subst (λ from. ExchangesBlocks current old new from 24 gone []) start
          (subst (λ w. ExchangesBlocks current old new (place_from p) 24 (value_extents w) []) (sym is) change))
          (subst (λ from. IsValueAt (bytes_of new.bytes) from (emptied o.value)) start
          (subst (λ w. IsValueAt (bytes_of new.bytes) (place_from p) (emptied w)) (sym is) said));
    }

-- the same for elements of one length, for a vector of texts, and for a map
module _ (old new : WindowState) (h at : ℕ) (head : Head) (said : IsReadAt old.bytes h head)
    (behind : at ≡ head_len + padded head.name_len) where
  -- releasing the elements empties the object
  pub elements-contents : has_storage head.kind ≡ true → (head.kind ≡ StringsKind → ⊥)
      → FreesStorage old new (place_behind h at) (each_of head.kind) → Empties old new h
  elements-contents stored no_texts released d o s e =
      let x = read-elements said behind s e stored no_texts in let p : Object = x.found.object in
      let same : p ≡ o = same_Some p o (sym x.found.is ∙ e) in
      let now : FreesStorageOk old new (place_behind h at) (each_of head.kind) x.table =
      released x.len x.table x.bytes x.stands in
      let shape : Shape p.value _ = contents-shape p.value _ x.held in
      subst (λ p. Becomes old new (changed d p (emptied p.value))) same (container-released old new d (ByHandle h) p
      (place_behind h at) p.value s.denotes x.found.is refl x.found.at shape.len (subst (λ (gone : List Extent).
      ExchangesBlocks current old new (place_from (place_behind h at)) 24 gone []) (sym shape.extents) now.change)
      (value-said (bytes_of new.bytes) (place_from (place_behind h at)) (emptied p.value) _ (nothing-left p.value _
      x.held) now.stands.words))

  -- releasing the strings empties the object
  pub texts-contents : head.kind ≡ StringsKind → ReleasesTexts old new (place_behind h at) → Empties old new h
  texts-contents is released d o s e =
      let x = read-texts said behind s e is in let same : x.object ≡ o = same_Some x.object o (sym x.is ∙ e) in
      let now : ReplacesTexts old new (place_behind h at) (value_extents (Texts x.texts x.table)) [] [] no_backing =
      released x.texts x.table x.stand in
      subst (λ p. Becomes old new (changed d p (emptied p.value))) same
      (container-released old new d (ByHandle h) x.object (place_behind h at)
      (Texts x.texts x.table) s.denotes x.is x.value x.at refl now.change now.texts.words)

  -- releasing the pairs empties the object
  pub pairs-contents : (k l : ScalarKind) → head.kind ≡ Map k l → ReleasesPairs k l old new (place_behind h at)
      → Empties old new h
  pairs-contents k l is released d o s e =
      let x = read-pairs said behind s e k l is in let same : x.object ≡ o = same_Some x.object o (sym x.is ∙ e) in
      let now : FreesAllPairs (numbers_of k) (numbers_of l) old new h at x.pairs = released.each x.pairs x.map in
      subst (λ p. Becomes old new (changed d p (emptied p.value))) same
      (container-released old new d (ByHandle h) x.object (place_behind h at)
      (Pairs k l x.pairs) s.denotes x.is x.known.value x.at refl now.change now.empty.map)

-- ---- the kinds that are left

-- no numbers, and no map
pub has_storage-left : (kind : Kind) → ((k : ScalarKind) → kind ≡ Scalar k → ⊥)
    → ((k v : ScalarKind) → kind ≡ Map k v → ⊥) → has_storage kind ≡ true
has_storage-left (Scalar k) n m = absurd (n k refl)
has_storage-left (Map k v) n m = absurd (m k v refl)
has_storage-left kind n m = refl
