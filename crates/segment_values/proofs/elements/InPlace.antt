-- Elements that are read where they stand in the image.
use Rattle.std.proofs.Common.{◌≡◌, refl, sym, ap, subst, ◌∙◌, ℕ, zero, suc, ◌+◌, ◌*◌, ◌<◌, ◌≤◌, ℤ, Bool, true, false}
use Rattle.std.proofs.Common.{◌||◌, Option, Some, None, Ok, Err, List, [], ◌∷◌, ◌++◌, length, map}
use Rattle.std.proofs.Common.{IsTrue, arith, if◌then◌else◌, length-drop, length-take, nat_le, set, take, unwrap_or}
use Rattle.std.proofs.Math.Nat.{mul-le-mul_left}
use Rattle.std.proofs.lemmas.List.{map-append, take_all, take_more, take_more_set}
use Rattle.std.proofs.lemmas.{Bool.eqb-true, Bool.le-leb, Bool.lt-leb, Option.same_Some, Option.slice_get_within}
use Rattle.std.proofs.lemmas.{Option.unwrap_or-slice_get}
use Rattle.std.specs.Prelude.{◌-◌, MatchOption, drop, slice_get}
use Rattle.raw_region.specs.Memory.{part}
use Rattle.raw_region.proofs.{Laws.part-part, Laws.read-part, Facts.first}
use Rattle.block_tags.specs.Format.{is_legal_size}
use Rattle.best_fit.specs.Extents.{handle, is_proper, proper_from}
use Rattle.seg_types.specs.declared.kinds.{Kind.Kind, Kind.TheVariants.Scalar, Kind.TheVariants.Vector}
use Rattle.seg_types.specs.{declared.kinds.ScalarKind.ScalarKind, declared.refusals.Refusal.Refusal, Names.ByHandle}
use Rattle.seg_types.specs.Kinds.{code_of, is_spelling, is_value, kind_of_code, same_kind, size_of, spelling, value_of}
use Rattle.seg_types.specs.{Names.Key, declared.refusals.Refusal.TheVariants.OutOfRange}
use Rattle.seg_types.specs.declared.refusals.Refusal.TheVariants.{WrongKind}
use Rattle.seg_types.proofs.Laws.{all_spell_one}
use Rattle.seg_vector.proofs.storage.TypedVectors.{has-element}
use Rattle.segment_manager.specs.Directory.{Directory, Value, Numbers, Elements, live, padded}
use Rattle.segment_manager.specs.containers.ElementRuns.{IsRunOf, run_at, run_in}
use Rattle.segment_manager.specs.State.{AnswersWith, IsSegment, SegmentState, DenotesCurrent}
use Rattle.segment_manager.specs.{declared.containers.element_runs.ElementRun.ElementRun, Layout.head_len}
use Rattle.segment_manager.specs.{declared.objects.object_ref.Object.Object as Located, objects.ElementLists.numbers_in}
use Rattle.segment_manager.specs.objects.Located.{IsLocated}
use Rattle.segment_manager.proofs.ElementLaws.{AVector, AnArray, IsSliceOfKind, series-element, run-kind}
use Rattle.segment_manager.proofs.Laws.{code-read}
use Rattle.segment_values.specs.Ranges.{AreSpelled, is_slice, range_at, range_in}
use Rattle.segment_values.proofs.{LaidElements.here, LaidElements.kind-here}

-- ---- kinds

-- two kinds that are one as a test are one
pub one-kind : (a b : Kind) → same_kind a b ≡ true → a ≡ b
one-kind a b e = same_Some a b (sym (code-read a) ∙ ap kind_of_code (eqb-true (code_of a) (code_of b) e) ∙ code-read b)

-- ---- parts of slices

-- a slice of the image is a part of it
pub slice-part : {b image : List ℕ} {from f len n : ℕ} → image ≡ b → from ≡ f → len ≡ n
    → take (from + len - from) (drop from image) ≡ part b f n
slice-part {b} {image} {from} {f} {len} {n} p q r =
    ap (λ m. take m (drop from image)) (let e : from + len - from ≡ len = omega arith in e)
    ∙ (λ i. part (p i) (q i) (r i))

-- a slice of the elements is an element
pub slice-element : (bytes : List ℕ) {each size : ℕ} (i : ℕ) → each ≡ size
    → take (each * (i + 1) - each * i) (drop (each * i) bytes) ≡ part bytes (size * i) size
slice-element bytes {each} {size} i e =
    ap (λ m. take m (drop (each * i) bytes)) (let f : each * (i + 1) - each * i ≡ each = one-more each i in f)
    ∙ (λ j. part bytes (e j * i) (e j))
  where
    one-more : (each i : ℕ) → each * (i + 1) - each * i ≡ each
    one-more each i = let step : each * (i + 1) ≡ each * i + each = omega arith in omega (arith, step)

-- ---- values that are read of them, one after another

-- a call reads the number of a kind that bytes encode, or nothing if they encode none
abbrev IsRead : {A : Type 0} → (A → ℤ) → ScalarKind → List ℕ → ℕ → Option A → Type 0
IsRead whole k from number r = MatchOption r (is_spelling k from ≡ false) (λ x. (is_spelling k from ≡ true)
    × (whole x ≡ value_of k number))

-- it reads the value that they encode
value-read : {A : Type 0} (whole : A → ℤ) (k : ScalarKind) (from : List ℕ) (number : ℕ) (r : Option A) (other : A)
    → IsRead whole k from number r → (z : ℤ) → is_value k z ≡ true → from ≡ spelling k z → value_of k number ≡ z
    → whole (unwrap_or r other) ≡ z
value-read whole k from number (Some x) other m z v e is = m.1 ∙ is
value-read whole k from number None other m z v e is =
    let both : false ≡ true = sym m ∙ ap (is_spelling k) e ∙ (all_spell_one k z v).is_one in absurd (cc)

-- the first i of n are read
abbrev pub AreReadOf : {A : Type 0} → (A → ℤ) → ScalarKind → List ℕ → ℕ → List A → ℕ → Type 0
AreReadOf whole k bytes n series i = (zs : List ℤ) → AreSpelled k n zs bytes → map whole (take i series) ≡ take i zs

next-taken : (xs : List ℤ) (i : ℕ) (x : ℤ) → slice_get xs i ≡ Some x → take (i + 1) xs ≡ take i xs ++ x ∷ []
next-taken xs i x e = take_more xs i x (slice_get_within xs i x e)
    ∙ ap (λ y. take i xs ++ y ∷ []) (sym (unwrap_or-slice_get xs i x) ∙ ap (λ r. unwrap_or r x) e)

module _ {A : Type 0} (whole : A → ℤ) (k : ScalarKind) (bytes : List ℕ) (n : ℕ) (series : List A) (i : ℕ)
    (many : length series ≡ n) (before : AreReadOf whole k bytes n series i) where
  -- the next element is read
  pub reads-value : i < n → (r : Option A) (other : A) (from : List ℕ) (number : ℕ) → IsRead whole k from number r
      → ((z : ℤ) → is_value k z ≡ true → from ≡ spelling k z → value_of k number ≡ z)
      → from ≡ part bytes (size_of k * i) (size_of k) → {x : A} → x ≡ unwrap_or r other
      → AreReadOf whole k bytes n (set series i x) (i + 1)
  reads-value within r other from number read says e {x} is = λ zs a.
      let one = has-element zs i (omega (arith, within, a.len)) in let its = a.each i one.0 one.1 in
      let spelled = e ∙ its.1 in
      let same = ap whole is
      ∙ value-read whole k from number r other read one.0 its.0 spelled (says one.0 its.0 spelled) in
      ap (map whole) (take_more_set series i x (omega (arith, within, many)))
      ∙ map-append whole (take i series) (x ∷ [])
      ∙ ap (λ ys. ys ++ whole x ∷ []) (before zs a) ∙ sym (next-taken zs i (whole x) (one.1 ∙ ap Some (sym same)))

  -- all are
  pub reads-all : n ≤ i → (zs : List ℤ) → AreSpelled k n zs bytes → map whole series ≡ zs
  reads-all last zs a = ap (map whole) (sym (take_all i series (omega (arith, many, last)))) ∙ before zs a
      ∙ take_all i zs (omega (arith, a.len, last))

-- ---- the object

-- an element of a run lies in the image
pub element-inside : (s : SegmentState) (key : Key) (run : ElementRun) (i : ℕ) → IsRunOf s key run → i < run.count
    → run.offset + size_of run.kind * i + size_of run.kind ≤ length s.cut.bytes
element-inside s key run i lies within =
    let all : size_of run.kind * (i + 1) ≤ size_of run.kind * run.count = mul-le-mul_left (size_of run.kind) (omega
    (arith, within))
    in let inside = lies.inside in omega (arith, all, inside)

-- a segment is not too long
segment-short : (b : List ℕ) → IsSegment b → length b ≤ 1073741824
unfolding is_proper
segment-short b (d, st) =
    let legal : IsTrue (is_legal_size (live d).size) =
    first (is_legal_size (live d).size) (proper_from 128 (live d).extents ((live d).size - 16))
    st.denotes.directory.proper in
    let small = legal-most (live d).size legal in let size = st.denotes.heap.size in omega (arith, small, size)
  where
    legal-most : (n : ℕ) → IsTrue (is_legal_size n) → n ≤ 1073741824
    legal-most n l = grind arith

-- an element of a range is an element of the list
taken : (n : ℕ) (xs : List ℤ) (i : ℕ) {z : ℤ} → slice_get (take n xs) i ≡ Some z → (i < n) × (slice_get xs i ≡ Some z)
taken zero xs i e = absurd (cc)
taken (suc n) [] i e = absurd (cc)
taken (suc n) (x ∷ xs) zero e = (omega arith, e)
taken (suc n) (x ∷ xs) (suc i) e = let f = taken n xs i e in let less = f.0 in (omega (arith, less), f.1)

dropped : (n : ℕ) (xs : List ℤ) (i : ℕ) → slice_get (drop n xs) i ≡ slice_get xs (n + i)
dropped zero xs i = ap (slice_get xs) (let e : i ≡ 0 + i = omega arith in e)
dropped (suc n) [] i = refl
dropped (suc n) (x ∷ xs) i =
    dropped n xs i ∙ ap (slice_get (x ∷ xs)) (let e : suc (n + i) ≡ suc n + i = omega arith in e)

run-if : {k : ScalarKind} {why : Refusal} (at : ℕ) (v : Value) → IsSliceOfKind k v → Err why ≡ run_in at v → ⊥
run-if at (Numbers j zs) (AnArray e) f = cc
run-if at (Elements j zs t) (AVector e) f = cc
run-if at v (AnArray e) f = absurd (cc)
run-if at v (AVector e) f = absurd (cc)

module _ (s : SegmentState) (o : Located) (l : IsLocated s (ByHandle o.handle) o) (k : ScalarKind) (first n : ℕ) where
  abbrev list : (d : Directory) → DenotesCurrent s.cut.bytes d → List ℤ
  list d st = numbers_in (here s o l d st).object.value

  -- the range of an object is read, or the object has another kind
  told-here : (d : Directory) (st : DenotesCurrent s.cut.bytes d) (b : Bool) → is_slice k o.kind ≡ b
      → range_at d (ByHandle o.handle) k first n ≡ range_in (if b then Ok (list d st) else Err WrongKind) first n
  told-here d st b series = rw ((here s o l d st).is, ← kind-here s o l d st, series)

  -- an object of another kind has no row
  pub no-reads : is_slice k o.kind ≡ false
      → AnswersWith s (λ d. range_at d (ByHandle o.handle) k first n) (Err WrongKind)
  no-reads series = record { answers = λ d st. sym (told-here d st false series) }

  module _ (series : is_slice k o.kind ≡ true) where
    of-kind : (d : Directory) (st : DenotesCurrent s.cut.bytes d) → IsSliceOfKind k (here s o l d st).object.value
    of-kind d st = cases-if (same_kind (Vector k) o.kind) refl series
      where
        cases-if : (b : Bool) → same_kind (Vector k) o.kind ≡ b → (b || same_kind (Scalar k) o.kind) ≡ true
            → IsSliceOfKind k (here s o l d st).object.value
        cases-if true f r = AVector (sym (one-kind (Vector k) o.kind f ∙ kind-here s o l d st))
        cases-if false f r = AnArray (sym (one-kind (Scalar k) o.kind r ∙ kind-here s o l d st))

    told-if : (d : Directory) (st : DenotesCurrent s.cut.bytes d) (b : Bool)
        → nat_le (first + n) (length (list d st)) ≡ b
        → (if b then Ok (take n (drop first (list d st))) else Err OutOfRange)
        ≡ range_at d (ByHandle o.handle) k first n
    told-if d st b e = ap (λ b. if b then Ok (take n (drop first (list d st))) else Err OutOfRange) (sym e)
        ∙ sym (told-here d st true series)

    -- the object has a run
    pub has-run : (why : Refusal) → AnswersWith s (λ d. run_at d (ByHandle o.handle)) (Err why) → (d : Directory)
        → DenotesCurrent s.cut.bytes d → ⊥
    has-run why a d st =
        let p = here s o l d st in let e = rw (p.is, run_at) at (a.answers d st) in
        run-if (handle p.object.extent + head_len + padded (length p.object.name)) p.object.value (of-kind d st) e

    module _ (run : ElementRun) (place : AnswersWith s (λ d. run_at d (ByHandle o.handle)) (Ok run))
        (bytes : IsRunOf s (ByHandle o.handle) run) where
      -- the run has the kind, and the number of elements
      run-said : (d : Directory) (st : DenotesCurrent s.cut.bytes d)
          → (run.kind ≡ k) × (run.count ≡ length (list d st))
      run-said d st =
          let p = here s o l d st in run-kind s (ByHandle o.handle) run k place d st p.object p.is (of-kind d st)

      -- a range that the object does not have is refused
      pub range-refused : run.count < first + n
          → AnswersWith s (λ d. range_at d (ByHandle o.handle) k first n) (Err OutOfRange)
      range-refused short = record {
        answers = λ d st. let many = (run-said d st).1 in
            told-if d st false (lt-leb (first + n) (length (list d st)) (omega (arith, short, many)));
      }

      module _ (fits : first + n ≤ run.count) where
        inside : (d : Directory) → DenotesCurrent s.cut.bytes d
            → run.offset + size_of k * first + size_of k * n ≤ length s.cut.bytes
        inside d st =
            let all : size_of k * (first + n) ≤ size_of k * run.count = mul-le-mul_left (size_of k) fits in
            let lies = subst (λ j. run.offset + size_of j * run.count ≤ length s.cut.bytes) (run-said d st).0
            bytes.inside in omega (arith, all, lies)

        -- the bytes of this many elements from an index on lie in the image, so a call that finds them adds up no more
        pub range-small : IsSegment s.cut.bytes → (size : ℕ) → size ≡ size_of k
            → (size * first ≤ 1073741824) × (run.offset + size * first ≤ 1073741824) × (size * n ≤ 1073741824)
            × (run.offset + size * first + size * n ≤ length s.cut.bytes)
        range-small g size same =
            let within = inside g.0 g.1 in let short = segment-short s.cut.bytes g in
            rw same (omega (arith, within, short), omega (arith, within, short), omega (arith, within, short), within)

        -- they encode these elements
        spelled : {from : List ℕ} → from ≡ part s.cut.bytes (run.offset + size_of k * first) (size_of k * n)
            → (d : Directory) (st : DenotesCurrent s.cut.bytes d)
            → AreSpelled k n (take n (drop first (list d st))) from
        spelled {from} e d st = record {
          len = let many = (run-said d st).1 in
              omega (arith, fits, many, length-take n (drop first (list d st)), length-drop first (list d st));
          each = λ i z f.
              let p = here s o l d st in let g = taken n (drop first (list d st)) i f in
              let one = series-element s (ByHandle o.handle) run k bytes d st p.object p.is (of-kind d st) (first + i)
              (sym (dropped first (list d st) i) ∙ g.1) in
              let size = size_of k in let at = run.offset + size * first in
              let there : size * (i + 1) ≤ size * n = mul-le-mul_left size (let less = g.0 in omega (arith, less)) in
              let same : at + size * i ≡ run.offset + size * (first + i) = omega arith in
              let all = inside d st in (
                one.value,
                ap (λ bs. part bs (size * i) size) e
                    ∙ part-part s.cut.bytes at (size * n) (size * i) size (omega (arith, there))
                    ∙ ap (λ x. part s.cut.bytes x size) same
                    ∙ sym (read-part s.cut.bytes (run.offset + size * (first + i)) size
                    (omega (arith, there, all, same)))
                    ∙ one.spelled_there,
              );
        }

        -- so a range that is read from them is read
        pub range-read : (from : List ℕ) → from ≡ part s.cut.bytes (run.offset + size_of k * first) (size_of k * n)
            → (zs : List ℤ) → ((ws : List ℤ) → AreSpelled k n ws from → zs ≡ ws)
            → AnswersWith s (λ d. range_at d (ByHandle o.handle) k first n) (Ok zs)
        range-read from e zs reads = record {
          answers = λ d st. let many = (run-said d st).1 in
              ap Ok (reads (take n (drop first (list d st))) (spelled e d st))
              ∙ told-if d st true (le-leb (first + n) (length (list d st)) (omega (arith, fits, many)));
        }
