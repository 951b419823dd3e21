-- What the calls of seg_vector ensure of the vector at the place that was found, as the steps of the calls on the
-- object's vector.
use Rattle.segment_manager.proofs.Common as common
use Rattle.seg_types.specs.Commands as asked
use Rattle.std.specs.Option.{ok_or}
use Rattle.best_fit.specs.Heap.{KeepsGaps}
use Rattle.seg_vector.proofs.Laws.{same-extents}
use Rattle.seg_vector.specs.Vector.{capacity_for_more}
use Rattle.seg_vector.specs.VectorCalls.{CountsCapacity, ErasesFrom, ExtendsBy, Gets, InsertsInto, IsSomeVector}
use Rattle.seg_vector.specs.VectorCalls.{IsVector, Pops, Pushes, ReadsVectorLen, ReplacesVector, Sets, SetsAll}
use Rattle.segment_manager.proofs.{containers.ContentPlans.set-plan, directory.AnyDirectory.open-writing}
use Rattle.segment_manager.proofs.bound.ByKey.{Changed, container-bound, leaves-bound}
use Rattle.segment_manager.proofs.containers.ContentPlans.{assign-plan, erase-plan, insert-plan, pop-plan, push-plan}
use Rattle.segment_manager.proofs.containers.ItemSteps.{HoldsItems, ListedGrown, ListedNow, Listing, VectorExtended}
use Rattle.segment_manager.proofs.containers.ItemSteps.{changes-safely, contents-fit, extended-found, extended-room}
use Rattle.segment_manager.proofs.containers.ItemSteps.{found-items, grows-safely, items-denote, items-full}
use Rattle.segment_manager.proofs.containers.ItemSteps.{items-grown, items-now, items-refused, items-stay, items-steps}
use Rattle.segment_manager.proofs.containers.ItemSteps.{so-too, some-items, then_room, vector-only}
use Rattle.segment_manager.proofs.containers.RangeCalls.{RangeWritten, range-done, range-elements, range-moves}
use Rattle.segment_manager.proofs.containers.RangeCalls.{range-short, series-elements, whole-replaced}
use Rattle.segment_manager.proofs.containers.Safely.{answered, done-so, kept-gaps, of-error, performed, pick-outside}
use Rattle.segment_manager.proofs.containers.Safely.{pick-space, refuses-so, same-live}
use Rattle.segment_manager.proofs.containers.ToChange.{seen-found}
use Rattle.segment_manager.proofs.objects.Stored.{IsOfKind, literal-read, literals-read, numbers-listed, whole-insert}
use Rattle.segment_manager.proofs.objects.Stored.{whole-reached, whole-remove, whole-set, whole-spelled, whole-values}
use Rattle.segment_manager.specs.Keeping.{KeepsUnused}
use Rattle.segment_manager.specs.containers.Ranges.{extended, numbers_if, replaced, written}
use Rattle.segment_manager.specs.objects.BoundObjects.{IsBound, container_of, key_of}
use Rattle.segment_manager.specs.objects.ElementLists.{element_of, numbers_at, whole_of}
use common.{Answer, AnswersSafely, AnswersWith, Assigns, BackingArray, Bool, Command, Denotes, DenotesCurrent}
use common.{Directory, Done, Element, Elements, Err, GrowsVectorOk, IfErr, IsSegment, IsTrue, Key, LacksSpace, List}
use common.{Located, MatchResult, NoSpace, None, NotFound, Object, Ok, Option, OutOfRange, Place, Plan, Refusal}
use common.{Refused, RefusesIndex, Reply, Result, ScalarKind, SegmentState, Some, TakesStepOfKind, Value, Vector}
use common.{WindowState, [], answer_of, ap, arith, capacity_for_one, changed, container_at, current, done_answer}
use common.{effect, false, flat_map, get_or, grown_backing, inl, inr, insert, is_elementwise, is_good_value}
use common.{is_read_only, kind_of, le-ltb, length, length-map, list_all, literal_of, live, live_of, lt-ltb, map}
use common.{map-append, option_map, perform, pos, refl, remove, same_kind, size_of, sizes_at, sizes_of, slice_get}
use common.{slice_get-get_or, slice_get-map, slice_get_past, slice_set, subst, sym, take, take-map, true}
use common.{value_of_literal, with_capacity, ℕ, ℤ, ◌++◌, ◌+◌, ◌-◌, ◌<◌, ◌∙◌, ◌∷◌, ◌≡◌, ◌≤◌, ◌⊎◌}

module _ {T : Type 0} {k : ScalarKind} {w : T → ℤ} {size : ℕ} {test : T → Bool} {sp : T → List ℕ}
    (law : IsOfKind k w size test sp) where
  -- ---- vectors of the values

  pub typed-only : (v : Value) → same_kind (Vector k) (kind_of v) ≡ true → IsTrue (is_good_value v)
      → (xs : List T) × ((t : BackingArray) × (v ≡ Elements k (map w xs) t))
  typed-only v e h =
      let z : (zs : List ℤ) × ((t : BackingArray) × (v ≡ Elements k zs t)) = vector-only k v e in
      let good : IsTrue (is_good_value (Elements k z.0 z.1.0)) = subst (λ u. IsTrue (is_good_value u)) z.1.1 h in
      let r : (xs : List T) × (map w xs ≡ z.0) =
      whole-reached k w size test sp law z.0 (contents-fit (Elements k z.0 z.1.0) _ refl good).values in
      (r.0, (z.1.0, z.1.1 ∙ ap (λ (zs : List ℤ). Elements k zs z.1.0) (sym r.1)))

  abbrev pub typed : Listing T
  typed = record {
    kind = Vector k;
    each = size;
    spell = flat_map sp;
    good = list_all test;
    value = λ xs t. Elements k (map w xs) t;
    only = typed-only;
    of_kind = λ xs t. refl;
    held = λ xs t. λ i. Some (record {
      each = sym law.long i;
      len = length-map xs w i;
      table = t;
      bytes = sym (whole-spelled k w size test sp law xs) i;
    });
    values = λ xs t. sym (whole-values k w size test sp law xs);
  }

  now-so : {old new : WindowState} {p : Place} {t u : BackingArray} {ys : List T}
      → ReplacesVector size test sp old new p t ys u → ListedNow typed old new p t ys u
  now-so r = record { change = r.change; stands = r.vector.stands; values = r.vector.values }

  grown-so : {old new : WindowState} {p : Place} {t : BackingArray} {n : ℕ} {ys : List T}
      → GrowsVectorOk size test sp old new p t n ys → ListedGrown typed old new p t n ys
  grown-so r = record { table = r.table; grown = r.grown; now = now-so r.now }

  -- the place of a bound vector, as the view before the call and the vector name it
  module _ {s t : SegmentState} (view : s ≡ t) {o : Located} (bound : IsBound (Vector k) o t) {p : Place} (places : p
      ≡ container_of o) (b : IsSegment s.cut.bytes) where
    abbrev key : Key
    key = key_of o

    found : AnswersWith s (λ d. container_at d key (Vector k)) (Ok p)
    found = subst (λ (r : Place). AnswersWith s (λ d. container_at d key (Vector k)) (Ok r)) (sym places)
        (seen-found s t view key (Vector k) (container_of o) (container-bound bound))

    abbrev Holds : Directory → Type 0
    Holds d = HoldsItems typed s.cut.bytes d key p

    vector : (d : Directory) (h : Holds d) → IsVector size test sp s.cut.bytes p h.items h.table
    vector d h = record { stands = h.stands; values = h.values }

    some : Holds b.0
    some = some-items typed s key p b found

    -- there is a vector at the place
    pub some-vector : IsSomeVector size test sp s.cut.bytes p
    some-vector = (some.items, (some.table, vector b.0 some))

    -- an index within the length, and one past it, for the numbers
    within : (xs : List T) (i : ℕ) → i < length xs → slice_get (map w xs) i ≡ Some (get_or (map w xs) i (pos 0))
    within xs i h = slice_get-get_or (map w xs) i (pos 0) (subst (λ (n : ℕ). i < n) (sym (length-map xs w)) h)

    behind : (xs : List T) (i : ℕ) → length xs ≤ i → slice_get (map w xs) i ≡ None
    behind xs i h = slice_get_past (map w xs) i (subst (λ (n : ℕ). n ≤ i) (sym (length-map xs w)) h)

    -- ---- the gaps

    -- the gaps stay if the block of the storage does
    grown-gaps : {new : WindowState} {n : ℕ} {ys : List T} → GrowsVectorOk size test sp s.cut new p some.table n ys
        → live_of new.bytes ≡ live_of s.cut.bytes → KeepsGaps s.cut new
    grown-gaps g e = g.now.gaps (same-extents p.handle some.table.extent g.table.extent some.stands.heap
        some.stands.own g.now.change e)

    -- writing over elements leaves the gaps
    pub overwrite-gaps : {new : WindowState} (i : ℕ) (ys : List T) (r : Result (Unit {0}) Refusal)
        → SetsAll size test sp s.cut new p i ys r → KeepsGaps t.cut new
    overwrite-gaps i ys r a = kept-gaps view r (a some.items some.table (vector b.0 some)) (λ u m. m.1.gaps refl)
        (λ e m. m.same)

    -- popping an element leaves the gaps
    pop-gaps : {new : WindowState} (r : Result T Refusal) → Pops size test sp s.cut new p r → KeepsGaps t.cut new
    pop-gaps r a = kept-gaps view r (a some.items some.table (vector b.0 some)) (λ u m. m.1.gaps refl) (λ e m. m.same)

    -- pushing an element in place leaves the gaps
    push-gaps : {new : WindowState} (x : T) (r : Result (Unit {0}) Refusal) → Pushes size test sp s.cut new p x r
        → live_of new.bytes ≡ live_of t.cut.bytes → KeepsGaps t.cut new
    push-gaps {new} x r a e = kept-gaps view r (a some.items some.table (vector b.0 some))
        (λ u g. grown-gaps g (same-live view new e)) (λ e m. m.same)

    -- inserting an element in place leaves the gaps
    insert-gaps : {new : WindowState} (i : ℕ) (x : T) (r : Result (Unit {0}) Refusal)
        → InsertsInto size test sp s.cut new p i x r → live_of new.bytes ≡ live_of t.cut.bytes → KeepsGaps t.cut new
    insert-gaps {new} i x r a e = kept-gaps view r (a some.items some.table (vector b.0 some))
        (λ u g. grown-gaps g.1 (same-live view new e)) (λ e m. elim m [ inl o ↦ o.same | inr o ↦ o.1.same ])

    -- putting elements after the last in place leaves the gaps
    pub extend-gaps : {new : WindowState} (ys : List T) (r : Result (Unit {0}) Refusal)
        → ExtendsBy size test sp s.cut new p ys r → live_of new.bytes ≡ live_of t.cut.bytes → KeepsGaps t.cut new
    extend-gaps {new} ys r a e = kept-gaps view r (a some.items some.table (vector b.0 some))
        (λ u g. grown-gaps g (same-live view new e)) (λ e m. m.same)

    -- assigning elements in place leaves the gaps
    assign-gaps : {new : WindowState} (ys : List T) (r : Result (Unit {0}) Refusal)
        → Assigns size test sp s.cut new p ys r → live_of new.bytes ≡ live_of t.cut.bytes → KeepsGaps t.cut new
    assign-gaps {new} ys r a e = kept-gaps view r (a some.items some.table (vector b.0 some))
        (λ u g. grown-gaps g (same-live view new e)) (λ e m. m.same)

    -- ---- one value

    -- the vector's numbers are the directory's
    listed : {d : Directory} (h : Holds d) → numbers_at d key (Vector k) ≡ map w h.items
    listed {d} h = numbers-listed d key (Vector k) h.object h.is (Elements k (map w h.items) h.table) h.value refl

    -- an element that was read is the directory's
    pub vector-read : (i : ℕ) (r : Result T Refusal) → Gets size test sp s.cut p i r
        → AnswersWith t (λ d. element_of (numbers_at d key (Vector k)) i) (whole_of w r)
    vector-read i r a = subst (λ (u : SegmentState). AnswersWith u (λ d. element_of (numbers_at d key (Vector k)) i)
        (whole_of w r)) view (record {
          answers = λ d l.
              let h = found-items typed s key p b found d l in
              read-in h r (a h.items h.table (vector d h)) ∙ sym (ap (λ zs. element_of zs i) (listed h));
        })
      where
        read-in : {d : Directory} (h : Holds d) (r : Result T Refusal) → MatchResult r
            (λ x. slice_get h.items i ≡ Some x)
            (RefusesIndex s.cut s.cut (length h.items) i) → whole_of w r ≡ element_of (map w h.items) i
        read-in h (Ok x) m = sym (ap (λ q. ok_or q OutOfRange) (slice_get-map w h.items i ∙ ap (option_map w) m))
        read-in h (Err e) m = ap Err m.refusal ∙ sym (ap (λ q. ok_or q OutOfRange) (behind h.items i m.outside))

    -- the length of the vector is the directory's
    pub vector-counted : (n : ℕ) → ReadsVectorLen size test sp s.cut.bytes p n
        → AnswersWith t (λ d. length (numbers_at d key (Vector k))) n
    vector-counted n a = subst (λ (u : SegmentState). AnswersWith u (λ d. length (numbers_at d key (Vector k))) n) view
        (record {
          answers = λ d l.
              let h = found-items typed s key p b found d l in
              a h.items h.table (vector d h) ∙ sym (length-map h.items w) ∙ sym (ap length (listed h));
        })

    -- and so is its capacity
    pub vector-measured : (n c : ℕ) → ReadsVectorLen size test sp s.cut.bytes p n
        → CountsCapacity size test sp s.cut.bytes p c → AnswersWith t (λ d. sizes_at d key) (Ok (n, c))
    vector-measured n c a e = subst (λ (u : SegmentState). AnswersWith u (λ d. sizes_at d key) (Ok (n, c))) view
        (record {
          answers = λ d l.
              let h = found-items typed s key p b found d l in
              (λ i. Ok (
                (a h.items h.table (vector d h) ∙ sym (length-map h.items w)) i,
                e h.items h.table (vector d h) i,
              ))
              ∙ sym (ap (λ (r : Option Object). elim r as (λ _. Result (ℕ × ℕ) Refusal)
              [ None ↦ Err NotFound | Some o ↦ sizes_of o.value ]) h.is ∙ ap sizes_of h.value);
        })

    module _ (new : WindowState) (may : is_read_only t.mode ≡ false) where
      writing : is_read_only s.mode ≡ false
      writing = subst (λ (u : SegmentState). is_read_only u.mode ≡ false) (sym view) may

      -- a call, as that view has it
      seen : {R : Type 0} {says : Result R Refusal → Answer} (c : Key → Command) {reasons : Refusal → Type 0}
          {Gaps : Type 0} {r : Result R Refusal} → is_elementwise (c key) ≡ true → IfErr r reasons → Gaps
          → AnswersSafely says s new key (Vector k) (c key) r → Changed (Vector k) o s t new c says reasons Gaps r
      seen c e f g done =
          leaves-bound view bound may b new c e f g (answered s t view b new key (Vector k) (c key) _ done)

      -- appended values lack space
      pub extend-error : (ys : List T) (r : Result (Unit {0}) Refusal) → ExtendsBy size test sp s.cut new p ys r
          → IfErr r (λ why. why ≡ NoSpace)
      extend-error ys r a = of-error _ r (a some.items some.table (vector b.0 some)) (λ e m. m.refusal)

      as-literal : (x : T) → test x ≡ true → value_of_literal k (literal_of k (w x)) ≡ Ok (w x)
      as-literal x v = literal-read k (w x) (sym (law.values x) ∙ v)

      pub vector-set : (i : ℕ) (x : T) (r : Result (Unit {0}) Refusal) → test x ≡ true → Sets size test sp s.cut new p i
          x r → Changed (Vector k) o s t new (λ key. asked.Set key i (literal_of k (w x))) done_answer
          (λ why. why ≡ OutOfRange) (KeepsGaps t.cut new) r
      vector-set i x r v a = seen (λ key. asked.Set key i (literal_of k (w x))) refl (of-error _ r (a some.items
          some.table (vector b.0 some)) (λ e m. m.refusal))
          (kept-gaps view r (a some.items some.table (vector b.0 some)) (λ u m. m.1.gaps refl) (λ e m. m.same))
          (changes-safely typed s key p b found new writing (asked.Set key i (literal_of k
          (w x))) i (λ xs. slice_set xs i x) r (λ d h in_range. set-plan d key h.object k (map w h.items) h.table h.is
          h.value i (literal_of k (w x)) (w x) (Some (get_or (map w h.items) i (pos 0))) (as-literal x v)
          (within h.items i in_range) ∙ ap (λ zs. Reply Done (changed d h.object (Elements k zs h.table)))
          (sym (whole-set w h.items i x))) (λ d h past. set-plan d key h.object k (map w h.items) h.table h.is h.value i
          (literal_of k (w x)) (w x) None (as-literal x v) (behind h.items i past)) (λ d h. so-too _ _ _ r
          (a h.items h.table (vector d h)) (λ q. (q.0, now-so q.1))))

      pub vector-erased : (i : ℕ) (r : Result (Unit {0}) Refusal) → ErasesFrom size test sp s.cut new p i r
          → Changed (Vector k) o s t new (λ key. asked.Erase key i) done_answer (λ why. why ≡ OutOfRange)
          (KeepsGaps t.cut new) r
      vector-erased i r a = seen (λ key. asked.Erase key i) refl (of-error _ r (a some.items some.table (vector b.0
          some)) (λ e m. m.refusal)) (kept-gaps view r (a some.items
          some.table (vector b.0 some)) (λ u m. m.1.gaps refl) (λ e m. m.same))
          (changes-safely typed s key p b found new writing (asked.Erase key i) i (λ xs. remove xs i) r
          (λ d h in_range. erase-plan d key h.object k (map w h.items) h.table h.is h.value i
          (Some (get_or (map w h.items) i (pos 0))) (within h.items i in_range)
          ∙ ap (λ zs. Reply Done (changed d h.object (Elements k zs h.table))) (sym (whole-remove w h.items i)))
          (λ d h past. erase-plan d key h.object k (map w h.items) h.table h.is h.value i None (behind h.items i past))
          (λ d h. so-too _ _ _ r (a h.items h.table (vector d h)) (λ q. (q.0, now-so q.1))))

      -- ---- one more

      -- a plan for one more, in words of the values
      one-more : (d : Directory) (h : Holds d) (zs : List ℤ) (ys : List T) → map w ys ≡ zs → with_capacity (size_of k)
          (capacity_for_one (length (map w h.items)) h.table.capacity) h.table (λ u. Reply Done (changed d h.object
          (Elements k zs u))) ≡ with_capacity size (capacity_for_one (length h.items) h.table.capacity) h.table
          (λ u. Reply Done (changed d h.object (Elements k (map w ys) u)))
      one-more d h zs ys e = λ i. with_capacity (sym law.long i) (capacity_for_one (length-map h.items w i)
          h.table.capacity) h.table (λ u. Reply Done (changed d h.object (Elements k (sym e i) u)))

      pub vector-pushed : (x : T) (r : Result (Unit {0}) Refusal) → test x ≡ true → Pushes size test sp s.cut new p x r
          → Changed (Vector k) o s t new (λ key. asked.Push key (literal_of k (w x))) done_answer
          (λ why. why ≡ NoSpace) (KeepsUnused t (record s { cut = new })) r
      vector-pushed x r v a = seen (λ key. asked.Push key (literal_of k (w x))) refl (of-error _ r (a some.items
          some.table (vector b.0 some)) (λ e m. m.refusal))
          (push-gaps x r a) (grows-safely typed s key p b found new writing (asked.Push key (literal_of k (w x)))
          (λ xs t. capacity_for_one (length xs) t.capacity) (λ xs. xs ++ x ∷ []) r (λ d h. push-plan d key h.object k
          (map w h.items) h.table h.is h.value (literal_of k (w x)) (Ok (w x)) (as-literal x v)
          ∙ one-more d h (map w h.items ++ w x ∷ []) (h.items ++ x ∷ []) (map-append w h.items (x ∷ []))) (λ d h. so-too
          _ _ _ r (a h.items h.table (vector d h)) (λ q. grown-so q)))

      insert-so : (i : ℕ) (x : T) → test x ≡ true → (d : Directory) (h : Holds d) → i ≤ length h.items
          → effect d (asked.Insert key i (literal_of k (w x))) ≡ with_capacity size (capacity_for_one (length h.items)
          h.table.capacity) h.table (λ u. Reply Done (changed d h.object (Elements k (map w (insert h.items i x)) u)))
      insert-so i x v d h in_range = insert-plan d key h.object k (map w h.items) h.table h.is h.value i
          (literal_of k (w x)) (Ok (w x)) false (as-literal x v)
          (le-ltb (length (map w h.items)) i (subst (λ (n : ℕ). i ≤ n) (sym (length-map h.items w)) in_range))
          ∙ one-more d h (insert (map w h.items) i (w x)) (insert h.items i x) (whole-insert w h.items i x)

      pub vector-inserted : (i : ℕ) (x : T) (r : Result (Unit {0}) Refusal) → test x ≡ true → InsertsInto size test sp
          s.cut new p i x r → Changed (Vector k) o s t new (λ key. asked.Insert key i (literal_of k (w x))) done_answer
          (λ why. (why ≡ OutOfRange) ⊎ (why ≡ NoSpace)) (KeepsUnused t (record s { cut = new })) r
      vector-inserted i x (Ok u) v a = seen (λ key. asked.Insert key i (literal_of k (w x))) refl tt
          (insert-gaps i x (Ok u) a) (done-so (items-steps typed s key p b found new (asked.Insert key i
          (literal_of k (w x))) Done writing (λ d den h.
          let r = a h.items h.table (vector d h) in
          items-grown s.cut new den h (insert h.items i x) (capacity_for_one (length h.items) h.table.capacity)
          (asked.Insert key i (literal_of k (w x))) Done (insert-so i x v d h r.0) (grown-so r.1))))
      vector-inserted i x (Err e) v a = seen (λ key. asked.Insert key i (literal_of k (w x))) refl
          (elim (a some.items some.table (vector b.0 some)) as (λ _. (e ≡ OutOfRange) ⊎ (e ≡ NoSpace)) [
            | inl o ↦ inl
                o.refusal
            | inr o ↦ inr o.1.refusal
          ]) (insert-gaps i x (Err e) a) (elim (a some.items some.table (vector b.0
          some)) [
            | inl o ↦ items-refused typed s key p b found new writing _ e OutOfRange o.refusal o.same (λ d den h.
                let out : RefusesIndex s.cut new (length h.items + 1) i e =
                pick-outside e (λ w. w.1.refusal) o.refusal (a h.items h.table (vector d h)) in
                let past : length h.items < i = let f = out.outside in omega arith in
                ap (perform d (live d)) (insert-plan d key h.object k (map w h.items) h.table h.is h.value i
                (literal_of k (w x)) (Ok (w x)) true (as-literal x v) (lt-ltb (length (map w h.items)) i
                (subst (λ (n : ℕ). n < i) (sym (length-map h.items w)) past))))
            | inr o ↦ items-refused typed s key p b found new writing _ e NoSpace o.1.refusal o.1.same (λ d den h.
                let n : ℕ = capacity_for_one (length h.items) h.table.capacity in
                let q : (i ≤ length h.items) × LacksSpace s.cut new size n h.table e =
                pick-space e (λ w. w.refusal) o.1.refusal (a h.items h.table (vector d h)) in
                items-full typed s key p b found new writing (asked.Insert key i (literal_of k (w x))) n
                (insert h.items i x) d den h (insert-so i x v d h q.0) q.1.none)
          ])

      -- ---- one less

      -- the place of the last
      last-at : (d : Directory) (h : Holds d) → length (map w h.items) - 1 ≡ length h.items - 1
      last-at d h = ap (λ (n : ℕ). n - 1) (length-map h.items w)

      pub vector-popped : (r : Result T Refusal) → Pops size test sp s.cut new p r
          → Changed (Vector k) o s t new (λ key. asked.Pop key) (answer_of (λ x. Element k (w x)))
          (λ why. why ≡ OutOfRange) (KeepsGaps t.cut new) r
      vector-popped (Ok x) a = seen (λ key. asked.Pop key) refl tt (pop-gaps (Ok x) a) (record {
        step = items-steps typed s key p b found new (asked.Pop key) (Element k (w x)) writing (λ d den h.
            let r = a h.items h.table (vector d h) in
            items-now s.cut new den h (take (length h.items - 1) h.items) h.table (asked.Pop key) (Element k (w x))
            (pop-plan d key h.object k (map w h.items) h.table h.is h.value (Some (w x))
            (ap (λ (m : ℕ). slice_get (map w h.items) m) (last-at d h) ∙ slice_get-map w h.items (length h.items - 1)
            ∙ ap (option_map w) r.0) ∙ ap (λ zs. Reply (Element k (w x)) (changed d h.object (Elements k zs h.table)))
            (ap (λ (m : ℕ). take m (map w h.items)) (last-at d h)
            ∙ take-map w (length h.items - 1) h.items)) (now-so r.1));
        refused = tt;
      })
      vector-popped (Err e) a =
          let r = a some.items some.table (vector b.0 some) in
          let stay : TakesStepOfKind s s key (Vector k) (asked.Pop key) (Refused OutOfRange) =
          items-stay typed s key p b
          found (asked.Pop key) (Refused OutOfRange) (open-writing s.mode (asked.Pop key) writing) (λ d den h.
          let none : length h.items ≤ 0 = (a h.items h.table (vector d h)).outside in
          ap (perform d (live d)) (pop-plan d key h.object k (map w h.items) h.table h.is h.value None
          (ap (λ (m : ℕ). slice_get (map w h.items) m) (last-at d h)
          ∙ behind h.items (length h.items - 1) (omega arith)))) in
          seen (λ key. asked.Pop key) refl r.refusal (pop-gaps (Err e) a) (record {
            step = subst (λ (q : Refusal). TakesStepOfKind s (record s { cut = new }) key (Vector k) (asked.Pop key)
                (Refused q)) (sym r.refusal) (subst (λ (c : WindowState).
                TakesStepOfKind s (record s { cut = c }) key (Vector k)
                (asked.Pop key) (Refused OutOfRange)) (sym r.same) stay);
            refused = r.same;
          })

      -- ---- others in the place of all

      pub vector-assigned : (ys : List T) (r : Result (Unit {0}) Refusal) → IsTrue (list_all test ys)
          → Assigns size test sp s.cut new p ys r
          → Changed (Vector k) o s t new (λ key. asked.Assign key (map (literal_of k) (map w ys))) done_answer
          (λ why. why ≡ NoSpace) (KeepsUnused t (record s { cut = new })) r
      vector-assigned ys r v a = seen (λ key. asked.Assign key (map (literal_of k) (map w ys))) refl
          (of-error _ r (a some.items some.table (vector b.0 some)) (λ e m. m.refusal)) (assign-gaps ys r a)
          (grows-safely typed s key p b found new writing (asked.Assign key
          (map (literal_of k) (map w ys))) (λ xs t. length ys) (λ xs. ys) r (λ d h. assign-plan d key h.object k
          (map w h.items) h.table h.is h.value (map (literal_of k) (map w ys)) (map w ys) (literals-read k (map w ys)
          (sym (whole-values k w size test sp law ys) ∙ v)) ∙ (λ i. with_capacity (sym law.long i) (length-map ys w i)
          h.table (λ u. Reply Done (changed d h.object (Elements k (map w ys) u))))) (λ d h. so-too _ _ _ r
          (a h.items h.table (vector d h)) (λ q. grown-so q)))

      -- ---- elements replaced from an index on, or appended

      pub vector-overwritten : (first : ℕ) (ys : List T) (r : Result (Unit {0}) Refusal)
          → SetsAll size test sp s.cut new p first ys r → RangeWritten s t new key k first (map w ys) r
      vector-overwritten first ys (Ok u) a =
          performed s t view b new (λ mode d. written mode d key k first (map w ys))
          (a some.items some.table (vector b.0 some)).1.change.place (λ d l.
          let h = found-items typed s key p b found d l in
          let r = a h.items h.table (vector d h) in
          let inside = r.0 in
          range-moves s key k first (map w ys) new d
          (range-done s.mode d key k first (map w ys) writing h.object h.is (map w h.items)
          (ap (numbers_if k) h.value ∙ series-elements k (map w h.items) h.table)
          (omega (arith, inside, length-map ys w, length-map h.items w))) (subst (Denotes current new.bytes)
          (ap (λ zs. changed d h.object (Elements k zs h.table)) (whole-replaced w h.items first ys)
          ∙ sym (range-elements d key h.object k (map w h.items) h.table first (map w ys) h.is h.value))
          (items-denote s.cut new l.denotes h (replaced h.items first ys) h.table (now-so r.1))))
      vector-overwritten first ys (Err e) a =
          let out = a some.items some.table (vector b.0 some) in
          refuses-so s t view b new (λ mode d. written mode d key k first (map w ys)) OutOfRange e out.refusal
          out.same (λ d l.
          let h = found-items typed s key p b found d l in
          range-short s.mode d key k first (map w ys) writing h.object h.is (map w h.items)
          (ap (numbers_if k) h.value ∙ series-elements k (map w h.items) h.table)
          (let outside = (a h.items h.table (vector d h)).outside in
          omega (arith, outside, length-map ys w, length-map h.items w)))

      module _ (ys : List T) (d : Directory) (h : Holds d) where
        abbrev wanted_places : ℕ
        wanted_places = capacity_for_more (length (map w h.items)) (length (map w ys)) h.table.capacity

        abbrev behind_last : BackingArray → Plan
        behind_last u = Reply Done (changed d h.object (Elements k (map w h.items ++ map w ys) u))

        extends-to : (l : DenotesCurrent s.cut.bytes d) (r : Option BackingArray)
            → grown_backing (live_of s.cut.bytes) size
            (capacity_for_more (length h.items) (length ys) h.table.capacity) h.table ≡ r
            → extended s.mode d key k (map w ys) ≡ then_room d (live d) h.table behind_last r
        extends-to l r e = extended-found s.mode d key k (map w ys) writing h.object h.is (map w h.items) h.table
            h.value ∙ extended-room d l.denotes k wanted_places h.table behind_last r ((λ i. grown_backing (live_of
            s.cut.bytes) (sym law.long i) (capacity_for_more (length-map h.items w i) (length-map ys w i)
            h.table.capacity) h.table) ∙ e)

      pub vector-extended : (ys : List T) (r : Result (Unit {0}) Refusal) → ExtendsBy size test sp s.cut new p ys r
          → VectorExtended s t new key k (map w ys) r
      vector-extended ys (Ok u) a =
          performed s t view b new (λ mode d. extended mode d key k (map w ys))
          (a some.items some.table (vector b.0 some)).now.change.place (λ d l.
          let h = found-items typed s key p b found d l in
          let r = a h.items h.table (vector d h) in
          record {
            after = changed d h.object (Elements k (map w (h.items ++ ys)) r.table);
            is = extends-to ys d h l (Some r.table) r.grown
                ∙ ap (λ zs. (Done, changed d h.object (Elements k zs r.table))) (sym (map-append w h.items ys));
            stands = record {
              denotes = items-denote s.cut new l.denotes h (h.items ++ ys) r.table (now-so r.now);
            };
          })
      vector-extended ys (Err e) a =
          let out = a some.items some.table (vector b.0 some) in
          refuses-so s t view b new (λ mode d. extended mode d key k (map w ys)) NoSpace e out.refusal out.same (λ d l.
          let h = found-items typed s key p b found d l in
          extends-to ys d h l None (a h.items h.table (vector d h)).none)
