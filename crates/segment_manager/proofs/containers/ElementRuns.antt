-- The place of an object's elements: the result of reading its head and its container's words is its run.
use Rattle.segment_manager.proofs.Common as common
use Rattle.seg_types.specs.Commands as asked
use Rattle.best_fit.{proofs.Laws.block_aligned, proofs.Laws.room-less, specs.Table.table_link}
use Rattle.raw_region.proofs.Facts.{first, second}
use Rattle.seg_vector.specs.Elements.{RewritesElements, ShrinksStorageOk}
use Rattle.seg_vector.{proofs.storage.Storage.stands-room, specs.Containers.ReservesStorageOk}
use Rattle.segment_manager.proofs.containers.ContentPlans.{clear-plan, reserve-plan, shrink-plan}
use Rattle.segment_manager.proofs.containers.ItemSteps.{HoldsAt, contents-fit, contents-stand, holds-at, of-contents}
use Rattle.segment_manager.proofs.containers.ItemSteps.{one-kind, refill-steps_of_kind, room-asked, start-place}
use Rattle.segment_manager.proofs.containers.ItemSteps.{then_room}
use Rattle.segment_manager.proofs.containers.{KeptContainers.keeps-cut, Safely.done-so, Safely.stays}
use Rattle.segment_manager.proofs.directory.AnyDirectory.{by_no_change_of_kind, denotes-heap, denotes-live}
use Rattle.segment_manager.proofs.directory.AnyDirectory.{open-writing, step_of_kind-found}
use Rattle.segment_manager.proofs.objects.Destroys.{here, seen-handle, standing}
use Rattle.segment_manager.proofs.objects.{Locating.same-object, Locating.told-by_key, Rewritten.value_start}
use Rattle.segment_manager.proofs.objects.{Slices.HasBytesAt-element, Standings.standing-room}
use Rattle.segment_manager.proofs.{blocks.Blocks.spelling-length, containers.KeptContainers.enough-places}
use Rattle.segment_manager.proofs.{containers.ToChange.seen-found, directory.Frame.object-roomy}
use Rattle.segment_manager.specs.containers.ElementRuns.{IsRunOf, run_at, run_in, run_of, spelled_in, storage_offset}
use Rattle.segment_manager.specs.containers.Stored.{ChangesElements, IsElements, each_of}
use Rattle.segment_manager.specs.objects.ElementLists.{numbers_in}
use Rattle.segment_manager.specs.{containers.Contents.has_sizes, declared.containers.element_runs.ElementRun.ElementRun}
use Rattle.std.specs.{Option.unwrap_or, Prelude.IfOk}
use common.{AnswersWith, BackingArray, Bool, ByHandle, Bytes, Change, Clear, Command, Contents, Denotes, DenotesCurrent}
use common.{Directory, Done, Elements, Err, Extent, HasBytesAt, HasEnough, IfSome, IsContainer, IsHeap, IsLocated}
use common.{IsObjectInBlock, IsSegment, IsTrue, IsValueAt, Key, Kind, List, LiveSet, Located, MapKind, Memory, NoSpace}
use common.{None, NotFound, Numbers, Object, Ok, Option, Pairs, Place, Plan, RefillsContainer, Refusal, Refused, Reply}
use common.{Reserve, Result, Scalar, ScalarKind, SegmentState, Shrink, Some, StepsSafely, Storage, String, StringsKind}
use common.{Texts, U8, UnchangedWhere, Value, Vector, WindowState, [], ap, arith, bytes_of, changed, command_of}
use common.{container_at, contents_of, current, effect, emptied, eqb-true, false, grown_backing, handle, handle_at}
use common.{has_backing, has_room, has_storage, has_values, head_len, is_good_value, is_read_only, is_value, kind_of}
use common.{length, link_at, list_all, live, live_of, no_backing, object_at, option_map, padded, perform, place_at}
use common.{read, refl, room_block, shrunk_backing, size_of, sizes_at, sizes_of, slice_get, spelled, spelling}
use common.{storage_of, subst, suc, sym, take, true, value_len, with_items, with_table, word_at, zero, ℕ, ℤ, ◌%◌, ◌*◌}
use common.{◌+◌, ◌∙◌, ◌∷◌, ◌≡◌, ◌≤◌}

-- ---- reads

-- the link of a container leads to its storage
link-offset : (t : Option Extent)
    → unwrap_or (option_map handle t) 0 ≡ elim t as (λ _. ℕ) [ None ↦ 0 | Some x ↦ handle x ]
link-offset None = refl
link-offset (Some x) = refl

link-said : (m : Memory) (at : ℕ) (t : BackingArray) {r : ℕ} → r ≡ unwrap_or (link_at m at) 0
    → link_at m at ≡ table_link t → r ≡ storage_offset t
link-said m at t e f = e ∙ ap (λ (l : Option ℕ). unwrap_or l 0) f ∙ link-offset t.extent

-- the run that is read of the words of a container
pub record IsRunRead (m : Memory) (h at : ℕ) (k : ScalarKind) (r : ElementRun) : Type 0 where
  pub offset : r.offset ≡ unwrap_or (link_at m (h + at)) 0
  pub count : r.count ≡ word_at m (h + (at + 8))
  pub kind : r.kind ≡ k

same-run : {r q : ElementRun} → r.offset ≡ q.offset → r.count ≡ q.count → r.kind ≡ q.kind → r ≡ q
same-run {r} {q} e f g = λ i. record { offset = e i; count = f i; kind = g i }

module _ {b : List ℕ} {h : ℕ} (o : Object) (s : IsObjectInBlock b h o) where
  abbrev start : ℕ
  start = handle o.extent + head_len + padded (length o.name)

  -- the run that was read is the elements of a vector
  pub vector-read : (at : ℕ) (k : ScalarKind) (r : ElementRun) (v : Value) → at ≡ head_len + padded (length o.name)
      → IsRunRead (bytes_of b) h at k r → Vector k ≡ kind_of v → IsValueAt (bytes_of b) start v → Ok r ≡ run_in start v
  vector-read at k r (Elements j zs t) e f g said =
      let place : h + at ≡ start = omega (arith, s.at, e) in
      let len : h + (at + 8) ≡ start + 8 = omega (arith, place) in
      let kind : k ≡ j = cc in
      ap Ok (same-run (link-said (bytes_of b) start t
      (f.offset ∙ ap (λ x. unwrap_or (link_at (bytes_of b) x) 0) place) said.link)
      (f.count ∙ ap (word_at (bytes_of b)) len ∙ said.len_word) (f.kind ∙ kind))
  vector-read at k r v e f g said = absurd (cc)

  -- the run that was read is the bytes of a string
  pub string-read : (at : ℕ) (r : ElementRun) (v : Value) → at ≡ head_len + padded (length o.name)
      → IsRunRead (bytes_of b) h at U8 r → String ≡ kind_of v → IsValueAt (bytes_of b) start v → Ok r ≡ run_in start v
  string-read at r (Bytes bs t) e f g said =
      let place : h + at ≡ start = omega (arith, s.at, e) in
      let len : h + (at + 8) ≡ start + 8 = omega (arith, place) in
      ap Ok (same-run (link-said (bytes_of b) start t
      (f.offset ∙ ap (λ x. unwrap_or (link_at (bytes_of b) x) 0) place) said.link)
      (f.count ∙ ap (word_at (bytes_of b)) len ∙ said.len_word) f.kind)
  string-read at r v e f g said = absurd (cc)

-- ---- the place of the run, and its bytes

-- a run of this many bytes lies in the heap, at a multiple of 8
record Lies (c : WindowState) (at n : ℕ) : Type 0 where
  inside : at + n ≤ length c.bytes
  aligned : at % 8 ≡ 0

-- as the bytes of a block do, from a multiple of 8 in it on
room-lies : (c : WindowState) (h at n : ℕ) → IsHeap current c.bytes → IsTrue (has_room (live_of c.bytes) h (at + n))
    → at % 8 ≡ 0 → Lies c (h + at) n
room-lies c h at n heap has even =
    let r = room_block c h (at + n) heap has in let b = r.block in let whole = block_aligned c h b in
    let enough = r.enough in let o = b.at in let ends = b.inside in
    record { inside = omega arith; aligned = omega arith }

storage-has : (m : Memory) (t : Option Extent) (bytes : List ℕ)
    → elim t as (λ _. Type 0) [ None ↦ bytes ≡ [] | Some x ↦ HasBytesAt m (handle x) bytes ]
    → HasBytesAt m (elim t as (λ _. ℕ) [ None ↦ 0 | Some x ↦ handle x ]) bytes
storage-has m None bytes e = subst (λ (bs : List ℕ). HasBytesAt m 0 bs) (sym e) refl
storage-has m (Some x) bytes h = h

has-run : (m : Memory) (at : ℕ) (v : Value) {run : ElementRun} → IsValueAt m at v → run_in at v ≡ Ok run
    → HasBytesAt m run.offset (spelled_in v)
has-run m at (Numbers k zs) {run} h e =
    let same : at ≡ run.offset = cc in subst (λ n. HasBytesAt m n (spelled k zs)) same h
has-run m at (Elements k zs t) {run} h e =
    let same : storage_offset t ≡ run.offset = cc in
    subst (λ n. HasBytesAt m n (spelled k zs)) same (storage-has m t.extent (spelled k zs) h.storage)
has-run m at (Bytes bs t) {run} h e =
    let same : storage_offset t ≡ run.offset = cc in
    subst (λ n. HasBytesAt m n bs) same (storage-has m t.extent bs h.storage)
has-run m at (Pairs k v ps) h e = absurd (cc)
has-run m at (Texts ps t) h e = absurd (cc)

storage-lies : (c : WindowState) (t : Option Extent) (each len capacity : ℕ) → IsHeap current c.bytes
    → IsTrue (has_backing Storage each (record { capacity = capacity; extent = t })) → len ≤ capacity
    → IfSome (option_map handle t) (λ g. IsTrue (has_room (live_of c.bytes) g (each * len)))
    → Lies c (elim t as (λ _. ℕ) [ None ↦ 0 | Some x ↦ handle x ]) (each * len)
storage-lies c None each len capacity heap table fits room =
    let none = eqb-true capacity 0 table in let short : len ≡ 0 = omega (arith, fits, none) in
    let a : each * len ≡ each * 0 = ap (λ n. each * n) short in record { inside = omega (arith, a); aligned = refl }
storage-lies c (Some x) each len capacity heap table fits room =
    let e : each * len ≡ 0 + each * len = omega arith in
    let l = room-lies c (handle x) 0 (each * len) heap
    (subst (λ n. IsTrue (has_room (live_of c.bytes) (handle x) n)) e room) refl in
    let in_heap = l.inside in let even = l.aligned in
    record { inside = omega (arith, in_heap); aligned = omega (arith, even) }

module _ (c : WindowState) (d : Directory) (key : Key) (k : Denotes current c.bytes d) (o : Object)
    (is : object_at d key ≡ Some o) where
  contained : (n : Contents) → contents_of o.value ≡ Some n → Lies c (storage_offset n.table) (n.each * n.len)
  contained n e =
      let s = contents-stand c.bytes d key o n k is e in
      storage-lies c n.table.extent n.each n.len n.table.capacity s.heap s.table s.fits (stands-room s)

  lies-if : (v : Value) {run : ElementRun} → o.value ≡ v
      → run_in (handle o.extent + head_len + padded (length o.name)) v ≡ Ok run
      → Lies c run.offset (size_of run.kind * run.count)
  lies-if (Numbers j zs) {run} e f =
      let start : ℕ = head_len + padded (length o.name) in let n : ℕ = size_of j * length zs in
      let long : value_len o.value ≡ n = ap value_len e in
      let l = room-lies c (handle o.extent) start n (denotes-heap current c.bytes d k)
      (standing-room c.bytes (handle o.extent) (start + n) o (standing c.bytes d key o k is) (omega (arith, long)))
      (omega arith) in
      let in_heap = l.inside in let even = l.aligned in
      let r : ElementRun = record {
        offset = handle o.extent + head_len + padded (length o.name);
        count = length zs;
        kind = j;
      } in
      let same : r ≡ run = cc in
      let lies : Lies c r.offset n = record { inside = omega (arith, in_heap); aligned = omega (arith, even) } in
      subst (λ (r : ElementRun). Lies c r.offset (size_of r.kind * r.count)) same lies
  lies-if (Elements j zs t) {run} e f =
      let r : ElementRun = record { offset = storage_offset t; count = length zs; kind = j } in
      let same : r ≡ run = cc in
      subst (λ (r : ElementRun). Lies c r.offset (size_of r.kind * r.count)) same (contained _ (ap contents_of e))
  lies-if (Bytes bs t) {run} e f =
      let r : ElementRun = record { offset = storage_offset t; count = length bs; kind = U8 } in
      let same : r ≡ run = cc in
      subst (λ (r : ElementRun). Lies c r.offset (size_of r.kind * r.count)) same (contained _ (ap contents_of e))
  lies-if (Pairs j v ps) e f = absurd (cc)
  lies-if (Texts ps t) e f = absurd (cc)

-- ---- the object of a key

-- the object has the run
pub record HasRun (d : Directory) (key : Key) (run : ElementRun) : Type 0 where
  pub object : Object
  pub is : object_at d key ≡ Some object
  pub run_is : run_of object ≡ Ok run

abbrev run_if : Option Object → Result ElementRun Refusal
run_if r = elim r as (λ _. Result ElementRun Refusal) [ None ↦ Err NotFound | Some o ↦ run_of o ]

-- the object whose run was told
pub has-if : {d : Directory} {key : Key} {run : ElementRun} (r : Option Object) → object_at d key ≡ r
    → Ok run ≡ run_if r
    → HasRun d key run
has-if None e f = absurd (cc)
has-if (Some o) e f = record { object = o; is = e; run_is = sym f }

-- the run of an object is the directory's
pub run-answers : {s t : SegmentState} (view : s ≡ t) (key : Key) {h : ℕ} {r : Result ElementRun Refusal}
    → AnswersWith t (λ d. handle_at d key) (Some h) → ((o : Object) → IsObjectInBlock s.cut.bytes h o → r ≡ run_of o)
    → AnswersWith t (λ d. run_at d key) r
run-answers {s} {t} view key {h} {r} a each =
    subst (λ (u : SegmentState). AnswersWith u (λ d. run_at d key) r) view (record {
      answers = λ d k.
          let o = here s.cut.bytes d key h k.denotes ((seen-handle s t view key (Some h) a).answers d k) in
          each o.object o.stands ∙ sym (ap run_if o.is);
    })

-- and its bytes encode the elements
pub run-bytes : {s t : SegmentState} (view : s ≡ t) (key : Key) (r : Result ElementRun Refusal) → IsSegment s.cut.bytes
    → AnswersWith t (λ d. run_at d key) r → IfOk r (λ run. IsRunOf t key run)
run-bytes view key (Err why) g a = tt
run-bytes {s} {t} view key (Ok run) g a =
    let b = subst (λ (u : SegmentState). AnswersWith u (λ d. run_at d key) (Ok run)) (sym view) a in
    let o = has-if {d = g.0} {key = key} (object_at g.0 key) refl (b.answers g.0 g.1) in
    let lies = lies-if s.cut g.0 key g.1.denotes o.object o.is o.object.value refl o.run_is in
    subst (λ (u : SegmentState). IsRunOf u key run) view (record {
      inside = lies.inside;
      aligned = lies.aligned;
      spells = λ d l.
          let o = has-if {d = d} {key = key} (object_at d key) refl (b.answers d l) in
          let said = (standing s.cut.bytes d key o.object l.denotes o.is).said.value in
          subst (λ (bs : List ℕ). HasBytesAt (bytes_of s.cut.bytes) run.offset bs)
          (sym (ap (λ (q : Option Object). elim q as (λ _. List ℕ) [ None ↦ [] | Some p ↦ spelled_in p.value ]) o.is))
          (has-run (bytes_of s.cut.bytes) _ o.object.value said o.run_is);
    })

-- under a key as under the handle of its object
pub run-by_key : (s : SegmentState) (key : Key) (o : Located) → IsLocated s key o → {r : Result ElementRun Refusal}
    → AnswersWith s (λ d. run_at d (ByHandle o.handle)) r → IfOk r (λ run. IsRunOf s (ByHandle o.handle) run) → record {
      run : AnswersWith s (λ d. run_at d key) r;
      bytes : IfOk r (λ run. IsRunOf s key run);
    }
run-by_key s key o l {r} a b = record { run = told-by_key s key o l (λ d q. run_if q) r a; bytes = of r b }
  where
    of : (r : Result ElementRun Refusal) → IfOk r (λ run. IsRunOf s (ByHandle o.handle) run)
        → IfOk r (λ run. IsRunOf s key run)
    of (Err why) m = tt
    of (Ok run) m = record {
      inside = m.inside;
      aligned = m.aligned;
      spells = λ d st. subst (λ (q : Option Object). HasBytesAt (bytes_of s.cut.bytes) run.offset
          (elim q as (λ _. List ℕ) [ None ↦ [] | Some p ↦ spelled_in p.value ])) (sym (same-object s key o l d st))
          (m.spells d st);
    }

-- ---- the elements of rows

all-at : (t : ℤ → Bool) (zs : List ℤ) (i : ℕ) {z : ℤ} → IsTrue (list_all t zs) → slice_get zs i ≡ Some z → IsTrue (t z)
all-at t [] i h e = absurd (cc)
all-at t (y ∷ ys) zero {z} h e = let same : y ≡ z = cc in subst (λ x. IsTrue (t x)) same (first (t y) (list_all t ys) h)
all-at t (y ∷ ys) (suc i) h e = all-at t ys i (second (t y) (list_all t ys) h) e

-- an element is a value of the kind, and its spelling is read in its place
pub record IsElementAt (m : Memory) (at : ℕ) (k : ScalarKind) (z : ℤ) : Type 0 where
  pub value : is_value k z ≡ true
  pub spelled_there : read m at (size_of k) ≡ spelling k z

-- an element is in its place
pub element-in : (m : Memory) (at : ℕ) (k : ScalarKind) (zs : List ℤ) (i : ℕ) {z : ℤ}
    → IsTrue (list_all (is_value k) zs)
    → HasBytesAt m at (spelled k zs) → slice_get zs i ≡ Some z → IsElementAt m (at + size_of k * i) k z
element-in m at k zs i {z} good h e = record {
  value = all-at (is_value k) zs i good e;
  spelled_there = ap (read m (at + size_of k * i)) (sym (spelling-length k z))
      ∙ HasBytesAt-element (spelling k) (spelling-length k) m at zs i h e;
}

-- an array or a vector of scalars of a kind
pub data IsSliceOfKind (k : ScalarKind) (v : Value) : Type 0 where
  -- an array is a row of its kind
  AnArray : kind_of v ≡ Scalar k → IsSliceOfKind k v
  -- a vector is a row of its kind
  AVector : kind_of v ≡ Vector k → IsSliceOfKind k v

series-if : (m : Memory) (at : ℕ) (k : ScalarKind) (v : Value) (i : ℕ) {z : ℤ} → IsSliceOfKind k v → IsTrue
    (is_good_value v)
    → HasBytesAt m at (spelled_in v) → slice_get (numbers_in v) i ≡ Some z → IsElementAt m (at + size_of k * i) k z
series-if m at k (Numbers j zs) i {z} (AnArray e) good h f =
    let same : j ≡ k = cc in
    subst (λ k. IsElementAt m (at + size_of k * i) k z) same (element-in m at j zs i (second _ _ good) h f)
series-if m at k (Elements j zs t) i {z} (AVector e) good h f =
    let same : j ≡ k = cc in
    subst (λ k. IsElementAt m (at + size_of k * i) k z) same (element-in m at j zs i (second _ _ good) h f)
series-if m at k v i (AnArray e) good h f = absurd (cc)
series-if m at k v i (AVector e) good h f = absurd (cc)

-- the elements of a key's object are in its run
pub series-element : (s : SegmentState) (key : Key) (run : ElementRun) (k : ScalarKind) → IsRunOf s key run
    → (d : Directory)
    → DenotesCurrent s.cut.bytes d → (o : Object) → object_at d key ≡ Some o → IsSliceOfKind k o.value → (i : ℕ) {z : ℤ}
    → slice_get (numbers_in o.value) i ≡ Some z → IsElementAt (bytes_of s.cut.bytes) (run.offset + size_of k * i) k z
series-element s key run k r d l o is series i e = series-if (bytes_of s.cut.bytes) run.offset k o.value i series
    (object-roomy current o (standing s.cut.bytes d key o l.denotes is).good).value
    (subst (λ (bs : List ℕ). HasBytesAt (bytes_of s.cut.bytes) run.offset bs) (ap (λ (q : Option Object).
    elim q as (λ _. List ℕ) [ None ↦ [] | Some p ↦ spelled_in p.value ]) is) (r.spells d l)) e

-- and the run has their kind
pub run-kind : (s : SegmentState) (key : Key) (run : ElementRun) (k : ScalarKind)
    → AnswersWith s (λ d. run_at d key) (Ok run) → (d : Directory) → DenotesCurrent s.cut.bytes d → (o : Object)
    → object_at d key ≡ Some o → IsSliceOfKind k o.value → (run.kind ≡ k) × (run.count ≡ length (numbers_in o.value))
run-kind s key run k a d l o is series = kind-if o.value series (a.answers d l ∙ ap run_if is)
  where
    kind-if : (v : Value) → IsSliceOfKind k v → Ok run ≡ run_in (handle o.extent + head_len + padded (length o.name)) v
        → (run.kind ≡ k) × (run.count ≡ length (numbers_in v))
    kind-if (Numbers j zs) (AnArray e) f = (cc, cc)
    kind-if (Elements j zs t) (AVector e) f = (cc, cc)
    kind-if v (AnArray e) f = absurd (cc)
    kind-if v (AVector e) f = absurd (cc)

-- The words of containers, and the contracts of seg_vector for storage with elements of one length, as steps of the
-- calls on the object, a vector of numbers or a text.

-- ---- the words of a container

-- the capacity in the words
abbrev pub places_in : Memory → ℕ → Kind → ℕ
places_in m at (MapKind k v) = 0
places_in m at kind = word_at m (at + 16)

said-sizes : (m : Memory) (at : ℕ) (v : Value) → has_sizes (kind_of v) ≡ true → IsValueAt m at v
    → Ok (word_at m (at + 8), places_in m at (kind_of v)) ≡ sizes_of v
said-sizes m at (Elements k zs t) h s = λ i. Ok (s.len_word i, s.capacity i)
said-sizes m at (Bytes bs t) h s = λ i. Ok (s.len_word i, s.capacity i)
said-sizes m at (Pairs k v ps) h s = λ i. Ok (s.count i, 0)
said-sizes m at (Texts ps t) h s = λ i. Ok (s.len_word i, s.capacity i)
said-sizes m at v h s = absurd (cc)

-- the places of an object that is no map
pub places-otherwise : (m : Memory) (p : Place) (kind : Kind) → ((k v : ScalarKind) → kind ≡ MapKind k v → ⊥) → (n : ℕ)
    → n ≡ word_at m (p.handle + (p.at + 16)) → n ≡ places_in m (p.handle + p.at) kind
places-otherwise m p (MapKind k v) other n e = absurd (other k v refl)
places-otherwise m p kind other n e = e ∙ ap (word_at m) (omega arith)

three-words : (v : Value) → has_sizes (kind_of v) ≡ true → value_len v ≡ 24
three-words (Numbers k zs) h = absurd (cc)
three-words v h = refl

-- as the view before the call names the segment
module _ {s t : SegmentState} (view : s ≡ t) (key : Key) (kind : Kind) (p : Place)
    (found : AnswersWith t (λ d. container_at d key kind) (Ok p)) (sized : has_sizes kind ≡ true) where
  module _ (d : Directory) (l : DenotesCurrent s.cut.bytes d) where
    at-place : HoldsAt d key kind p
    at-place = holds-at d key kind p ((seen-found s t view key kind p found).answers d l)

    of-kind : kind ≡ kind_of at-place.object.value
    of-kind = one-kind kind (kind_of at-place.object.value) at-place.same

    stands : IsObjectInBlock s.cut.bytes (handle at-place.object.extent) at-place.object
    stands = standing s.cut.bytes d key at-place.object l.denotes at-place.is

  -- the words of a container have room in its block
  pub word-room : IsSegment s.cut.bytes → (n : ℕ) → n ≤ 16
      → IsTrue (has_room (live_of s.cut.bytes) p.handle (p.at + n + 8))
  word-room b n h =
      let o : Object = (at-place b.0 b.1).object in
      let len : value_len o.value ≡ 24 = three-words o.value (ap has_sizes (sym (of-kind b.0 b.1)) ∙ sized) in
      room-less (live_of s.cut.bytes) p.handle (p.at + 24) (p.at + n + 8) (omega arith)
      (subst (λ (q : Place). IsTrue (has_room (live_of s.cut.bytes) q.handle (q.at + 24))) (at-place b.0 b.1).at
      (standing-room s.cut.bytes _ (16 + padded (length o.name) + 24) o (stands b.0 b.1) (omega (arith, len))))

  -- the length and the capacity in the words
  pub measured : (m n : ℕ) → m ≡ word_at (bytes_of s.cut.bytes) (p.handle + (p.at + 8))
      → n ≡ places_in (bytes_of s.cut.bytes) (p.handle + p.at) kind
      → AnswersWith t (λ d. sizes_at d key) (Ok (m, n))
  measured m n e f =
      let memory : Memory = bytes_of s.cut.bytes in
      subst (λ (u : SegmentState). AnswersWith u (λ d. sizes_at d key) (Ok (m, n))) view (record {
        answers = λ d l.
            let o : Object = (at-place d l).object in
            let start : p.handle + p.at ≡ value_start o = sym (ap place_at (at-place d l).at) ∙ sym (start-place o) in
            let len : p.handle + (p.at + 8) ≡ value_start o + 8 = omega (arith, start) in
            (λ i. Ok ((e ∙ ap (word_at memory) len) i, (f ∙ (λ j. places_in memory (start j) (of-kind d l j))) i))
            ∙ said-sizes memory (value_start o) o.value (ap has_sizes (sym (of-kind d l)) ∙ sized)
            (stands d l).said.value ∙ sym (ap (λ (q : Option Object). elim q as (λ _. Result (ℕ × ℕ) Refusal)
            [ None ↦ Err NotFound | Some o ↦ sizes_of o.value ]) (at-place d l).is);
      })

-- ---- values of elements of one length

-- with other elements, or another table
pub record IsMoved (v w : Value) (next : Contents) : Type 0 where
  pub kind : kind_of w ≡ kind_of v
  pub held : contents_of w ≡ Some next
  pub values : IsTrue (has_values v) → IsTrue (has_values w)

table-moved : (u : BackingArray) (v : Value) (c : Contents) → contents_of v ≡ Some c
    → IsMoved v (with_table v u) (record c { table = u })
table-moved u = of-contents (λ v c. IsMoved v (with_table v u) (record c { table = u })) (λ k zs t. record
    { kind = refl; held = refl; values = λ h. h }) (λ bs t. record { kind = refl; held = refl; values = λ h. h })

none-left : (v : Value) (c : Contents) → contents_of v ≡ Some c
    → IsMoved v (with_items v []) (record c { len = 0; bytes = [] })
none-left = of-contents (λ v c. IsMoved v (with_items v []) (record c { len = 0; bytes = [] })) (λ k zs t. record
    { kind = refl; held = refl; values = λ h. refl }) (λ bs t. record { kind = refl; held = refl; values = λ h. refl })

-- an emptied value has no contents
pub nothing-left : (v : Value) (c : Contents) → contents_of v ≡ Some c
    → contents_of (emptied v) ≡ Some (record c { len = 0; table = no_backing; bytes = [] })
nothing-left = of-contents (λ v c.
    contents_of (emptied v) ≡ Some (record c { len = 0; table = no_backing; bytes = [] }))
    (λ k zs t. refl) (λ bs t. refl)

storage-said : (v : Value) (c : Contents) → contents_of v ≡ Some c
    → (storage_of v ≡ Ok (c.each, c.len, c.table)) × (sizes_of v ≡ Ok (c.len, c.table.capacity))
storage-said = of-contents (λ v c. (storage_of v ≡ Ok (c.each, c.len, c.table))
    × (sizes_of v ≡ Ok (c.len, c.table.capacity))) (λ k zs t. (refl, refl)) (λ bs t. (refl, refl))

-- the contents of a value of a kind
abbrev contents_at : Kind → ℕ → BackingArray → List ℕ → Contents
contents_at kind len t bytes = record { each = each_of kind; len = len; table = t; bytes = bytes }

elements-in : (v : Value) → has_storage (kind_of v) ≡ true → (kind_of v ≡ StringsKind → ⊥) → (len : ℕ)
    × ((t : BackingArray) × ((bytes : List ℕ) × (contents_of v ≡ Some (contents_at (kind_of v) len t bytes))))
elements-in (Elements k zs t) h n = (_, (_, (_, refl)))
elements-in (Bytes bs t) h n = (_, (_, (_, refl)))
elements-in (Texts ps t) h n = absurd (n refl)
elements-in v h n = absurd (cc)

each-few : (kind : Kind) → (1 ≤ each_of kind) × (each_of kind ≤ 8)
each-few kind = grind arith

-- the object of the key has the kind, and its elements are at the place
pub record HoldsElements (b : List ℕ) (d : Directory) (key : Key) (kind : Kind) (p : Place) : Type 0 where
  pub found : HoldsAt d key kind p
  pub len : ℕ
  pub table : BackingArray
  pub bytes : List ℕ
  pub held : contents_of found.object.value ≡ Some (contents_at kind len table bytes)
  pub stands : IsContainer b p (each_of kind) len table bytes
  pub values : IsTrue (has_values found.object.value)

-- the object at the place holds elements
pub holds-elements : (b : List ℕ) (d : Directory) (key : Key) (kind : Kind) (p : Place) → Denotes current b d
    → Ok p ≡ container_at d key kind → has_storage kind ≡ true → (kind ≡ StringsKind → ⊥) → HoldsElements b d key kind p
holds-elements b d key kind p den e stored no_texts =
    let h : HoldsAt d key kind p = holds-at d key kind p e in let o : Object = h.object in
    let same : kind ≡ kind_of o.value = one-kind kind (kind_of o.value) h.same in
    let x = elements-in o.value (ap has_storage (sym same) ∙ stored) (λ f. no_texts (same ∙ f)) in
    let held : contents_of o.value ≡ Some (contents_at kind x.0 x.1.0 x.1.1.0) =
    x.1.1.1 ∙ (λ i. Some (contents_at (sym same i) x.0 x.1.0 x.1.1.0)) in
    record {
      found = h;
      len = x.0;
      table = x.1.0;
      bytes = x.1.1.0;
      held = held;
      stands = subst (λ q. IsContainer b q (each_of kind) x.0 x.1.0 x.1.1.0) h.at
          (contents-stand b d key o (contents_at kind x.0 x.1.0 x.1.1.0) den h.is held);
      values = (contents-fit o.value _ held (object-roomy current o (standing b d key o den h.is).good).value).values;
    }

-- ---- the calls on their storage

module _ {s t : SegmentState} (view : s ≡ t) (key : Key) (kind : Kind) (p : Place) (b : IsSegment s.cut.bytes)
    (found : AnswersWith t (λ d. container_at d key kind) (Ok p))
    (stored : has_storage kind ≡ true) (no_texts : kind ≡ StringsKind → ⊥) where
  abbrev Held : Directory → Type 0
  Held d = HoldsElements s.cut.bytes d key kind p

  held : (d : Directory) → DenotesCurrent s.cut.bytes d → Held d
  held d l = holds-elements s.cut.bytes d key kind p l.denotes
      ((seen-found s t view key kind p found).answers d l) stored no_texts

  -- there are elements at the place
  pub some-elements : IsElements s.cut.bytes p (each_of kind)
  some-elements =
      let h : Held b.0 = held b.0 b.1 in
      record { stands = (h.len, (h.table, (h.bytes, h.stands))); some = (each-few kind).0; short = (each-few kind).1 }

  -- a refused change of a container leaves the segment
  pub elements-kept : (new : WindowState) (change : Change) (r : Result (Unit {0}) Refusal)
      → ChangesElements change s.cut new p
      (each_of kind) r → UnchangedWhere t (record s { cut = new }) (HasEnough change key)
  elements-kept new change r a =
      keeps-cut s t view new (HasEnough change key) (λ d l has. same change r a d (held d l) has)
    where
      same : (change : Change) (r : Result (Unit {0}) Refusal) → ChangesElements change s.cut new p (each_of kind) r
          → (d : Directory) (h : Held d) → HasEnough change key d → new ≡ s.cut
      same (Reserve n) (Ok u) a d h has = (a h.len h.table h.bytes h.stands).enough (enough-places d key h.found.object
          n _ h.table.capacity h.found.is (storage-said h.found.object.value _ h.held).1 has)
      same (Reserve n) (Err e) a d h has = (a h.len h.table h.bytes h.stands).same
      same change r a d h has = absurd has

  module _ (new : WindowState) (may : is_read_only t.mode ≡ false) where
    writing : is_read_only s.mode ≡ false
    writing = subst (λ (u : SegmentState). is_read_only u.mode ≡ false) (sym view) may

    -- the effect on the elements in a directory
    record Becomes (d : Directory) (h : Held d) (c : Command) : Type 0 where
      value : Value
      next : Contents
      moved : IsMoved h.found.object.value value next
      change : RefillsContainer s.cut new p (contents_at kind h.len h.table h.bytes) next
      outcome : perform d (live d) (effect d c) ≡ (Done, changed d h.found.object value)

    becomes-so : (c : Command) → ((d : Directory) (l : DenotesCurrent s.cut.bytes d) (h : Held d) → Becomes d h c)
        → StepsSafely s new key kind c (Ok tt)
    becomes-so c each =
        done-so (refill-steps_of_kind s new key kind p (seen-found s t view key kind p found) c Done writing b (λ d l.
        let h : Held d = held d l in
        let r : Becomes d h c = each d l h in record {
          object = h.found.object;
          is = h.found.is;
          value = r.value;
          kind = r.moved.kind;
          was = contents_at kind h.len h.table h.bytes;
          held = h.held;
          next = r.next;
          holds = r.moved.held;
          values = r.moved.values h.values;
          change = subst (λ q. RefillsContainer s.cut new q (contents_at kind h.len h.table h.bytes) r.next)
              (sym h.found.at) r.change;
          outcome = r.outcome;
        }))

    said : {d : Directory} (h : Held d) → storage_of h.found.object.value ≡ Ok (each_of kind, h.len, h.table)
    said h = (storage-said h.found.object.value _ h.held).0

    -- they get places
    abbrev with_places : (d : Directory) → Held d → BackingArray → Plan
    with_places d h u = Reply Done (changed d h.found.object (with_table h.found.object.value u))

    places-asked : (n : ℕ) (d : Directory) (l : DenotesCurrent s.cut.bytes d) (h : Held d) (r : Option BackingArray)
        → grown_backing (live_of s.cut.bytes) (each_of kind) n h.table ≡ r
        → perform d (live d) (effect d (asked.Reserve key n)) ≡ then_room d (live d) h.table (with_places d h) r
    places-asked n d l h r g = room-asked current s.cut.bytes d (asked.Reserve key n) (each_of kind) n h.table r
        (with_places d h) l.denotes (reserve-plan d key h.found.object h.found.is _ (said h) n) g

    -- a change of a container is the step of the directory
    pub elements-changed : (change : Change) (r : Result (Unit {0}) Refusal)
        → ChangesElements change s.cut new p (each_of kind) r → StepsSafely s new key kind (command_of change key) r
    elements-changed (Reserve n) (Ok u) a = becomes-so (asked.Reserve key n) (λ d l h.
        let g : ReservesStorageOk s.cut new p (each_of kind) n h.len h.table h.bytes =
        a h.len h.table h.bytes h.stands in record {
          value = with_table h.found.object.value g.table;
          next = contents_at kind h.len g.table h.bytes;
          moved = table-moved g.table h.found.object.value _ h.held;
          change = record { change = g.change; stands = g.stands };
          outcome = places-asked n d l h (Some g.table) g.grown;
        })
    elements-changed (Reserve n) (Err e) a =
        let h : Held b.0 = held b.0 b.1 in let full = a h.len h.table h.bytes h.stands in
        stays s new key kind (asked.Reserve key n) e NoSpace full.refusal full.same
        (by_no_change_of_kind s key kind (asked.Reserve key n) (Refused NoSpace) (λ d l.
        let h : Held d = held d l in
        step_of_kind-found s.mode d key kind (asked.Reserve key n) h.found.object
        (open-writing s.mode (asked.Reserve key n) writing) h.found.is h.found.same
        ∙ places-asked n d l h None (a h.len h.table h.bytes h.stands).none))
    elements-changed Shrink r a =
        subst (StepsSafely s new key kind (asked.Shrink key)) (sym a.0) (becomes-so (asked.Shrink key) (λ d l h.
        let cut : LiveSet → BackingArray = λ (m : LiveSet). shrunk_backing m (each_of kind) h.len h.table in
        let f : ShrinksStorageOk s.cut new p (each_of kind) h.len h.table h.bytes =
        a.1 h.len h.table h.bytes h.stands in record {
          value = with_table h.found.object.value (cut (live_of s.cut.bytes));
          next = contents_at kind h.len (cut (live_of s.cut.bytes)) h.bytes;
          moved = table-moved (cut (live_of s.cut.bytes)) h.found.object.value _ h.held;
          change = record { change = f.change; stands = f.stands };
          outcome = ap (perform d (live d)) (shrink-plan d key h.found.object h.found.is _ (said h))
              ∙ ap (λ m. (Done, changed d h.found.object (with_table h.found.object.value (cut m))))
              (sym (denotes-live current s.cut.bytes d l.denotes));
        }))
    elements-changed Clear r a =
        subst (StepsSafely s new key kind (asked.Clear key)) (sym a.0) (becomes-so (asked.Clear key) (λ d l h.
        let r : RewritesElements s.cut new p (each_of kind) 0 h.table (take (each_of kind * 0) h.bytes) =
        a.1 h.len h.table h.bytes h.stands in record {
          value = with_items h.found.object.value [];
          next = contents_at kind 0 h.table [];
          moved = none-left h.found.object.value _ h.held;
          change = record {
            change = r.change;
            stands = subst (λ n. IsContainer new.bytes p (each_of kind) 0 h.table (take n h.bytes))
                (let none : each_of kind * 0 ≡ 0 = omega arith in none) r.stands;
          };
          outcome = ap (perform d (live d)) (clear-plan d key h.found.object h.found.is _ (said h));
        }))
