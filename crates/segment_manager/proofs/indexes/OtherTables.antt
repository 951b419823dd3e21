-- One index of a directory is written, and the other stays.
use Rattle.segment_manager.proofs.Common as common
use Rattle.seg_index.specs.declared.index.Index.TheVariants as index
use Rattle.seg_types.specs.Commands as asked
use Rattle.best_fit.specs.Fit.{gap_after, insert as insert_extent, room, shorter}
use Rattle.best_fit.{proofs.Laws.insert-comm, specs.Table.table_link}
use Rattle.raw_region.proofs.Facts.{AllByRecursion-behind, AllByRecursion-front}
use Rattle.seg_index.proofs.Laws.{place_behind}
use Rattle.seg_index.specs.Capacities.{KeepsRoomyIndex, ReservesIndexOk, ShrinksIndex, with_cut}
use Rattle.segment_manager.proofs.containers.Safely.{Stepped, stepped}
use Rattle.segment_manager.proofs.directory.AnyDirectory.{by_no_change, by_step, denotes-live, lands, open-writing}
use Rattle.segment_manager.proofs.directory.AnyDirectory.{perform-new, perform-no_space, step-plan, step-reply}
use Rattle.segment_manager.proofs.directory.Frame.{HasIndexes, KeepsFront, any_index-same, any_object-same}
use Rattle.segment_manager.proofs.directory.Frame.{any_objects-same, denotes-put, denotes-taken, handles-length}
use Rattle.segment_manager.proofs.directory.Frame.{header-same, index-stays}
use Rattle.segment_manager.proofs.directory.LiveSet.{Differs, IsIn, OfEach, Rising, adding, all-less, all_of-inserted}
use Rattle.segment_manager.proofs.directory.LiveSet.{all_of-sorted, apart-inserted, insert-inserted, inserted}
use Rattle.segment_manager.proofs.directory.LiveSet.{live-rises, live-without, of_each, others-insert, removing}
use Rattle.segment_manager.proofs.directory.LiveSet.{rising-insert, rising-inserted, sorted-append}
use Rattle.segment_manager.proofs.indexes.Indexes.{by_kind-strict, by_name-strict, index-from, index-parts, named-more}
use Rattle.segment_manager.proofs.indexes.Indexes.{new-kind, new-name, ordered-more, unique-more}
use Rattle.segment_manager.proofs.objects.Exchanged.{IsMade, allocated-found, taken-found, taken-live}
use Rattle.segment_manager.proofs.{directory.IndexedParts.ordered-with, indexes.Bridge.denotes-index}
use Rattle.segment_manager.proofs.{indexes.Bridge.no-entry-removed, objects.RankedPairs.insert_by-length}
use Rattle.segment_manager.{proofs.objects.Regrown.differs-flip, specs.Step.shrunk_indexes}
use Rattle.std.proofs.lemmas.List.{append-nil}
use common.{AddKeeps, AddsEntry, AllByRecursion, AllocatesNoSpace, AllocatesOk, BackingArray, Bool, ByKind, ByName}
use common.{Denotes, Directory, Done, EncodesLiveSet, Extent, HasIndex, Index, IndexRole, IsHeader, IsIndexAt}
use common.{IsIndexOf, IsObjectAt, IsSegment, IsTrue, KeepsBlocks, KeepsOutsideIndex, Key, List, LiveSet, Memory}
use common.{NamedClass, New, NoSpace, None, Object, Option, Plan, Refused, Reply, Request, SameBlock, SameBytes}
use common.{SameBytes-part, SameBytes-trans, SameSurroundings, SameSurroundings-trans, SegmentState, Some, TakesStep}
use common.{UniqueClass, WindowState, [], added, allocated-live, ap, append_assoc, arith, beside_table, blocks-trans}
use common.{by_kind, by_name, bytes_of, capacity_at, cases_lt, class_code, class_of_index, current, effect, entries_of}
use common.{eq-eqb, eqb-true, extent_at, extents_of, false, flat_map, grown_capacity, handle, handles, has_backing}
use common.{if◌then◌else◌, index_at, inl, inr, insert, is_class, is_index, is_object, is_proper, is_read_only, kind_of}
use common.{lay_out_one, le-leb, length, link_at, list_all, live, live_of, lt-leb, nat_le, nat_lt, no_backing}
use common.{object_at, objects_of, option_map, option_to_list, order_of, others, place, placed_is_proper, refl}
use common.{released, remove_object, reserve_of, resized, rises_from, serves, shrunk_backing, sorted, subst, suc, sym}
use common.{table_extents, table_of, true, with_object, with_table_of, without_index_block, without_link}
use common.{without_object, ℕ, ◌&&◌, ◌*◌, ◌++◌, ◌+◌, ◌<◌, ◌==◌, ◌||◌, ◌∙◌, ◌∷◌, ◌≡◌, ◌≢◌, ◌≤◌, ◌⊎◌}

-- ---- one index, and the other

-- the other index
abbrev pub other : Index → Index
other index.Named = index.Unique
other index.Unique = index.Named

-- a directory's index is a legal index, and the bytes encode it
pub record HasOne (i : Index) (m : Memory) (d : Directory) : Type 0 where
  pub is : IsTrue (is_index (table_of i d) (objects_of i d) (order_of i))
  pub at : IsIndexAt m (index_at i) (table_of i d) (entries_of i d)

-- both indexes are legal and encoded if one index and the other are
pub has_both : (i : Index) {m : Memory} {d : Directory} → HasOne i m d → HasOne (other i) m d → HasIndexes m d
has_both index.Named a b = record { named = a.is; unique = b.is; named_at = a.at; unique_at = b.at }
has_both index.Unique a b = record { named = b.is; unique = a.is; named_at = b.at; unique_at = a.at }

-- the key of an object in an index: its name or its kind
abbrev pub key_in : Index → Object → Key
key_in index.Named o = ByName o.name
key_in index.Unique o = ByKind (kind_of o.value)

-- the class of an index is equal to itself, and differs from the class of the other index
of_class : (i : Index) → (class_code (class_of_index i) == class_code (class_of_index i)) ≡ true
of_class index.Named = refl
of_class index.Unique = refl

of_other : (i : Index) → (class_code (class_of_index (other i)) == class_code (class_of_index i)) ≡ false
of_other index.Named = refl
of_other index.Unique = refl

pub has_class : (i : Index) (o : Object) → o.class ≡ class_of_index i → is_class (class_of_index i) o ≡ true
has_class i o c = ap (λ k. class_code (class_of_index i) == class_code k) c ∙ of_class i

-- an object of one class is not of the other
pub other_class : (i : Index) (o : Object) → o.class ≡ class_of_index i → is_class (class_of_index (other i)) o ≡ false
other_class i o c = ap (λ k. class_code (class_of_index (other i)) == class_code k) c ∙ of_other i

-- ---- an entry more

more-length : (i : Index) (d : Directory) (o : Object) → is_class (class_of_index i) o ≡ true
    → object_at d (key_in i o) ≡ None → length (objects_of i (with_object d o)) ≡ suc (length (objects_of i d))
more-length index.Named d o c n =
    ap length (named-more d o c n) ∙ insert_by-length (order_of index.Named) o (objects_of index.Named d)
more-length index.Unique d o c n =
    ap length (unique-more d o c n) ∙ insert_by-length (order_of index.Unique) o (objects_of index.Unique d)

more-index : (i : Index) (d : Directory) (t : BackingArray) (o : Object) → is_class (class_of_index i) o ≡ true
    → object_at d (key_in i o) ≡ None → IsTrue (is_index (table_of i d) (objects_of i d) (order_of i))
    → IsTrue (has_backing IndexRole 8 t) → length (objects_of i d) < t.capacity
    → IsTrue (is_index t (objects_of i (with_object d o)) (order_of i))
more-index index.Named d t o c n h a b =
    ordered-more NamedClass by_name by_name-strict d t d.named o c (new-name d o n) h a b
more-index index.Unique d t o c n h a b =
    ordered-more UniqueClass by_kind by_kind-strict d t d.unique o c (new-kind d o n) h a b

own-with : (i : Index) {m : Memory} (d : Directory) {t : BackingArray} (o : Object)
    → IsTrue (is_index t (objects_of i (with_object d o)) (order_of i))
    → IsIndexAt m (index_at i) t (entries_of i (with_object d o)) → HasOne i m (with_object (with_table_of i d t) o)
own-with index.Named d o a b = record { is = a; at = b }
own-with index.Unique d o a b = record { is = a; at = b }

-- the index is legal with the new object, if its table has the capacity and the bytes encode its entries
pub entered-own : {i : Index} {m : Memory} (d : Directory) {t : BackingArray} (o : Object) → o.class ≡ class_of_index i
    → object_at d (key_in i o) ≡ None → IsTrue (is_index (table_of i d) (objects_of i d) (order_of i))
    → IsTrue (has_backing IndexRole 8 t) → length (entries_of i (with_object d o)) ≤ t.capacity
    → IsIndexAt m (index_at i) t (entries_of i (with_object d o)) → HasOne i m (with_object (with_table_of i d t) o)
entered-own {i} d {t} o c n h a few at =
    let long = handles-length (objects_of i (with_object d o)) ∙ more-length i d o (has_class i o c) n in
    own-with i d o (more-index i d t o (has_class i o c) n h a (omega (arith, long, few))) at

other-with : (i : Index) (d : Directory) (o : Object) → is_class (class_of_index (other i)) o ≡ false
    → objects_of (other i) (with_object d o) ≡ objects_of (other i) d
other-with index.Named d o e = ordered-with UniqueClass by_kind d o e
other-with index.Unique d o e = ordered-with NamedClass by_name d o e

other-one : (i : Index) {m : Memory} (d : Directory) (t : BackingArray) (o : Object)
    → IsTrue (is_index (table_of (other i) d) (objects_of (other i) (with_object d o)) (order_of (other i)))
    → IsIndexAt m (index_at (other i)) (table_of (other i) d) (entries_of (other i) (with_object d o))
    → HasOne (other i) m (with_object (with_table_of i d t) o)
other-one index.Named d t o a b = record { is = a; at = b }
other-one index.Unique d t o a b = record { is = a; at = b }

-- the other index stays when the object is added
pub entered-other : (i : Index) {m : Memory} {d : Directory} (t : BackingArray) (o : Object)
    → o.class ≡ class_of_index i → HasOne (other i) m d → HasOne (other i) m (with_object (with_table_of i d t) o)
entered-other i {m} {d} t o c h =
    let e = sym (other-with i d o (other_class i o c)) in
    other-one i d t o (subst (λ os. IsTrue (is_index (table_of (other i) d) os (order_of (other i)))) e h.is)
    (subst (λ os. IsIndexAt m (index_at (other i)) (table_of (other i) d) (handles os)) e h.at)

-- ---- the blocks outside an index

-- a property of all blocks except the index's own
pub record OfRest (i : Index) (P : Extent → Type 0) (d : Directory) : Type 0 where
  pub objects : AllByRecursion P (flat_map extents_of d.objects)
  pub other_table : AllByRecursion P (table_extents (table_of (other i) d))

-- a property holds for the blocks outside the index if it holds for all blocks with another table of the index
pub of_rest : (i : Index) (P : Extent → Type 0) {d : Directory} (t : BackingArray)
    → AllByRecursion P (live (with_table_of i d t)).extents → OfRest i P d
of_rest index.Named P t h = let e = of_each P h in record { objects = e.objects; other_table = e.unique }
of_rest index.Unique P t h = let e = of_each P h in record { objects = e.objects; other_table = e.named }

-- the three words of the other index stay
pub other-words : (i : Index) {m m' : Memory} → SameBytes m m' 32 (index_at i) → SameBytes m m' (index_at i + 24) 128
    → SameBytes m m' (index_at (other i)) (index_at (other i) + 24)
other-words index.Named {m} {m'} before behind = SameBytes-part m m' 56 128 56 80 behind (omega arith) (omega arith)
other-words index.Unique before behind = before

-- the other index stays
pub other-stays : (i : Index) {m m' : Memory} {d : Directory} → HasOne (other i) m d
    → SameBytes m m' (index_at (other i)) (index_at (other i) + 24)
    → AllByRecursion (SameBlock m m') (table_extents (table_of (other i) d)) → HasOne (other i) m' d
other-stays i {d} h s b = record {
  is = h.is;
  at = index-stays (objects_of (other i) d) (order_of (other i)) h.is s b h.at;
}

-- The live set after one of the two indexes takes another block, loses its block, or has it shortened.

-- ---- one extent in a list

-- an extent in the middle of a list is inserted last
sorted-middle : (front back : List Extent) (x : Extent) → Differs x front
    → sorted (front ++ x ∷ back) ≡ insert_extent x (sorted (front ++ back))
sorted-middle front back x d = sorted-append front (x ∷ back) ∙ sym (insert-inserted x front (sorted back) d)
    ∙ ap (insert_extent x) (sym (sorted-append front back))

-- the extent differs from the extents before it
middle-apart : (front back : List Extent) (y : Extent) → Rising 128 (sorted (front ++ y ∷ back)) → Differs y front
middle-apart front back y r = differs-flip y front (apart-inserted 128 front (y ∷ []) (sorted back)
    (subst (Rising 128) (sorted-append front (y ∷ back)) r))

-- without it
middle-dropped : (front back : List Extent) (y : Extent) → Rising 128 (sorted (front ++ y ∷ back))
    → others (handle y) (sorted (front ++ y ∷ back)) ≡ sorted (front ++ back)
middle-dropped front back y r =
    let e = sorted-middle front back y (middle-apart front back y r) in
    let f = rising-insert 128 y (sorted (front ++ back)) (subst (Rising 128) e r) in
    ap (others (handle y)) e ∙ others-insert y (sorted (front ++ back)) f.differs

-- with an extent at the same offset
middle-resized : (front back : List Extent) (x y : Extent) → x.offset ≡ y.offset
    → Rising 128 (sorted (front ++ y ∷ back))
    → insert_extent x (others (handle x) (sorted (front ++ y ∷ back))) ≡ sorted (front ++ x ∷ back)
middle-resized front back x y e r =
    let d : Differs x front =
    subst (λ (n : ℕ). AllByRecursion (λ (z : Extent). n ≢ z.offset) front) (sym e) (middle-apart front back y r) in
    ap (λ (n : ℕ). insert_extent x (others (n + 16) (sorted (front ++ y ∷ back)))) e
    ∙ ap (insert_extent x) (middle-dropped front back y r) ∙ sym (sorted-middle front back x d)

-- the extents without a block, if there is one
abbrev pub left_out : Option Extent → List Extent → List Extent
left_out o zs = elim o as (λ _. List Extent) [ None ↦ zs | Some y ↦ others (handle y) zs ]

-- among other extents that were inserted
dropped : (front back ys : List Extent) (old : Option Extent)
    → Rising 128 (inserted ys (sorted (front ++ (option_to_list old ++ back))))
    → left_out old (inserted ys (sorted (front ++ (option_to_list old ++ back)))) ≡ inserted ys (sorted (front ++ back))
dropped front back ys None h = refl
dropped front back ys (Some y) h =
    let b = sorted (front ++ back) in
    let e =
    sorted-middle front back y (middle-apart front back y (rising-inserted 128 ys (sorted (front ++ y ∷ back)) h).0) in
    let apart = differs-flip y ys (apart-inserted 128 ys (y ∷ []) b (subst (λ zs. Rising 128 (inserted ys zs)) e h)) in
    let moved : inserted ys (sorted (front ++ y ∷ back)) ≡ insert_extent y (inserted ys b) =
    ap (inserted ys) e ∙ sym (insert-inserted y ys b apart) in
    let f = rising-insert 128 y (inserted ys b) (subst (Rising 128) moved h) in
    ap (others (handle y)) moved ∙ others-insert y (inserted ys b) f.differs

-- Another block is allocated, then these blocks, and then the old one is freed: the new block replaces it.
exchanged : (front back ys : List Extent) (old : Option Extent) (x : Extent)
    → Rising 128 (inserted ys (insert_extent x (sorted (front ++ (option_to_list old ++ back)))))
    → left_out old (inserted ys (insert_extent x (sorted (front ++ (option_to_list old ++ back))))) ≡ inserted ys
    (sorted (front ++ x ∷ back))
exchanged front back ys None x h =
    let d = AllByRecursion-front (λ (z : Extent). x.offset ≢ z.offset) front back
    (all_of-sorted (λ (z : Extent). x.offset ≢ z.offset) (front ++ back) (rising-insert 128 x (sorted (front ++ back))
    (rising-inserted 128 ys (insert_extent x (sorted (front ++ back))) h).0).differs) in
    ap (inserted ys) (sym (sorted-middle front back x d))
exchanged front back ys (Some y) x h =
    let b = sorted (front ++ back) in let s = sorted (front ++ y ∷ back) in
    let w = inserted ys (insert_extent x b) in
    let f = rising-insert 128 x s (rising-inserted 128 ys (insert_extent x s) h).0 in
    let e = sorted-middle front back y (middle-apart front back y f.rest) in
    let all = all_of-sorted (λ (z : Extent). x.offset ≢ z.offset) (front ++ y ∷ back) f.differs in
    let d = AllByRecursion-front (λ (z : Extent). x.offset ≢ z.offset) front (y ∷ back) all in
    let n : x.offset ≢ y.offset =
    (AllByRecursion-behind (λ (z : Extent). x.offset ≢ z.offset) front (y ∷ back) all).0 in
    let first : inserted ys (insert_extent x s) ≡ inserted ys (insert_extent y (insert_extent x b)) =
    ap (λ zs. inserted ys (insert_extent x zs)) e ∙ ap (inserted ys) (insert-comm x y b n) in
    let apart = differs-flip y ys (apart-inserted 128 ys (y ∷ []) (insert_extent x b) (subst (Rising 128) first h)) in
    let moved = first ∙ sym (insert-inserted y ys (insert_extent x b) apart) in
    let g = rising-insert 128 y w (subst (Rising 128) moved h) in
    ap (others (handle y)) moved ∙ others-insert y w g.differs ∙ ap (inserted ys) (sym (sorted-middle front back x d))

-- ---- the block of an index among the others

-- the extents before and after it
record Around (i : Index) (d : Directory) : Type 0 where
  front : List Extent
  back : List Extent
  all : (t : BackingArray) → (live (with_table_of i d t)).extents ≡ sorted (front ++ (table_extents t ++ back))

around : (i : Index) (d : Directory) → Around i d
unfolding live
around index.Named d = record { front = flat_map extents_of d.objects; back = table_extents d.unique; all = λ t. refl }
around index.Unique d = record {
  front = flat_map extents_of d.objects ++ table_extents d.named;
  back = [];
  all = λ t. ap (λ ts. sorted (flat_map extents_of d.objects ++ (table_extents d.named ++ ts)))
      (sym (append-nil (table_extents t)))
      ∙ ap sorted (sym (append_assoc (flat_map extents_of d.objects) (table_extents d.named) (table_extents t ++ [])));
}

-- the live set with these extents
abbrev of_extents : Directory → List Extent → LiveSet
of_extents d xs = record { size = d.size; extents = xs }

live-of_extents : (i : Index) (d : Directory) (t : BackingArray)
    → live (with_table_of i d t) ≡ of_extents d (live (with_table_of i d t)).extents
unfolding live
live-of_extents index.Named d t = refl
live-of_extents index.Unique d t = refl

-- as it is, and as the last one is
pub same-table : (i : Index) {d : Directory} → with_table_of i d (table_of i d) ≡ d
same-table index.Named = refl
same-table index.Unique = refl

-- if a table is set twice, the last one stays
pub last-table : (i : Index) (d : Directory) (t u : BackingArray)
    → with_table_of i (with_table_of i d t) u ≡ with_table_of i d u
last-table index.Named d t u = refl
last-table index.Unique d t u = refl

-- the table that was set is the index's
pub table-of : (i : Index) (d : Directory) {t : BackingArray} → table_of i (with_table_of i d t) ≡ t
table-of index.Named d = refl
table-of index.Unique d = refl

-- the live set of a directory, with the block of one of its indexes in its place
split : (i : Index) (d : Directory) (t : BackingArray)
    → live (with_table_of i d t) ≡ of_extents d (sorted ((around i d).front ++ (table_extents t ++ (around i d).back)))
split i d t = live-of_extents i d t ∙ ap (of_extents d) ((around i d).all t)

here : (i : Index) (d : Directory)
    → live d ≡ of_extents d (sorted ((around i d).front ++ (table_extents (table_of i d) ++ (around i d).back)))
here i d = ap live (sym (same-table i)) ∙ split i d (table_of i d)

leaving : (d : Directory) (o : Option Extent) (xs : List Extent)
    → without_link (of_extents d xs) (option_map handle o) ≡ of_extents d (left_out o xs)
leaving d None xs = refl
leaving d (Some y) xs = refl

-- all blocks except an index's, among other extents that were inserted
pub index-left_out : (i : Index) (d : Directory) (ys : List Extent) → Rising 128 (inserted ys (live d).extents)
    → left_out (table_of i d).extent (inserted ys (live d).extents) ≡ inserted ys
    (live (with_table_of i d no_backing)).extents
index-left_out i d ys h =
    let f : List Extent = (around i d).front in let b : List Extent = (around i d).back in
    let old : Option Extent = (table_of i d).extent in
    let e : (live d).extents ≡ sorted (f ++ (option_to_list old ++ b)) = ap (λ (l : LiveSet). l.extents) (here i d) in
    ap (λ zs. left_out old (inserted ys zs)) e ∙ dropped f b ys old (subst (λ zs. Rising 128 (inserted ys zs)) e h)
    ∙ ap (inserted ys) (sym ((around i d).all no_backing))

-- Another block is allocated for an index, then these blocks, and then the old one is freed.
pub live-moved_index : (i : Index) (d : Directory) (t : BackingArray) (x : Extent) (ys : List Extent)
    → t.extent ≡ Some x → IsTrue (is_proper (adding (added (live d) x) ys))
    → without_link (adding (added (live d) x) ys) (table_link (table_of i d)) ≡ adding (live (with_table_of i d t)) ys
live-moved_index i d t x ys e h =
    let f : List Extent = (around i d).front in let b : List Extent = (around i d).back in
    let old : Option Extent = (table_of i d).extent in let xs = sorted (f ++ (option_to_list old ++ b)) in
    let was : adding (added (live d) x) ys ≡ of_extents d (inserted ys (insert_extent x xs)) =
    ap (λ l. adding (added l x) ys) (here i d) in
    let r = live-rises (of_extents d (inserted ys (insert_extent x xs))) (subst (λ l. IsTrue (is_proper l)) was h) in
    let is = split i d t ∙ ap (λ (o : Option Extent). of_extents d (sorted (f ++ (option_to_list o ++ b)))) e in
    ap (λ l. without_link l (option_map handle old)) was ∙ leaving d old (inserted ys (insert_extent x xs))
    ∙ ap (of_extents d) (exchanged f b ys old x r) ∙ ap (λ l. adding l ys) (sym is)

-- the block of an index is released
pub live-no_index : (i : Index) (d : Directory) (t : BackingArray) {y : Extent} → (table_of i d).extent ≡ Some y
    → t.extent ≡ None → IsTrue (is_proper (live d)) → released (live d) (handle y) ≡ live (with_table_of i d t)
live-no_index i d t {y} e g h =
    let f : List Extent = (around i d).front in let b : List Extent = (around i d).back in
    let was = here i d ∙ ap (λ (o : Option Extent). of_extents d (sorted (f ++ (option_to_list o ++ b)))) e in
    let r = live-rises (of_extents d (sorted (f ++ y ∷ b))) (subst (λ l. IsTrue (is_proper l)) was h) in
    let is = split i d t ∙ ap (λ (o : Option Extent). of_extents d (sorted (f ++ (option_to_list o ++ b)))) g in
    ap (λ l. released l (handle y)) was ∙ ap (of_extents d) (middle-dropped f b y r) ∙ sym is

-- the index's block gets another length in place
pub live-resized_index : (i : Index) (d : Directory) (t : BackingArray) (x : Extent) {y : Extent}
    → (table_of i d).extent ≡ Some y → t.extent ≡ Some x → x.offset ≡ y.offset → IsTrue (is_proper (live d))
    → resized (live d) x ≡ live (with_table_of i d t)
live-resized_index i d t x {y} e g o h =
    let f : List Extent = (around i d).front in let b : List Extent = (around i d).back in
    let was = here i d ∙ ap (λ (o : Option Extent). of_extents d (sorted (f ++ (option_to_list o ++ b)))) e in
    let r = live-rises (of_extents d (sorted (f ++ y ∷ b))) (subst (λ l. IsTrue (is_proper l)) was h) in
    let is = split i d t ∙ ap (λ (o : Option Extent). of_extents d (sorted (f ++ (option_to_list o ++ b)))) g in
    ap (λ l. resized l x) was ∙ ap (of_extents d) (middle-resized f b x y o r) ∙ sym is

-- What the bytes denote after an index has an entry more or less, or another capacity.

-- ---- the bytes with the new entry

-- An index has another table, and the entries with the object's. Its old block is no longer in use. Of an object that
-- was made before, and of all that the directory had, nothing changed.
pub record IsEntered (i : Index) (old new : WindowState) (d : Directory) (t : BackingArray) (o : Object) : Type 0 where
  pub laid : EncodesLiveSet current new.bytes (adding (live (with_table_of i d t)) (extents_of o))
  pub blocks : AllByRecursion (SameBlock (bytes_of old.bytes) (bytes_of new.bytes))
      (inserted (extents_of o) (live (with_table_of i d no_backing)).extents)
  pub place : SameSurroundings old new
  pub front : SameBytes (bytes_of old.bytes) (bytes_of new.bytes) 0 24
  pub before : SameBytes (bytes_of old.bytes) (bytes_of new.bytes) 32 (index_at i)
  pub behind : SameBytes (bytes_of old.bytes) (bytes_of new.bytes) (index_at i + 24) 128
  pub stands : IsIndexOf new (index_at i) t (entries_of i (with_object d o))

-- the size stays with another table
pub same-size : (i : Index) (d : Directory) (t : BackingArray) → (with_table_of i d t).size ≡ d.size
same-size index.Named d t = refl
same-size index.Unique d t = refl

-- the objects stay with another table
pub same-objects : (i : Index) (d : Directory) (t : BackingArray) → (with_table_of i d t).objects ≡ d.objects
same-objects index.Named d t = refl
same-objects index.Unique d t = refl

-- the bytes have one index
pub has-one : (i : Index) {b : List ℕ} {d : Directory} → Denotes current b d → HasOne i (bytes_of b) d
has-one index.Named k = record { is = k.directory.named; at = k.named }
has-one index.Unique k = record { is = k.directory.unique; at = k.unique }

-- the words of an index are below offset 80
pub place-high : (i : Index) → index_at i + 24 ≤ 80
place-high index.Named = omega arith
place-high index.Unique = omega arith

-- the new bytes denote the directory with the object
pub entered-denotes : {i : Index} (a : WindowState) {b c : WindowState} {d : Directory} {t : BackingArray} {o : Object}
    → Denotes current a.bytes d → KeepsBlocks a b (live d).extents → IsTrue (is_object current o)
    → IsObjectAt (bytes_of b.bytes) o → o.class ≡ class_of_index i → object_at d (key_in i o) ≡ None
    → IsEntered i b c d t o → Denotes current c.bytes (with_object (with_table_of i d t) o)
entered-denotes {i} a {b} {c} {d} {t} {o} k keeps good at class none e =
    let A = bytes_of a.bytes in let B = bytes_of b.bytes in
    let C = bytes_of c.bytes in let low = place_behind i in
    let high = place-high i in let before = of_rest i (SameBlock A B) (table_of i d)
    (subst (λ e. AllByRecursion (SameBlock A B) (live e).extents) (sym (same-table i)) keeps.blocks) in
    let parts = all_of-inserted (SameBlock B C) (extents_of o) (live (with_table_of i d no_backing)).extents e.blocks in
    let after = of_rest i (SameBlock B C) no_backing parts.1 in
    let all : OfRest i (SameBlock A C) d = record {
      objects = blocks-trans A B C (flat_map extents_of d.objects) before.objects after.objects;
      other_table = blocks-trans A B C _ before.other_table after.other_table;
    } in
    let one = other-stays i (has-one (other i) k) (other-words i (SameBytes-trans A B C 32 (index_at i)
    (SameBytes-part A B 32 128 32 (index_at i) keeps.behind (omega arith) (omega arith)) e.before)
    (SameBytes-trans A B C (index_at i + 24) 128
    (SameBytes-part A B 32 128 (index_at i + 24) 128 keeps.behind (omega arith) (omega arith)) e.behind))
    all.other_table in
    let front : KeepsFront A C = record {
      front = SameBytes-trans A B C 0 24 keeps.front e.front;
      zeros = SameBytes-trans A B C 80 128 (SameBytes-part A B 32 128 80 128 keeps.behind (omega arith) (omega arith))
          (SameBytes-part B C (index_at i + 24) 128 80 128 e.behind (omega arith) (omega arith));
    } in
    denotes-put (with_table_of i d t) k (same-size i d t) (same-objects i d t) good e.laid front all.objects
    (has_both i (entered-own d o class none (has-one i k).is e.stands.slots e.stands.few e.stands.stands)
    (entered-other i t o class one)) (any_object-same current good parts.0 at)

-- ---- after `prepare`, the making of an object, and `add`

-- the index had a place left
pub entered-none : {i : Index} (a : WindowState) {b : WindowState} {c : WindowState} {d : Directory} {o : Object}
    (at : ℕ) → Denotes current a.bytes d → IsMade a b o → IsIndexOf b (index_at i) (table_of i d) (entries_of i d)
    → insert (entries_of i d) at (handle o.extent) ≡ entries_of i (with_object d o)
    → AddsEntry b c (index_at i) (table_of i d) (insert (entries_of i d) at (handle o.extent)) None
    → EncodesLiveSet current c.bytes (live_of b.bytes)
    → AddKeeps b c (index_at i) (table_of i d) None → IsEntered i b c d (table_of i d) o
entered-none {i} a {b} {c} {d} {o} at k m x e adds laid keeps =
    let ys = extents_of o in
    let same = taken-live a b (extents_of o) m.taken ∙ ap (λ l. adding l ys) (denotes-live current a.bytes d k) in
    let laid' : EncodesLiveSet current c.bytes (adding (live d) ys) =
    subst (EncodesLiveSet current c.bytes) same laid in
    let gone = ap (λ (l : LiveSet). beside_table (table_of i d) l.extents) same
    ∙ index-left_out i d ys (live-rises (adding (live d) ys) laid'.proper) in
    record {
      laid = subst (λ e. EncodesLiveSet current c.bytes (adding (live e) ys)) (sym (same-table i)) laid';
      blocks = subst (AllByRecursion (SameBlock (bytes_of b.bytes) (bytes_of c.bytes))) gone keeps.blocks;
      place = keeps.place;
      front = keeps.front;
      before = keeps.before;
      behind = keeps.behind;
      stands = subst (IsIndexOf c (index_at i) (table_of i d)) e adds;
    }

-- the table of an index that has grown into a block
abbrev pub grown_into : Index → Directory → Extent → BackingArray
grown_into i d x = record { capacity = grown_capacity (table_of i d).capacity; extent = Some x }

-- the index grew into a new block
pub entered-some : {i : Index} {a m b : WindowState} {c : WindowState} {d : Directory} {o : Object} (at : ℕ) {n h : ℕ}
    → Denotes current a.bytes d → (g : AllocatesOk current a m n IndexRole h) → IsMade m b o → IsIndexOf b (index_at i)
    (table_of i d) (entries_of i d) → insert (entries_of i d) at (handle o.extent) ≡ entries_of i (with_object d o)
    → AddsEntry b c (index_at i) (table_of i d) (insert (entries_of i d) at (handle o.extent)) (Some h)
    → EncodesLiveSet current c.bytes (without_index_block b (index_at i))
    → AddKeeps b c (index_at i) (table_of i d) (Some h)
    → IsEntered i b c d (grown_into i d g.extent) o
entered-some {i} {a} {m} {b} {c} {d} {o} at {n} {h} k g made x e adds laid keeps =
    let ys = extents_of o in let t = grown_into i d g.extent in
    let mid =
    allocated-live current a m n IndexRole h g ∙ ap (λ l. added l g.extent) (denotes-live current a.bytes d k) in
    let left : without_index_block b (index_at i) ≡ adding (live (with_table_of i d t)) ys =
    (λ j. without_link ((taken-live m b (extents_of o) made.taken ∙ ap (λ l. adding l ys) mid) j) (x.stands.link j))
    ∙ live-moved_index i d t g.extent ys refl
    (subst (λ l. IsTrue (is_proper (adding l ys))) mid made.taken.live.proper) in
    let laid' : EncodesLiveSet current c.bytes (adding (live (with_table_of i d t)) ys) =
    subst (EncodesLiveSet current c.bytes) left laid in
    let all : others h (without_index_block b (index_at i)).extents
    ≡ inserted ys (live (with_table_of i d no_backing)).extents =
    (λ j. others (g.at j) (left j).extents)
    ∙ (ap (λ (u : BackingArray). left_out u.extent (inserted ys (live (with_table_of i d t)).extents))
    (sym (table-of i d))
    ∙ index-left_out i (with_table_of i d t) ys (live-rises (adding (live (with_table_of i d t)) ys) laid'.proper)
    ∙ ap (λ e. inserted ys (live e).extents) (last-table i d t no_backing)) in
    let found = taken-found m b (extents_of o) h made.taken (allocated-found g) in
    record {
      laid = laid';
      blocks = subst (AllByRecursion (SameBlock (bytes_of b.bytes) (bytes_of c.bytes))) all keeps.blocks;
      place = keeps.place;
      front = keeps.front;
      before = keeps.before;
      behind = keeps.behind;
      stands = subst (IsIndexOf c (index_at i) t) e (subst (λ (y : Option Extent). IsIndexOf c (index_at i)
          (record { capacity = grown_capacity (table_of i d).capacity; extent = y })
          (insert (entries_of i d) at (handle o.extent))) found (subst (λ (n : ℕ). IsIndexOf c (index_at i)
          (record { capacity = grown_capacity n; extent = extent_at (live_of b.bytes) h })
          (insert (entries_of i d) at (handle o.extent))) x.stands.capacity adds));
    }

-- What the bytes denote where an index has another table, and where one object is gone.

-- ---- an index has another table

-- the index has this table in its words and its block, and all else stays
pub record IsTabled (i : Index) (old new : WindowState) (d : Directory) (t : BackingArray) : Type 0 where
  pub laid : EncodesLiveSet current new.bytes (live (with_table_of i d t))
  pub stands : IsIndexOf new (index_at i) t (entries_of i d)
  pub keeps : KeepsOutsideIndex old new (index_at i) (live (with_table_of i d no_backing)).extents

own-table : (i : Index) {m : Memory} (d : Directory) {t : BackingArray}
    → IsTrue (is_index t (objects_of i d) (order_of i))
    → IsIndexAt m (index_at i) t (entries_of i d) → HasOne i m (with_table_of i d t)
own-table index.Named d a b = record { is = a; at = b }
own-table index.Unique d a b = record { is = a; at = b }

other-table : (i : Index) {m : Memory} {d : Directory} (t : BackingArray) → HasOne (other i) m d
    → HasOne (other i) m (with_table_of i d t)
other-table index.Named t h = record { is = h.is; at = h.at }
other-table index.Unique t h = record { is = h.is; at = h.at }

-- the new bytes denote the directory with the table
pub tabled-denotes : {i : Index} {a c : WindowState} {d : Directory} {t : BackingArray} → Denotes current a.bytes d
    → IsTabled i a c d t → Denotes current c.bytes (with_table_of i d t)
tabled-denotes {i} {a} {c} {d} {t} k e =
    let A = bytes_of a.bytes in let C = bytes_of c.bytes in
    let high = place-high i in let rest = of_rest i (SameBlock A C) no_backing e.keeps.blocks in
    let one = other-stays i (has-one (other i) k) (other-words i e.keeps.before e.keeps.behind) rest.other_table in
    let few : length (objects_of i d) ≤ t.capacity = omega (arith, e.stands.few, handles-length (objects_of i d)) in
    let is = index-from t (objects_of i d) (order_of i) e.stands.slots few
    (index-parts (table_of i d) (objects_of i d) (order_of i) (has-one i k).is).2 in
    let both = has_both i (own-table i d is e.stands.stands) (other-table i t one) in
    let front : KeepsFront A C = record {
      front = e.keeps.front;
      zeros = SameBytes-part A C (index_at i + 24) 128 80 128 e.keeps.behind (omega arith) (omega arith);
    } in
    record {
      directory = record {
        proper = e.laid.proper;
        objects = subst (λ os. IsTrue (list_all (is_object current) os)) (sym (same-objects i d t)) k.directory.objects;
        by_offset = subst (λ os. IsTrue (rises_from 0 os)) (sym (same-objects i d t)) k.directory.by_offset;
        named = both.named;
        unique = both.unique;
      };
      header = subst (IsHeader current C) (sym (same-size i d t)) (header-same front.front front.zeros k.header);
      heap = e.laid;
      named = both.named_at;
      unique = both.unique_at;
      objects = subst (AllByRecursion (IsObjectAt C)) (sym (same-objects i d t))
          (any_objects-same current A C d.objects k.directory.objects rest.objects k.objects);
    }

-- ---- reserved

left-link : (l : LiveSet) (o : Option Extent) → (without_link l (option_map handle o)).extents ≡ left_out o l.extents
left-link l None = refl
left-link l (Some x) = refl

-- the table of this many places in a block
abbrev pub places_in : ℕ → Extent → BackingArray
places_in n x = record { capacity = n; extent = Some x }

-- the index has more places, and all else stays
pub reserved-tabled : {i : Index} {a c : WindowState} {d : Directory} {n : ℕ} → Denotes current a.bytes d
    → (r : ReservesIndexOk a c (index_at i) n) → IsTabled i a c d (places_in n r.extent)
reserved-tabled {i} {a} {c} {d} {n} k r =
    let x = denotes-index i a k in let now = denotes-live current a.bytes d k in
    let moved : without_link (added (live_of a.bytes) r.extent) (link_at (bytes_of a.bytes) (index_at i)) ≡ live
    (with_table_of i d (places_in n r.extent)) = (λ j. without_link (added (now j) r.extent) (x.stands.link j))
    ∙ live-moved_index i d (places_in n r.extent) r.extent [] refl (placed_is_proper (live d) (8 * n) IndexRole
    r.extent k.directory.proper (sym (ap (λ l. place l (8 * n) IndexRole) now) ∙ r.placed)) in
    let left : (without_index_block a (index_at i)).extents ≡ (live (with_table_of i d no_backing)).extents =
    (λ j. (without_link (now j) (x.stands.link j)).extents) ∙ left-link (live d) (table_of i d).extent
    ∙ index-left_out i d [] (live-rises (live d) k.directory.proper) in
    record {
      laid = subst (EncodesLiveSet current c.bytes) moved r.live;
      stands = r.index (table_of i d) (entries_of i d) x;
      keeps = subst (KeepsOutsideIndex a c (index_at i)) left r.keeps;
    }

-- ---- shrunk

if-offset : (b : Bool) (x : Extent) (n : ℕ) → (if b then record x { len = n } else x).offset ≡ x.offset
if-offset true x n = refl
if-offset false x n = refl

shorter-offset : (l : LiveSet) (x : Extent) (n : ℕ) → (shorter l x n).offset ≡ x.offset
unfolding shorter
shorter-offset l x n =
    if-offset (nat_lt (room n) x.len && (nat_lt 0 (gap_after l x) || nat_le (room n + 32) x.len)) x (room n)

module _ (i : Index) (d : Directory) (n : ℕ) (proper : IsTrue (is_proper (live d))) where
  -- the live set and the table, by whether there is a block, and capacity
  abbrev cut_live : Option Extent → Bool → LiveSet
  cut_live o b =
      elim o as (λ _. LiveSet) [
        | None ↦ live d
        | Some x ↦ if b then released (live d) (handle x) else resized (live d) (shorter (live d) x (8 * n))
      ]

  abbrev cut_to : Option Extent → Bool → BackingArray
  cut_to o b = if b then no_backing else record {
    capacity = n;
    extent = option_map (λ x. shorter (live d) x (8 * n)) o;
  }

  cut-cases : (o : Option Extent) (b : Bool) → (table_of i d).extent ≡ o → (o ≡ None → b ≡ true)
      → cut_live o b ≡ live (with_table_of i d (cut_to o b))
  cut-cases None true e f = sym (split i d no_backing ∙ ap (λ (o : Option Extent). of_extents d (sorted ((around i
      d).front ++ (option_to_list o ++ (around i d).back)))) (sym e) ∙ sym (here i d))
  cut-cases None false e f = absurd (let g : false ≡ true = f refl in cc)
  cut-cases (Some y) true e f = live-no_index i d no_backing e refl proper
  cut-cases (Some y) false e f = live-resized_index i d (cut_to (Some y) false) (shorter (live d) y (8 * n)) e refl
      (shorter-offset (live d) y (8 * n)) proper

  pub cut-live : ((table_of i d).extent ≡ None → (n == 0) ≡ true)
      → with_cut (live d) n (table_of i d) ≡ live (with_table_of i d (shrunk_backing (live d) 8 n (table_of i d)))
  unfolding shrunk_backing
  cut-live f = cut-cases (table_of i d).extent (n == 0) refl f

no-places : (t : BackingArray) (n : ℕ) → IsTrue (has_backing IndexRole 8 t) → n ≤ t.capacity → t.extent ≡ None
    → (n == 0) ≡ true
no-places t n h few e = eq-eqb n 0 (omega (
  arith,
  few,
  (eqb-true t.capacity 0 (subst (λ (o : Option Extent). IsTrue (elim o as (λ _. Bool) [
    | None ↦ t.capacity == 0
    | Some x ↦ nat_lt 0 t.capacity && serves x IndexRole (8 * t.capacity)
  ])) e h)),
))

-- the index has fewer places, and all else stays
pub shrunk-tabled : {i : Index} {a c : WindowState} {d : Directory}
    → Denotes current a.bytes d → ShrinksIndex a c (index_at i) (table_of i d) (entries_of i d)
    → IsTabled i a c d (shrunk_backing (live d) 8 (length (objects_of i d)) (table_of i d))
shrunk-tabled {i} {a} {c} {d} k r =
    let x = denotes-index i a k in let now = denotes-live current a.bytes d k in
    let len = handles-length (objects_of i d) in
    let laid : EncodesLiveSet current c.bytes (with_cut (live d) (length (objects_of i d)) (table_of i d)) =
    subst (EncodesLiveSet current c.bytes) (λ j. with_cut (now j) (len j) (table_of i d)) r.live in
    record {
      laid = subst (EncodesLiveSet current c.bytes) (cut-live i d (length (objects_of i d)) k.directory.proper
          (no-places (table_of i d) (length (objects_of i d)) x.slots (omega (arith, x.few, len)))) laid;
      stands = subst (λ (t : BackingArray). IsIndexOf c (index_at i) t (entries_of i d))
          (λ j. shrunk_backing (now j) 8 (len j) (table_of i d)) r.index;
      keeps = subst (KeepsOutsideIndex a c (index_at i))
          (ap (λ (l : LiveSet). beside_table (table_of i d) l.extents) now
          ∙ index-left_out i d [] (live-rises (live d) k.directory.proper)) r.keeps;
    }

-- ---- one object's blocks less

-- These blocks are no longer in use. Nothing in the others changed.
pub record IsGone (old new : WindowState) (xs : List Extent) : Type 0 where
  pub live : EncodesLiveSet current new.bytes (removing (live_of old.bytes) xs)
  pub keeps : KeepsBlocks old new (removing (live_of old.bytes) xs).extents

-- The entries of an index have become these, in the table that it had. Nothing else changed.
pub record IsLeft (i : Index) (old new : WindowState) (t : BackingArray) (hs : List ℕ) : Type 0 where
  pub live : EncodesLiveSet current new.bytes (live_of old.bytes)
  pub stands : IsIndexOf new (index_at i) t hs
  pub keeps : KeepsOutsideIndex old new (index_at i) (beside_table t (live_of old.bytes).extents)

-- ---- the two indexes then

-- the facts about both indexes of a directory without an object
record BothAt (m : Memory) (d : Directory) (o : Object) : Type 0 where
  pub named : IsIndexAt m 32 d.named (handles (objects_of index.Named (without_object d o)))
  pub unique : IsIndexAt m 56 d.unique (handles (objects_of index.Unique (without_object d o)))

both-at : (i : Index) {m : Memory} {d : Directory} (o : Object)
    → IsIndexAt m (index_at i) (table_of i d) (entries_of i (without_object d o))
    → IsIndexAt m (index_at (other i)) (table_of (other i) d) (entries_of (other i) (without_object d o)) → BothAt m d o
both-at index.Named o a b = record { named = a; unique = b }
both-at index.Unique o a b = record { named = b; unique = a }

-- the blocks of both indexes are among the others
table-in : (i : Index) (P : Extent → Type 0) (d : Directory) (o : Object) → OfEach P (without_object d o)
    → AllByRecursion P (table_extents (table_of i d))
table-in index.Named P d o e = e.named
table-in index.Unique P d o e = e.unique

-- the new bytes denote the directory without the object
pub removed-denotes : {i : Index} {a b c : WindowState} {d : Directory} (o : Object) → Denotes current a.bytes d
    → IsIn d o → o.class ≡ class_of_index i → IsLeft i a b (table_of i d) (entries_of i (without_object d o))
    → IsGone b c (extents_of o) → Denotes current c.bytes (without_object d o)
removed-denotes {i} {a} {b} {c} {d} o k f class e g =
    let A = bytes_of a.bytes in let B = bytes_of b.bytes in
    let C = bytes_of c.bytes in let low = place_behind i in
    let high = place-high i in let now = denotes-live current a.bytes d k in
    let mid = lay_out_one current b.bytes (live_of a.bytes) e.live ∙ now in
    let laid : EncodesLiveSet current c.bytes (removing (live d) (extents_of o)) =
    subst (λ l. EncodesLiveSet current c.bytes (removing l (extents_of o))) mid g.live in
    let others : removing (live_of b.bytes) (extents_of o) ≡ live (without_object d o) =
    ap (λ l. removing l (extents_of o)) mid ∙ sym (live-without d o f k.directory.proper) in
    let after =
    of_each (SameBlock B C) (subst (λ (l : LiveSet). AllByRecursion (SameBlock B C) l.extents) others g.keeps.blocks) in
    let before = of_rest i (SameBlock A B) no_backing (subst (AllByRecursion (SameBlock A B))
    (ap (λ (l : LiveSet). beside_table (table_of i d) l.extents) now
    ∙ index-left_out i d [] (live-rises (live d) k.directory.proper)) e.keeps.blocks) in
    let blocks = blocks-trans A B C (flat_map extents_of (remove_object (handle o.extent) d.objects))
    (all-less (SameBlock A B) (handle o.extent) d.objects before.objects) after.objects in
    let one = other-stays i (has-one (other i) k) (other-words i (SameBytes-trans A B C 32 (index_at i) e.keeps.before
    (SameBytes-part B C 32 128 32 (index_at i) g.keeps.behind (omega arith) (omega arith))) (SameBytes-trans A B C
    (index_at i + 24) 128 e.keeps.behind (SameBytes-part B C 32 128 (index_at i + 24) 128 g.keeps.behind (omega arith)
    (omega arith)))) (blocks-trans A B C (table_extents (table_of (other i) d)) before.other_table
    (table-in (other i) (SameBlock B C) d o after)) in
    let both = both-at i o (any_index-same e.stands.slots e.stands.few (SameBytes-part B C 32 128 (index_at i)
    (index_at i + 24) g.keeps.behind low (omega arith)) (table-in i (SameBlock B C) d o after) e.stands.stands)
    (subst (IsIndexAt C (index_at (other i)) (table_of (other i) d)) (sym (no-entry-removed (other i) d f.is
    (other_class i o class))) one.at) in
    let front : KeepsFront A C = record {
      front = SameBytes-trans A B C 0 24 e.keeps.front g.keeps.front;
      zeros = SameBytes-trans A B C 80 128 (SameBytes-part A B (index_at i + 24) 128 80 128 e.keeps.behind (omega arith)
          (omega arith)) (SameBytes-part B C 32 128 80 128 g.keeps.behind (omega arith) (omega arith));
    } in
    denotes-taken o k f laid front blocks both.named both.unique

-- The calls that give the indexes other capacities, as steps of the machine.

abbrev take_places : Index → Directory → ℕ → Plan
take_places i d n = Request (New IndexRole (8 * n)) (λ x. Reply Done (with_table_of i d (places_in n x)))

reserve-effect : (i : Index) (d : Directory) (n : ℕ) {b : Bool} → nat_le n (table_of i d).capacity ≡ b
    → effect d (reserve_of i n) ≡ (if b then Reply Done d else take_places i d n)
reserve-effect index.Named d n {b} e = ap (λ b. if b then Reply Done d else take_places index.Named d n) e
reserve-effect index.Unique d n {b} e = ap (λ b. if b then Reply Done d else take_places index.Unique d n) e

-- the capacity suffices, or a larger block is allocated
pub reserves : {s t : SegmentState} (view : s ≡ t) (b : IsSegment s.cut.bytes) {c : WindowState} (i : Index) {n : ℕ}
    → is_read_only t.mode ≡ false → KeepsRoomyIndex s.cut c (index_at i) n → Stepped s t c (reserve_of i n) Done
reserves {s} {t} view b {c} i {n} may r = stepped s t view b c (reserve_of i n) Done may
    (λ writing. by_case writing (cases_lt (capacity_at s.cut (index_at i)) n))
  where
    by_case : is_read_only s.mode ≡ false → (capacity_at s.cut (index_at i) < n) ⊎ (n ≤ capacity_at s.cut (index_at i))
        → TakesStep s (record s { cut = c }) (reserve_of i n) Done
    by_case writing (inr h) = subst (λ (x : WindowState). TakesStep s (record s { cut = x }) (reserve_of i n) Done)
        (sym (r.same h)) (by_no_change s (reserve_of i n) Done (λ d k.
        let x = denotes-index i s.cut k.denotes in
        step-reply s.mode d (reserve_of i n) Done d (open-writing s.mode (reserve_of i n) writing)
        (reserve-effect i d n (le-leb n (table_of i d).capacity (omega (arith, h, x.stands.capacity))))))
    by_case writing (inl h) =
        by_step (reserve_of i n) (record { mode = refl; place = (r.reserved h).keeps.place }) (λ d k.
        let x = denotes-index i s.cut k.denotes in let t = r.reserved h in
        lands (with_table_of i d (places_in n t.extent)) (record {
          is = step-plan s.mode d (reserve_of i n) (open-writing s.mode (reserve_of i n) writing)
              (reserve-effect i d n (lt-leb n (table_of i d).capacity (omega (arith, h, x.stands.capacity))))
              ∙ perform-new d (live d) IndexRole (8 * n) (λ y. Reply Done (with_table_of i d (places_in n y))) t.extent
              (sym (ap (λ l. place l (8 * n) IndexRole) (denotes-live current s.cut.bytes d k.denotes)) ∙ t.placed);
          denotes = tabled-denotes k.denotes (reserved-tabled k.denotes t);
        }))

-- or their block is refused
pub reserves-none : {s t : SegmentState} (view : s ≡ t) (b : IsSegment s.cut.bytes) {c : WindowState} (i : Index)
    (n : ℕ) → is_read_only t.mode ≡ false → capacity_at s.cut (index_at i) < n
    → AllocatesNoSpace s.cut c (8 * n) IndexRole → Stepped s t c (reserve_of i n) (Refused NoSpace)
reserves-none {s} {t} view b {c} i n may h r = stepped s t view b c (reserve_of i n) (Refused NoSpace) may (λ writing.
    subst (λ (x : WindowState). TakesStep s (record s { cut = x }) (reserve_of i n) (Refused NoSpace)) (sym r.same)
    (by_no_change s (reserve_of i n) (Refused NoSpace) (λ d k.
    let x = denotes-index i s.cut k.denotes in
    step-plan s.mode d (reserve_of i n) (open-writing s.mode (reserve_of i n) writing)
    (reserve-effect i d n (lt-leb n (table_of i d).capacity (omega (arith, h, x.stands.capacity))))
    ∙ perform-no_space d (live d) IndexRole (8 * n) (λ y. Reply Done (with_table_of i d (places_in n y)))
    (sym (ap (λ l. place l (8 * n) IndexRole) (denotes-live current s.cut.bytes d k.denotes)) ∙ r.none))))

-- ---- both shrunk

-- an index is shrunk, whichever directory the bytes denote
abbrev pub Shrinks : Index → WindowState → WindowState → Type 0
Shrinks i a c = (t : BackingArray) (hs : List ℕ) → IsIndexOf a (index_at i) t hs → ShrinksIndex a c (index_at i) t hs

-- an index of a directory with no more places than entries
abbrev shrunk : Index → Directory → Directory
shrunk i d = with_table_of i d (shrunk_backing (live d) 8 (length (objects_of i d)) (table_of i d))

pub shrunk-denotes : (i : Index) {a c : WindowState} {d : Directory} → Denotes current a.bytes d → Shrinks i a c
    → Denotes current c.bytes (shrunk i d)
shrunk-denotes i {a} {d} k r =
    tabled-denotes k (shrunk-tabled k (r (table_of i d) (entries_of i d) (denotes-index i a k)))

-- both indexes fit their entries: the step of the directory
pub shrinks : {s t : SegmentState} (view : s ≡ t) (g : IsSegment s.cut.bytes) {b c : WindowState} → is_read_only t.mode
    ≡ false → Shrinks index.Named s.cut b → Shrinks index.Unique b c → Stepped s t c asked.ShrinkIndexes Done
shrinks {s} {t} view g {b} {c} may n u =
    let k0 = g.1.denotes in let e0 = shrunk index.Named g.0 in
    stepped s t view g c asked.ShrinkIndexes Done may (λ writing. by_step asked.ShrinkIndexes (record {
      mode = refl;
      place = SameSurroundings-trans s.cut b c (n (table_of index.Named g.0) (entries_of index.Named g.0) (denotes-index
          index.Named s.cut k0)).keeps.place (u (table_of index.Unique e0) (entries_of index.Unique e0) (denotes-index
          index.Unique b (shrunk-denotes index.Named k0 n))).keeps.place;
    }) (λ d k. lands (shrunk index.Unique (shrunk index.Named d)) (record {
      is = step-reply s.mode d asked.ShrinkIndexes Done (shrunk_indexes d)
          (open-writing s.mode asked.ShrinkIndexes writing) refl;
      denotes = shrunk-denotes index.Unique (shrunk-denotes index.Named k.denotes n) u;
    })))

-- the other index stays if one is shrunk
pub shrunk-index : {a b : WindowState} → IsSegment a.bytes → Shrinks index.Named a b
    → HasIndex b (index_at index.Unique)
shrunk-index {b} g n =
    let e = shrunk index.Named g.0 in
    record {
      table = table_of index.Unique e;
      handles = entries_of index.Unique e;
      index = denotes-index index.Unique b (shrunk-denotes index.Named g.1.denotes n);
    }
