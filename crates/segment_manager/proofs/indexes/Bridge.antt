-- Objects in order and their places: the object at a place, the object with a key, and inserting or removing an object.
use Rattle.segment_manager.proofs.Common as common
use Rattle.seg_types.specs.Names as names
use Rattle.std.specs.List.Sorted.{IsStrictlySortedBy}
use Rattle.raw_region.proofs.Facts.{AllByRecursion-filter, first, second}
use Rattle.seg_index.specs.Lookups.{order}
use Rattle.seg_index.specs.Sorted.{AreSortedHandles, HasSortKey, HasSortedIndex, index_of, sort_key_end, sort_order}
use Rattle.segment_manager.proofs.blocks.InUse.{IsInUse, all-both, all-each, named-in_use, objects-in_use}
use Rattle.segment_manager.proofs.blocks.InUse.{unique-in_use}
use Rattle.segment_manager.proofs.directory.{Frame.handles-length, Frame.object-roomy, IndexedParts.ordered-without}
use Rattle.segment_manager.proofs.directory.AnyDirectory.{denotes-heap, denotes-live}
use Rattle.segment_manager.proofs.directory.LiveSet.{IsIn, remove-behind, remove-here}
use Rattle.segment_manager.proofs.indexes.Indexes.{Says, by_kind-strict, by_name-strict, code-of, index-parts}
use Rattle.segment_manager.proofs.indexes.Indexes.{kind-less, kinds-apart, kinds-class, kinds-say, name-less, name-of}
use Rattle.segment_manager.proofs.indexes.Indexes.{named-more, names-apart, names-class, names-say, one-removed}
use Rattle.segment_manager.proofs.indexes.Indexes.{rises-above, same-itself, unique-more}
use Rattle.segment_manager.proofs.objects.Heads.{entries_say_objects, entry-name_len, good-name, good_name-short}
use Rattle.segment_manager.proofs.objects.RankedPairs.{IsRanked, IsStrict, Pairwise, all-found, all-ordered}
use Rattle.segment_manager.proofs.objects.RankedPairs.{all_of-insert_by, each-true, found-filter, insert_by-behind}
use Rattle.segment_manager.proofs.objects.RankedPairs.{insert_by-front, ordered-pairwise, ranked-sym, rises-rest}
use common.{Absent, AllByRecursion, Bool, Class, Code, Denotes, Directory, Entry, FindsPosition, Found, IfSome, Index}
use common.{IsDirectory, IsEntry, IsIndexAt, IsIndexOf, IsObjectAt, IsTrue, Kind, Less, List, Memory, Name, Named}
use common.{NamedClass, None, Object, ObjectRole, Seeks, Some, Unique, UniqueClass, WindowState, [], and_from}
use common.{and_parts, ap, arith, by_kind, by_name, bytes_of, cases_lt, class_of_index, code_of, cond, cond-false}
use common.{cond-true, current, entries_of, eq-eqb, extent_at, false, false≢true, filter, find, fold, handle, handles}
use common.{has_good_name, has_key, holds, index_at, inl, inr, insert, insert_by, is_class, is_good_value, is_index}
use common.{is_kind_of, is_object, kind_of, le-leb, length, live, nat_cmp, ne_eqb, none-some, object_at, object_len}
use common.{objects_of, order_of, refl, remove, remove_object, rises, rises_from, same_Some, same_bytes, same_kind}
use common.{same_role, serves, slice_cmp, slice_get, subst, suc, sym, table_of, true, with_object, without_object, zero}
use common.{ℕ, ◌%◌, ◌&&◌, ◌+◌, ◌<◌, ◌==◌, ◌∙◌, ◌∷◌, ◌≡◌, ◌≢◌, ◌≤◌, ◌⊎◌}

-- ---- the object at a place

-- the object of an entry
pub record StandsAt (os : List Object) (j g : ℕ) : Type 0 where
  pub object : Object
  pub is : slice_get os j ≡ Some object
  pub handle : g ≡ object.extent.offset + 16

-- the object of an entry is at its place
pub stands-at : (os : List Object) (j : ℕ) {g : ℕ} → slice_get (handles os) j ≡ Some g → StandsAt os j g
stands-at [] j {g} e = absurd (none-some g e)
stands-at (o ∷ os) zero {g} e = record { object = o; is = refl; handle = sym (same_Some (handle o.extent) g e) }
stands-at (o ∷ os) (suc j) e = let s = stands-at os j e in record { object = s.object; is = s.is; handle = s.handle }

-- the entry of an object is its handle
pub at-handle : (os : List Object) (j : ℕ) {o : Object} → slice_get os j ≡ Some o
    → slice_get (handles os) j ≡ Some (handle o.extent)
at-handle [] j {o} e = absurd (none-some o e)
at-handle (p ∷ ps) zero {o} e = ap (λ (q : Object). Some (handle q.extent)) (same_Some p o e)
at-handle (p ∷ ps) (suc j) e = at-handle ps j e

-- a property of each object holds at each place, and conversely
pub all-at : (P : Object → Type 0) (os : List Object) (j : ℕ) {o : Object} → AllByRecursion P os
    → slice_get os j ≡ Some o → P o
all-at P [] j {o} a e = absurd (none-some o e)
all-at P (p ∷ ps) zero {o} a e = subst P (same_Some p o e) a.0
all-at P (p ∷ ps) (suc j) a e = all-at P ps j a.1 e

-- a property at each place holds for all
pub at-all : (P : Object → Type 0) (os : List Object) → ((j : ℕ) (o : Object) → slice_get os j ≡ Some o → P o)
    → AllByRecursion P os
at-all P [] k = tt
at-all P (p ∷ ps) k = (k 0 p refl, at-all P ps (λ j o e. k (suc j) o e))

-- ---- in order

-- each is so related to all after it
abbrev pub Ascends : (Object → Object → Type 0) → List Object → Type 0
Ascends R [] = Unit {0}
Ascends R (o ∷ os) = AllByRecursion (R o) os × Ascends R os

below-rest : (lt : Object → Object → Bool) → IsStrict lt → (o p : Object) (ps : List Object) → lt o p ≡ true
    → IsTrue (rises lt (p ∷ ps)) → AllByRecursion (λ q. lt o q ≡ true) (p ∷ ps)
below-rest lt s o p [] e h = (e, tt)
below-rest lt s o p (q ∷ qs) e h = (
  e,
  below-rest lt s o q qs (s.trans o p q e (first (lt p q) (rises lt (q ∷ qs)) h))
      (second (lt p q) (rises lt (q ∷ qs)) h),
)

-- a list that rises as a test ascends as a property
pub rises-ascends : (lt : Object → Object → Bool) → IsStrict lt → (os : List Object) → IsTrue (rises lt os)
    → Ascends (λ o p. lt o p ≡ true) os
rises-ascends lt s [] h = tt
rises-ascends lt s (o ∷ []) h = (tt, tt)
rises-ascends lt s (o ∷ p ∷ ps) h = (
  below-rest lt s o p ps (first (lt o p) (rises lt (p ∷ ps)) h) (second (lt o p) (rises lt (p ∷ ps)) h),
  rises-ascends lt s (p ∷ ps) (second (lt o p) (rises lt (p ∷ ps)) h),
)

-- two places
pub ascends-at : (R : Object → Object → Type 0) (os : List Object) (i j : ℕ) {o p : Object} → Ascends R os → i < j
    → slice_get os i ≡ Some o → slice_get os j ≡ Some p → R o p
ascends-at R [] i j {o} a l e f = absurd (none-some o e)
ascends-at R (q ∷ qs) i zero a l e f = absurd (omega (arith, l))
ascends-at R (q ∷ qs) zero (suc j) {o} {p} a l e f = subst (λ r. R r p) (same_Some q o e) (all-at (R q) qs j a.0 f)
ascends-at R (q ∷ qs) (suc i) (suc j) a l e f = ascends-at R qs i j a.1 (omega (arith, l)) e f

-- ---- the one with a key

-- an object of the class that passes is the first that does, if no two objects pass
module _ (t : Object → Bool) (lt : Object → Object → Bool) (c : Class)
    (other : (p : Object) → is_class c p ≡ false → t p ≡ false) where
  -- an object that passes is found
  abbrev IsFoundIn : List Object → Object → Type 0
  IsFoundIn os o = t o ≡ true → find t os ≡ Some o

  own-if : ((o p : Object) → IsRanked lt o p → t o ≡ true → t p ≡ false) → (p : Object) (ps fs : List Object) (b : Bool)
      → is_class c p ≡ b → AllByRecursion (IsFoundIn ps) fs → Pairwise lt (cond b (p ∷ fs) fs)
      → AllByRecursion (IsFoundIn (p ∷ ps)) (cond b (p ∷ fs) fs)
  own-if apart p ps fs true e ih w = (
    λ h. cond-true (t p) (Some p) (find t ps) h,
    all-both (IsRanked lt p) (IsFoundIn ps) (IsFoundIn (p ∷ ps))
        (λ o r k h. cond-false (t p) (Some p) (find t ps) (apart o p (ranked-sym lt p o r) h) ∙ k h) fs w.0 ih,
  )
  own-if apart p ps fs false e ih w = all-each (IsFoundIn ps) (IsFoundIn (p ∷ ps))
      (λ o k h. cond-false (t p) (Some p) (find t ps) (other p e) ∙ k h) fs ih

  rest-if : (p : Object) (fs : List Object) (b : Bool) → Pairwise lt (cond b (p ∷ fs) fs) → Pairwise lt fs
  rest-if p fs true w = w.1
  rest-if p fs false w = w

  -- each object of a class is found by its handle
  pub own-found : ((o p : Object) → IsRanked lt o p → t o ≡ true → t p ≡ false) → (os : List Object)
      → Pairwise lt (filter (is_class c) os) → AllByRecursion (IsFoundIn os) (filter (is_class c) os)
  own-found apart [] w = tt
  own-found apart (p ∷ ps) w = own-if apart p ps (filter (is_class c) ps) (is_class c p) refl
      (own-found apart ps (rest-if p (filter (is_class c) ps) (is_class c p) w)) w

  none-if : (p : Object) (ps fs : List Object) (b : Bool) → is_class c p ≡ b → (AllByRecursion (λ o. t o ≡ false) fs
      → find t ps ≡ None) → AllByRecursion (λ o. t o ≡ false) (cond b (p ∷ fs) fs) → find t (p ∷ ps) ≡ None
  none-if p ps fs true e k a = cond-false (t p) (Some p) (find t ps) a.0 ∙ k a.1
  none-if p ps fs false e k a = cond-false (t p) (Some p) (find t ps) (other p e) ∙ k a

  -- if no object of the class passes, none is found
  pub none-found : (os : List Object) → AllByRecursion (λ o. t o ≡ false) (filter (is_class c) os) → find t os ≡ None
  none-found [] a = refl
  none-found (p ∷ ps) a = none-if p ps (filter (is_class c) ps) (is_class c p) refl (none-found ps) a

class-if : (c : Class) (p : Object) (fs : List Object) (b : Bool) → is_class c p ≡ b
    → AllByRecursion (λ o. is_class c o ≡ true) fs → AllByRecursion (λ o. is_class c o ≡ true) (cond b (p ∷ fs) fs)
class-if c p fs true e a = (e, a)
class-if c p fs false e a = a

-- the objects of a class have this class
pub of-class : (c : Class) (os : List Object) → AllByRecursion (λ o. is_class c o ≡ true) (filter (is_class c) os)
of-class c [] = tt
of-class c (p ∷ ps) = class-if c p (filter (is_class c) ps) (is_class c p) refl (of-class c ps)

-- a property of each object in order holds for each inserted object
pub all_of-ordered : (P : Object → Type 0) (lt : Object → Object → Bool) (acc os : List Object)
    → AllByRecursion P (fold (λ os o. insert_by lt o os) acc os) → AllByRecursion P acc × AllByRecursion P os
all_of-ordered P lt acc [] a = (a, tt)
all_of-ordered P lt acc (o ∷ os) a =
    let rest = all_of-ordered P lt (insert_by lt o acc) os a in
    let one = all_of-insert_by P lt o acc rest.0 in (one.1, (one.0, rest.1))

-- ---- inserting an object at its place, and removing it

-- the place of an object among others: the objects before it come first
abbrev pub IsPlaceOf : (Object → Object → Bool) → Object → List Object → ℕ → Type 0
IsPlaceOf lt o os i =
    (j : ℕ) (p : Object) → slice_get os j ≡ Some p → (j < i → lt o p ≡ false) × (i ≤ j → lt o p ≡ true)

-- inserting an entry is inserting its object
pub insert-at : (lt : Object → Object → Bool) (o : Object) (os : List Object) (i : ℕ) → i ≤ length os
    → IsPlaceOf lt o os i → insert (handles os) i (handle o.extent) ≡ handles (insert_by lt o os)
insert-at lt o [] zero l k = refl
insert-at lt o [] (suc i) l k = absurd (omega (arith, l))
insert-at lt o (p ∷ ps) zero l k = sym (ap handles (insert_by-front lt o p ps ((k 0 p refl).1 (omega arith))))
insert-at lt o (p ∷ ps) (suc i) l k = ap (λ hs. handle p.extent ∷ hs) (insert-at lt o ps i (omega (arith, l))
    (λ j q e. ((λ f. (k (suc j) q e).0 (omega (arith, f))), (λ f. (k (suc j) q e).1 (omega (arith, f))))))
    ∙ sym (ap handles (insert_by-behind lt o p ps ((k 0 p refl).0 (omega arith))))

-- removing an entry is removing its object
pub remove-at : {o : Object} (os : List Object) (i : ℕ) → slice_get os i ≡ Some o
    → ((j : ℕ) (p : Object) → j < i → slice_get os j ≡ Some p → handle o.extent ≢ handle p.extent)
    → remove (handles os) i ≡ handles (remove_object (handle o.extent) os)
remove-at {o} [] i e k = absurd (none-some o e)
remove-at {o} (p ∷ ps) zero e k =
    sym (ap handles (remove-here (handle o.extent) p ps (ap (λ (q : Object). handle q.extent) (sym (same_Some p o e)))))
remove-at {o} (p ∷ ps) (suc i) e k = ap (λ hs. handle p.extent ∷ hs) (remove-at ps i e (λ j q l f. k (suc j) q
    (omega (arith, l)) f)) ∙ sym (ap handles (remove-behind (handle o.extent) p ps (k 0 p (omega arith) refl)))

-- Bytes that denote a directory contain its two indexes: each is in its heap with its block, and its entries lead to
-- rising keys.

-- ---- an index of a directory

-- the order of an index is strict
pub order-strict : (i : Index) → IsStrict (order_of i)
order-strict Named = by_name-strict
order-strict Unique = by_kind-strict

-- a directory has both indexes
pub directory-index : {format : ℕ} (i : Index) {d : Directory} → IsDirectory format d
    → IsTrue (is_index (table_of i d) (objects_of i d) (order_of i))
directory-index Named h = h.named
directory-index Unique h = h.unique

-- a property of each object holds for each in an index
pub all-in : (P : Object → Type 0) (i : Index) (d : Directory) → AllByRecursion P d.objects
    → AllByRecursion P (objects_of i d)
all-in P i d a = all-ordered P (class_of_index i) (order_of i) d.objects
    (AllByRecursion-filter P (is_class (class_of_index i)) d.objects a)

-- ---- the indexes in the bytes

all-handles : (P : ℕ → Type 0) (os : List Object) → AllByRecursion (λ (o : Object). P (handle o.extent)) os
    → AllByRecursion P (handles os)
all-handles P [] a = tt
all-handles P (o ∷ os) a = (a.0, all-handles P os a.1)

pub entries-few : {format : ℕ} (i : Index) {d : Directory} → IsDirectory format d
    → length (entries_of i d) ≤ (table_of i d).capacity
entries-few i {d} h = omega (
  arith,
  handles-length (objects_of i d),
  (index-parts (table_of i d) (objects_of i d) (order_of i) (directory-index i h)).1,
)

in_use-some : (i : Index) {d : Directory} {format : ℕ} → IsDirectory format d
    → IfSome (table_of i d).extent (λ x. extent_at (live d) (handle x) ≡ Some x)
in_use-some Named {d} h = named-in_use d h.proper
in_use-some Unique {d} h = unique-in_use d h.proper

stands-in : (i : Index) (c : WindowState) {d : Directory} → Denotes current c.bytes d
    → IsIndexAt (bytes_of c.bytes) (index_at i) (table_of i d) (entries_of i d)
stands-in Named c k = k.named
stands-in Unique c k = k.unique

-- the index is in its heap
pub denotes-index : (i : Index) (c : WindowState) {d : Directory} → Denotes current c.bytes d
    → IsIndexOf c (index_at i) (table_of i d) (entries_of i d)
denotes-index i c {d} k = record {
  heap = denotes-heap current c.bytes d k;
  stands = stands-in i c k;
  slots = (index-parts (table_of i d) (objects_of i d) (order_of i) (directory-index i k.directory)).0;
  few = entries-few i k.directory;
  held = subst (λ l. IfSome (table_of i d).extent (λ x. extent_at l (handle x) ≡ Some x))
      (sym (denotes-live current c.bytes d k)) (in_use-some i k.directory);
  whole = all-handles (λ h. h % 16 ≡ 0) (objects_of i d) (all-in (λ (o : Object). handle o.extent % 16 ≡ 0) i d
      (all-each (λ (o : Object). IsInUse (live d) o.extent) (λ (o : Object). handle o.extent % 16 ≡ 0)
      (λ o u. u.whole) d.objects (objects-in_use d k.directory.proper)));
}

-- ---- each entry leads to a key

-- the facts about an object
record IsKnown (c : WindowState) (d : Directory) (o : Object) : Type 0 where
  live_block : IsInUse (live d) o.extent
  good : IsTrue (is_object current o)
  at : IsObjectAt (bytes_of c.bytes) o

all-known : (c : WindowState) {d : Directory} → Denotes current c.bytes d → AllByRecursion (IsKnown c d) d.objects
all-known c {d} k = all-both (λ (o : Object). IsInUse (live d) o.extent) (λ (o : Object). IsTrue (is_object current o)
    × IsObjectAt (bytes_of c.bytes) o) (IsKnown c d) (λ o u g. record { live_block = u; good = g.0; at = g.1 })
    d.objects (objects-in_use d k.directory.proper) (all-both (λ o. IsTrue (is_object current o))
    (IsObjectAt (bytes_of c.bytes)) (λ (o : Object). IsTrue (is_object current o) × IsObjectAt (bytes_of c.bytes) o)
    (λ o g a. (g, a)) d.objects (each-true (is_object current) d.objects k.directory.objects) k.objects)

-- a block of an object holds its sort key
pub key-fits : (i : Index) {m : Memory} (o : Object) → IsTrue (is_object current o) → IsObjectAt m o
    → IsTrue (serves o.extent ObjectRole (sort_key_end i m (handle o.extent)))
key-fits i {m} o good at =
    let x = o.extent in let room = (object-roomy current o good).room in
    let two = and_parts (same_role x.role ObjectRole) (holds x (object_len o.name o.value))
    (second (has_good_name current o && is_kind_of current (kind_of o.value) && is_good_value o.value)
    (serves x ObjectRole (object_len o.name o.value)) good) in
    let n = sort_key_end i m (handle x) in
    and_from (same_role x.role ObjectRole) (holds x n) two.0 (le-leb (n + 16) x.len (by_index i room))
  where
    by_index : (j : Index) → object_len o.name o.value + 16 ≤ o.extent.len
        → sort_key_end j m (handle o.extent) + 16 ≤ o.extent.len
    by_index Named room =
        let same = entry-name_len m o (good_name-short current o (good-name current o good)) at in omega arith
    by_index Unique room = omega arith

-- ---- and the keys rise

-- each entry of an index agrees with the words of its object
pub entries-in : (i : Index) (c : WindowState) {d : Directory} → Denotes current c.bytes d
    → AllByRecursion (IsEntry (bytes_of c.bytes)) (objects_of i d)
entries-in i c {d} k = all-in (IsEntry (bytes_of c.bytes)) i d (entries_say_objects current c.bytes d k)

-- the objects of an index ascend
pub objects-ascend : {format : ℕ} (i : Index) {d : Directory} → IsDirectory format d
    → Ascends (λ o p. order_of i o p ≡ true) (objects_of i d)
objects-ascend i {d} h = rises-ascends (order_of i) (order-strict i) (objects_of i d)
    (index-parts (table_of i d) (objects_of i d) (order_of i) (directory-index i h)).2

two-less : (i : Index) {m : Memory} {o p : Object} → IsEntry m o → IsEntry m p → order_of i o p ≡ true
    → sort_order i m (handle o.extent) (handle p.extent) ≡ Less
two-less Named {m} {o} {p} a b l = (λ j. slice_cmp nat_cmp (a.name j) (b.name j)) ∙ name-less o p l
two-less Unique {m} {o} {p} a b l = (λ j. nat_cmp (a.code j) (b.code j)) ∙ kind-less o p l

less-all : (i : Index) (m : Memory) (o : Object) (os : List Object) → IsEntry m o → AllByRecursion (IsEntry m) os
    → AllByRecursion (λ p. order_of i o p ≡ true) os
    → AllByRecursion (λ h. sort_order i m (handle o.extent) h ≡ Less) (handles os)
less-all i m o [] a es l = tt
less-all i m o (p ∷ ps) a es l = (two-less i a es.0 l.0, less-all i m o ps a es.1 l.1)

sorted-handles : (i : Index) (m : Memory) (os : List Object) → AllByRecursion (IsEntry m) os
    → Ascends (λ o p. order_of i o p ≡ true) os → IsStrictlySortedBy (sort_order i m) (handles os)
unfolding IsStrictlySortedBy
sorted-handles i m [] es a = tt
sorted-handles i m (o ∷ os) es a = (less-all i m o os es.0 es.1 a.0, sorted-handles i m os es.1 a.1)

-- the entries of an index are sorted
pub denotes-sorted : (i : Index) (c : WindowState) {d : Directory} → Denotes current c.bytes d
    → AreSortedHandles c i (entries_of i d)
denotes-sorted i c {d} k = record {
  keys = all-handles (HasSortKey c i) (objects_of i d) (all-in (λ (o : Object). HasSortKey c i (handle o.extent)) i d
      (all-each (IsKnown c d) (λ (o : Object). HasSortKey c i (handle o.extent)) (λ o u. record {
        extent = o.extent;
        found = ap (λ l. extent_at l (handle o.extent)) (denotes-live current c.bytes d k) ∙ u.live_block.found;
        fits = key-fits i o u.good u.at;
      }) d.objects (all-known c k)));
  rises = sorted-handles i (bytes_of c.bytes) (objects_of i d) (entries-in i c k) (objects-ascend i k.directory);
}

-- the bytes have a sorted index
pub denotes-sorted_index : (i : Index) {c : WindowState} {d : Directory} → Denotes current c.bytes d
    → HasSortedIndex c i
denotes-sorted_index i {c} {d} k = record {
  table = table_of i d;
  handles = entries_of i d;
  index = record { index = denotes-index i c k; sorted = denotes-sorted i c k };
}

-- The relation between a directory and the two indexes of its heap: the meaning of a look-up, and the entry of an
-- object that is constructed or destroyed. The contents of the bytes are in HeldIndexes.

-- the object of the key is the object of the entry at a place
pub record IsEntryFor (i : Index) (d : Directory) (key : names.Key) (at : ℕ) : Type 0 where
  pub object : Object
  pub is : object_at d key ≡ Some object
  pub stands : slice_get (objects_of i d) at ≡ Some object
  pub leads : slice_get (entries_of i d) at ≡ Some (handle object.extent)

-- or that no object has the key
pub record IsNoEntryFor (i : Index) (d : Directory) (key : names.Key) (at : ℕ) : Type 0 where
  pub none : object_at d key ≡ None
  pub within : at ≤ length (entries_of i d)

-- ---- keys that an index looks up

-- at most one object in the index's order has the key, and no object of another class
record IsKeyIn (i : Index) (key : names.Key) : Type 0 where
  apart : (o p : Object) → IsRanked (order_of i) o p → has_key key o ≡ true → has_key key p ≡ false
  other : (p : Object) → is_class (class_of_index i) p ≡ false → has_key key p ≡ false

name-key : (name : List ℕ) → IsKeyIn Named (names.ByName name)
name-key name = record { apart = names-apart name; other = names-class name }

kind-of-key : (k : Kind) → IsKeyIn Unique (names.ByKind k)
kind-of-key k = record { apart = kinds-apart k; other = kinds-class k }

sought-key : (i : Index) (e : Entry) (key : names.Key) → Seeks i e key → IsKeyIn i key
sought-key Named (Name s) (names.ByName name) q = name-key name
sought-key Unique (Code n) (names.ByKind k) q = kind-of-key k
sought-key i e key q = absurd q

says-of : (i : Index) {m : Memory} (e : Entry) (key : names.Key) {o : Object} → Seeks i e key → IsEntry m o
    → is_class (class_of_index i) o ≡ true → Says (order_of i) (has_key key) o (order m e (handle o.extent))
says-of Named (Name s) (names.ByName name) {o} q a c = subst (Says (order_of Named) (has_key (names.ByName name)) o)
    (λ j. slice_cmp nat_cmp (sym a.name j) (sym q j)) (names-say name o c)
says-of Unique (Code n) (names.ByKind k) {o} q a c = subst (Says (order_of Unique) (has_key (names.ByKind k)) o)
    (λ j. nat_cmp (sym a.code j) (sym q j)) (kinds-say k o c)
says-of i e key q a c = absurd q

-- ---- the facts about each entry

in-class : (i : Index) (d : Directory) → AllByRecursion (λ o. is_class (class_of_index i) o ≡ true) (objects_of i d)
in-class i d = all-ordered (λ o. is_class (class_of_index i) o ≡ true) (class_of_index i) (order_of i) d.objects
    (of-class (class_of_index i) d.objects)

-- an object with the key is the object of the key
in-found : {format : ℕ} {i : Index} {d : Directory} {key : names.Key} → IsDirectory format d → IsKeyIn i key
    → AllByRecursion (λ o. has_key key o ≡ true → object_at d key ≡ Some o) (objects_of i d)
in-found {i} {d} {key} h k = all-ordered (λ o. has_key key o ≡ true → object_at d key ≡ Some o) (class_of_index i)
    (order_of i) d.objects (own-found (has_key key) (order_of i) (class_of_index i) k.other k.apart d.objects
    (ordered-pairwise (class_of_index i) (order_of i) (order-strict i) d.objects (index-parts (table_of i d)
    (objects_of i d) (order_of i) (directory-index i h)).2))

-- each is found by its handle
pub each-by_handle : (n : ℕ) (os : List Object) → IsTrue (rises_from n os)
    → AllByRecursion (λ (o : Object). find (has_key (names.ByHandle (handle o.extent))) os ≡ Some o) os
each-by_handle n [] h = tt
each-by_handle n (p ∷ ps) h = (
  cond-true (handle p.extent == handle p.extent) (Some p) (find (has_key (names.ByHandle (handle p.extent))) ps)
      (eq-eqb (handle p.extent) (handle p.extent) refl),
  all-both (λ (o : Object). p.extent.offset + 1 ≤ o.extent.offset)
      (λ (o : Object). find (has_key (names.ByHandle (handle o.extent))) ps ≡ Some o)
      (λ (o : Object). find (has_key (names.ByHandle (handle o.extent))) (p ∷ ps) ≡ Some o) (λ o above e.
      cond-false (handle o.extent == handle p.extent) (Some p) (find (has_key (names.ByHandle (handle o.extent))) ps)
      (ne_eqb (handle o.extent) (handle p.extent) (λ f. omega (arith, above, f))) ∙ e)
      ps (rises-above (p.extent.offset + 1) ps (rises-rest n p ps h))
      (each-by_handle (p.extent.offset + 1) ps (rises-rest n p ps h)),
)

-- each object of an index is found by its handle
pub in-handles : {format : ℕ} (i : Index) {d : Directory} → IsDirectory format d
    → AllByRecursion (λ (o : Object). object_at d (names.ByHandle (handle o.extent)) ≡ Some o) (objects_of i d)
in-handles i {d} h = all-in (λ (o : Object). object_at d (names.ByHandle (handle o.extent)) ≡ Some o) i d
    (each-by_handle 0 d.objects h.by_offset)

-- the object of a key is found by its handle too
pub by-handle : {format : ℕ} {d : Directory} (key : names.Key) {o : Object} → IsDirectory format d
    → object_at d key ≡ Some o → object_at d (names.ByHandle (handle o.extent)) ≡ Some o
by-handle {d} key {o} h e = all-found (λ (p : Object). object_at d (names.ByHandle (handle p.extent)) ≡ Some p)
    (has_key key) d.objects o (each-by_handle 0 d.objects h.by_offset) e

-- ---- the meaning of a look-up

-- the key is of the sort of the index
pub seeks-sort : (i : Index) (e : Entry) (key : names.Key) → Seeks i e key → index_of e ≡ i
seeks-sort Named (Name s) (names.ByName name) q = refl
seeks-sort Unique (Code n) (names.ByKind k) q = refl
seeks-sort i e key q = absurd q

module _ (i : Index) (c : WindowState) {d : Directory} (e : Entry) (key : names.Key) (k : Denotes current c.bytes d)
    (q : Seeks i e key) where
  says-at : (j : ℕ) {o : Object} → slice_get (objects_of i d) j ≡ Some o
      → Says (order_of i) (has_key key) o (order (bytes_of c.bytes) e (handle o.extent))
  says-at j f = says-of i e key q (all-at (IsEntry (bytes_of c.bytes)) (objects_of i d) j (entries-in i c k) f)
      (all-at (λ p. is_class (class_of_index i) p ≡ true) (objects_of i d) j (in-class i d) f)

  -- the entry of the key
  pub lookup-found : (at : ℕ) → FindsPosition (bytes_of c.bytes) e (entries_of i d) (Found at) → IsEntryFor i d key at
  lookup-found at p =
      let s = stands-at (objects_of i d) at p.1 in
      record {
        object = s.object;
        is = all-at (λ o. has_key key o ≡ true → object_at d key ≡ Some o) (objects_of i d) at
            (in-found k.directory (sought-key i e key q)) s.is
            ((says-at at s.is).equal (ap (order (bytes_of c.bytes) e) (sym s.handle) ∙ p.2));
        stands = s.is;
        leads = at-handle (objects_of i d) at s.is;
      }

  absent-one : (at j : ℕ) {o : Object} → FindsPosition (bytes_of c.bytes) e (entries_of i d) (Absent at)
      → slice_get (objects_of i d) j ≡ Some o → (j < at) ⊎ (at ≤ j) → has_key key o ≡ false
  absent-one at j {o} p f (inl l) =
      (says-at j f).less ((p.1 j (handle o.extent) (at-handle (objects_of i d) j f)).0 l)
  absent-one at j {o} p f (inr l) =
      (says-at j f).greater ((p.1 j (handle o.extent) (at-handle (objects_of i d) j f)).1 l)

  -- no entry has the key, and no object
  pub lookup-absent : {at : ℕ} → FindsPosition (bytes_of c.bytes) e (entries_of i d) (Absent at)
      → IsNoEntryFor i d key at
  lookup-absent {at} p = record {
    none = none-found (has_key key) (order_of i) (class_of_index i) (sought-key i e key q).other d.objects
        (all_of-ordered (λ o. has_key key o ≡ false) (order_of i) [] (filter (is_class (class_of_index i)) d.objects)
        (at-all (λ o. has_key key o ≡ false) (objects_of i d) (λ j o f. absent-one at j p f (cases_lt j at)))).1;
    within = p.0;
  }

-- ---- one entry more

-- the place where an object with the key belongs, by the look-up
place-of : (i : Index) (c : WindowState) {d : Directory} (e : Entry) (key : names.Key) (at : ℕ) (o : Object)
    → Denotes current c.bytes d → Seeks i e key → FindsPosition (bytes_of c.bytes) e (entries_of i d) (Absent at)
    → has_key key o ≡ true → IsPlaceOf (order_of i) o (objects_of i d) at
place-of i c {d} e key at o k q p h j r f =
    let says = says-at i c e key k q j f in
    let each = p.1 j (handle r.extent) (at-handle (objects_of i d) j f) in
    ((λ l. says.behind o h (each.0 l)), (λ l. says.ahead o h (each.1 l)))

-- the objects of an index with one more
objects-more : (i : Index) (d : Directory) (e : Entry) (key : names.Key) (o : Object) → Seeks i e key → has_key key o
    ≡ true → object_at d key ≡ None → objects_of i (with_object d o) ≡ insert_by (order_of i) o (objects_of i d)
objects-more Named d (Name s) (names.ByName name) o q h n = named-more d o (first (is_class NamedClass o)
    (same_bytes name o.name) h) (subst (λ bs. object_at d (names.ByName bs) ≡ None) (name-of o h) n)
objects-more Unique d (Code x) (names.ByKind k) o q h n = unique-more d o (first (is_class UniqueClass o)
    (same_kind k (kind_of o.value)) h) (subst (λ code. find (λ (p : Object). is_class UniqueClass p && (code == code_of
    (kind_of p.value))) d.objects ≡ None) (code-of k o h) n)
objects-more i d e key o q h n = absurd q

-- an object with the key is inserted at the place that the look-up returns
pub entry-added : (i : Index) (c : WindowState) {d : Directory} (e : Entry) (key : names.Key) (at : ℕ) (o : Object)
    → Denotes current c.bytes d → Seeks i e key → FindsPosition (bytes_of c.bytes) e (entries_of i d) (Absent at)
    → has_key key o ≡ true → insert (entries_of i d) at (handle o.extent) ≡ entries_of i (with_object d o)
entry-added i c {d} e key at o k q p h =
    let away = lookup-absent i c e key k q p in
    insert-at (order_of i) o (objects_of i d) at (omega (arith, away.within, handles-length (objects_of i d)))
    (place-of i c e key at o k q p h) ∙ sym (ap handles (objects-more i d e key o q h away.none))

-- ---- one entry less

-- the objects of an index without one
objects-less : {format : ℕ} (i : Index) {d : Directory} (o : Object) → IsDirectory format d → IsIn d o
    → is_class (class_of_index i) o ≡ true
    → objects_of i (without_object d o) ≡ remove_object (handle o.extent) (objects_of i d)
objects-less Named {d} o h f c = one-removed NamedClass by_name by_name-strict d o f c h.by_offset d.named h.named
objects-less Unique {d} o h f c = one-removed UniqueClass by_kind by_kind-strict d o f c h.by_offset d.unique h.unique

-- all objects have different handles
handles-differ : {format : ℕ} (i : Index) {d : Directory} (at j : ℕ) {o p : Object} → IsDirectory format d
    → slice_get (objects_of i d) at ≡ Some o → j < at → slice_get (objects_of i d) j ≡ Some p
    → handle o.extent ≢ handle p.extent
handles-differ i {d} at j {o} {p} h f l g e =
    let os = objects_of i d in
    let mine =
    all-at (λ (r : Object). object_at d (names.ByHandle (handle r.extent)) ≡ Some r) os at (in-handles i h) f in
    let other =
    all-at (λ (r : Object). object_at d (names.ByHandle (handle r.extent)) ≡ Some r) os j (in-handles i h) g in
    let same = same_Some o p (sym mine ∙ ap (λ n. object_at d (names.ByHandle n)) e ∙ other) in
    let before = ascends-at (λ o p. order_of i o p ≡ true) os j at (objects-ascend i h) l g f in
    let itself : order_of i o o ≡ true = subst (λ r. order_of i r o ≡ true) (sym same) before in
    false≢true (sym ((order-strict i).asym o o itself) ∙ itself)

-- an object is removed with its entry
pub entry-removed : (i : Index) {d : Directory} (at : ℕ) {o : Object} → IsDirectory current d
    → slice_get (objects_of i d) at ≡ Some o → remove (entries_of i d) at ≡ entries_of i (without_object d o)
entry-removed i {d} at {o} h e =
    let f : IsIn d o = record {
      is = all-at (λ (p : Object). object_at d (names.ByHandle (handle p.extent)) ≡ Some p) (objects_of i d) at
          (in-handles i h) e;
    } in
    remove-at (objects_of i d) at e (λ j p l g. handles-differ i at j h e l g) ∙ sym (ap handles (objects-less i o h f
    (all-at (λ p. is_class (class_of_index i) p ≡ true) (objects_of i d) at (in-class i d) e)))

-- an object of another class is removed without an entry
pub no-entry-removed : (i : Index) (d : Directory) {o : Object} → object_at d (names.ByHandle (handle o.extent)) ≡ Some
    o → is_class (class_of_index i) o ≡ false → entries_of i (without_object d o) ≡ entries_of i d
no-entry-removed Named d {o} f e = ap handles (ordered-without NamedClass by_name d o (record { is = f }) e)
no-entry-removed Unique d {o} f e = ap handles (ordered-without UniqueClass by_kind d o (record { is = f }) e)

-- ---- an object's own key

own-key : {format : ℕ} {i : Index} {d : Directory} {key : names.Key} {o : Object} → IsDirectory format d → IsKeyIn i key
    → object_at d (names.ByHandle (handle o.extent)) ≡ Some o → is_class (class_of_index i) o ≡ true
    → has_key key o ≡ true → object_at d key ≡ Some o
own-key {i} {d} {key} {o} h k f c t = found-filter (λ r. has_key key r ≡ true → object_at d key ≡ Some r)
    (class_of_index i) (handle o.extent) d.objects o (record { is = f }) c (own-found (has_key key) (order_of i)
    (class_of_index i) k.other k.apart d.objects (ordered-pairwise (class_of_index i) (order_of i) (order-strict i)
    d.objects (index-parts (table_of i d) (objects_of i d) (order_of i) (directory-index i h)).2)) t

module _ {format : ℕ} {d : Directory} {o : Object} (h : IsDirectory format d)
    (f : object_at d (names.ByHandle (handle o.extent)) ≡ Some o) where
  -- a named object is the one of its name
  pub own-name : is_class NamedClass o ≡ true → object_at d (names.ByName o.name) ≡ Some o
  own-name c = own-key h (name-key o.name) f c
      (and_from (is_class NamedClass o) (same_bytes o.name o.name) c (same-itself o.name))

  -- a unique object is the one of its kind
  pub own-kind : is_class UniqueClass o ≡ true → object_at d (names.ByKind (kind_of o.value)) ≡ Some o
  own-kind c = own-key h (kind-of-key (kind_of o.value)) f c
      (and_from (is_class UniqueClass o) (same_kind (kind_of o.value) (kind_of o.value)) c
      (eq-eqb (code_of (kind_of o.value)) (code_of (kind_of o.value)) refl))
