-- Blocks in use, their links, and the entries of an index.
use Rattle.seg_index.proofs.Common as common
use common.{◌≡◌, refl, ◌+◌, List, arith, ◌==◌, Some, among, zero, None, holds, BackingArray, Lookup, Found, Absent}
use common.{order, subst, slice_get, cases_lt, unwrap_or, and_parts, same_role, room-less, IsIndexOf, FindsPositionIn}
use common.{IndexRole, ℕ, ◌≤◌, [], ◌∷◌, WindowState, sym, ap, ◌∙◌, suc, ◌-◌, ◌*◌, ◌%◌, ◌<◌, inl, inr, Entry, length}
use common.{IsTrue, Option, Extent, handle, IsHeap, get_or, insert, remove, Memory, nat_lt, others, serves}
use common.{AllByRecursion, none-some, length-insert, length-remove, slice_get-get_or, comparisons_in, beside_table}
use common.{same_Some, extent_at, has_room, live-rises, room_block, KeepTargets, cases_Bool, found-room, is_live_in}
use common.{current, live_of, link_at, AllLinksLead, AreLinksTo, leb-true, bytes_of, word_at, order_at, index_at}
use common.{AreKeys, Less, ap₂}
use Rattle.seg_index.proofs.entries.HeapChanges.{changed_used, changed_touches, InHeader}
use Rattle.seg_index.proofs.{keys.Order.none_left, keys.Order.same_comparisons, Common.Ordering}
use Rattle.std.proofs.lemmas.List.Edits.{get_or-insert_above, get_or-insert_at, get_or-insert_below}
use Rattle.std.proofs.lemmas.List.Edits.{get_or-remove_above, get_or-remove_below}
use Rattle.std.proofs.{lemmas.Bool.eqb-true, lemmas.Option.slice_get_within, lemmas.Map.Keys.Less-from_sorted}
use Rattle.std.specs.{List.list_any, Prelude.find, List.Sorted.IsStrictlySortedBy}
use Rattle.seg_index.specs.Lookups.{IsKeyReadable, FindsPosition}
use Rattle.seg_index.specs.declared.index.Index.TheVariants.{Named, Unique}
use Rattle.seg_index.specs.{Comparing.comparisons, declared.index.Index.Index}
use Rattle.seg_index.specs.Sorted.{HasSortKey, HasSortedIndex, index_of, sort_key_end, sort_order}
use Rattle.block_tags.specs.declared.tile.Role.TheVariants.{Object as ObjectRole}
use Rattle.best_fit.proofs.Laws.{changed-room}

-- the first extent of a handle
abbrev pub first : ℕ → List Extent → Option Extent
first h xs = find (λ (y : Extent). handle y == h) xs

-- a property of all extents holds for the one that is found
pub all_found : (P : Extent → Type 0) (h : ℕ) (xs : List Extent) (x : Extent) → AllByRecursion P xs
    → first h xs ≡ Some x → P x
all_found P h [] x a e = absurd (none-some x e)
all_found P h (y ∷ ys) x a e = elim (cases_Bool (handle y == h)) [
  | inl here ↦ let f = rw here at e in subst P (same_Some y x f) a.0
  | inr other ↦ all_found P h ys x a.1 (rw other at e)
]

-- a block that is found is in use
pub found_live : (h : ℕ) (xs : List Extent) (x : Extent) → first h xs ≡ Some x
    → IsTrue (list_any (λ (y : Extent). handle y == h) xs)
found_live h [] x e = absurd (none-some x e)
found_live h (y ∷ ys) x e = elim (cases_Bool (handle y == h)) [
  | inl here ↦ rw here refl
  | inr other ↦ rw other (found_live h ys x (rw other at e))
]

-- a block that is found has its handle
pub found_handle : (c : WindowState) (h : ℕ) (x : Extent)
    → IsHeap current c.bytes → extent_at (live_of c.bytes) h ≡ Some x → handle x ≡ h
found_handle c h x heap e = let l = live_of c.bytes in (among 128 h x l.extents (live-rises l heap.proper) e).at

-- a block is after the header, and at least 16 bytes follow it
pub record Inside (c : WindowState) (h n : ℕ) : Type 0 where
  pub low : 144 ≤ h
  pub ends : h + n + 16 ≤ length c.bytes
  pub small : length c.bytes ≤ 1073741824

-- a block with room lies in the window
pub inside : (c : WindowState) (h n : ℕ) → IsHeap current c.bytes → IsTrue (has_room (live_of c.bytes) h n)
    → Inside c h n
inside c h n heap has =
    let r = room_block c h n heap has in let b = r.block in let low = b.low in
    let ends = b.inside in
    record { low = omega arith; ends = omega arith; small = omega arith }

pub block_small : (c : WindowState) (h n : ℕ) → IsHeap current c.bytes → IsTrue (has_room (live_of c.bytes) h n)
    → h + n + 16 ≤ 1073741824
block_small c h n heap has = let s = inside c h n heap has in omega (arith, s.ends, s.small)

pub block_ends : (c : WindowState) (h n : ℕ) → IsHeap current c.bytes → IsTrue (has_room (live_of c.bytes) h n)
    → h + n + 16 ≤ length c.bytes
block_ends c h n heap has = (inside c h n heap has).ends

-- ---- the links of a block, and the handles that they lead to

-- an element of a list of which all hold
pub all_at : (P : ℕ → Type 0) (hs : List ℕ) (j h : ℕ) → AllByRecursion P hs → slice_get hs j ≡ Some h → P h
all_at P [] j h a e = absurd (none-some h e)
all_at P (x ∷ xs) zero h a e = subst P (same_Some x h e) a.0
all_at P (x ∷ xs) (suc j) h a e = all_at P xs j h a.1 e

all_from : (P : ℕ → Type 0) (hs : List ℕ) → ((k : ℕ) → k < length hs → P (get_or hs k 0)) → AllByRecursion P hs
all_from P [] f = tt
all_from P (x ∷ xs) f = (f 0 (omega arith), all_from P xs (λ k l. f (suc k) (omega arith)))

-- the link of an entry
pub links_at : (m : Memory) (at : ℕ) (hs : List ℕ) (j h : ℕ) → AreLinksTo m at hs → slice_get hs j ≡ Some h
    → link_at m (at + 8 * j) ≡ Some h
links_at m at [] j h a e = absurd (none-some h e)
links_at m at (x ∷ xs) zero h a e = let z : at + 8 * 0 ≡ at = omega arith in ap (λ k. link_at m k) z ∙ a.0 ∙ e
links_at m at (x ∷ xs) (suc j) h a e =
    let z : at + 8 * suc j ≡ at + 8 + 8 * j = omega arith in ap (λ k. link_at m k) z ∙ links_at m (at + 8) xs j h a.1 e

-- the link at an index is that of the entry
pub entry_here : (m : Memory) (at : ℕ) (hs : List ℕ) (j : ℕ) → AreLinksTo m at hs → j < length hs
    → link_at m (at + 8 * j) ≡ Some (get_or hs j 0)
entry_here m at hs j a l = links_at m at hs j (get_or hs j 0) a (slice_get-get_or hs j 0 l)

pub at_links : (m : Memory) (at : ℕ) (hs : List ℕ) (j h : ℕ) → AreLinksTo m at hs → j < length hs
    → link_at m (at + 8 * j) ≡ Some h → slice_get hs j ≡ Some h
at_links m at hs j h a l e = slice_get-get_or hs j 0 l ∙ sym (entry_here m at hs j a l) ∙ e

links_from : (m : Memory) (at : ℕ) (hs : List ℕ)
    → ((k : ℕ) → k < length hs → link_at m (at + 8 * k) ≡ Some (get_or hs k 0)) → AreLinksTo m at hs
links_from m at [] f = tt
links_from m at (x ∷ xs) f =
    let z : at ≡ at + 8 * 0 = omega arith in (
      ap (λ k. link_at m k) z ∙ f 0 (omega arith),
      links_from m (at + 8) xs (λ k l.
          let e : at + 8 + 8 * k ≡ at + 8 * suc k = omega arith in ap (λ j. link_at m j) e ∙ f (suc k) (omega arith)),
    )

-- links that were moved are the same entries
pub links_moved : (m m' : Memory) (at to : ℕ) (hs : List ℕ) → AreLinksTo m at hs
    → ((k : ℕ) → k < length hs → link_at m' (to + 8 * k) ≡ link_at m (at + 8 * k)) → AreLinksTo m' to hs
links_moved m m' at to hs a f = links_from m' to hs (λ k l. f k l ∙ entry_here m at hs k a l)

-- a run of the links of an index leads to multiples of 16
pub links_lead : {m : Memory} (block i n : ℕ) (hs : List ℕ) → AreLinksTo m block hs
    → AllByRecursion (λ h. h % 16 ≡ 0) hs → i + n ≤ length hs → AllLinksLead m (block + 8 * i) n
links_lead {m} block i n hs a whole within = record {
  each = λ k l.
      let e : block + 8 * i + 8 * k ≡ block + 8 * (i + k) = omega arith in
      let s = slice_get-get_or hs (i + k) 0 (omega arith) in (
        get_or hs (i + k) 0,
        ap (λ j. link_at m j) e ∙ entry_here m block hs (i + k) a (omega arith),
        all_at (λ h. h % 16 ≡ 0) hs (i + k) (get_or hs (i + k) 0) whole s,
      );
}

-- ---- one more, and one less

-- a property of each element at its place, after one is inserted
insert_each : (P : ℕ → ℕ → Type 0) (hs : List ℕ) (i h : ℕ) → i ≤ length hs → ((k : ℕ) → k < i → P k (get_or hs k 0))
    → P i h → ((k : ℕ) → i ≤ k → k < length hs → P (k + 1) (get_or hs k 0))
    → (k : ℕ) → k < length (insert hs i h) → P k (get_or (insert hs i h) k 0)
insert_each P hs i h within low here high k l = elim (cases_lt k i) [
  | inl before ↦ subst (P k) (sym (get_or-insert_below hs i h 0 k before within)) (low k before)
  | inr not_before ↦ elim (cases_lt i k) [
    | inl behind ↦
        let long = length-insert hs i h within in let e : k - 1 + 1 ≡ k = omega arith in
        subst (λ j. P j (get_or (insert hs i h) j 0)) e (subst (P (k - 1 + 1)) (sym (get_or-insert_above hs i h 0
        (k - 1) (omega arith) within)) (high (k - 1) (omega arith) (omega arith)))
    | inr not_behind ↦
        let e : i ≡ k = omega arith in
        subst (λ j. P j (get_or (insert hs i h) j 0)) e (subst (P i) (sym (get_or-insert_at hs i h 0 within)) here)
  ]
]

-- a property of all entries and of a new one holds after it is inserted
pub insert_all : (P : ℕ → Type 0) (hs : List ℕ) (i h : ℕ) → i ≤ length hs → AllByRecursion P hs → P h
    → AllByRecursion P (insert hs i h)
insert_all P hs i h within a p =
    let each : (k : ℕ) → k < length hs → P (get_or hs k 0) =
    λ k l. all_at P hs k (get_or hs k 0) a (slice_get-get_or hs k 0 l) in
    all_from P (insert hs i h) (insert_each (λ k x. P x) hs i h within (λ k l. each k (omega arith)) p (λ k l. each k))

-- the links after a place make way for a new one
pub insert_links : {m m' : Memory} (from to i h : ℕ) (hs : List ℕ) → AreLinksTo m from hs → i ≤ length hs
    → ((k : ℕ) → k < i → link_at m' (to + 8 * k) ≡ link_at m (from + 8 * k)) → link_at m' (to + 8 * i) ≡ Some h
    → KeepTargets m m' (from + 8 * i) (to + 8 * i + 8) (length hs - i) → AreLinksTo m' to (insert hs i h)
insert_links {m} {m'} from to i h hs a within low here tail =
    links_from m' to (insert hs i h) (insert_each (λ k x. link_at m' (to + 8 * k) ≡ Some x) hs i h within
    (λ k l. low k l ∙ entry_here m from hs k a (omega arith)) here (λ k f l.
    let p : to + 8 * (k + 1) ≡ to + 8 * i + 8 + 8 * (k - i) = omega arith in
    let q : from + 8 * i + 8 * (k - i) ≡ from + 8 * k = omega arith in
    ap (λ j. link_at m' j) p ∙ tail.each (k - i) (omega arith) ∙ ap (λ j. link_at m j) q ∙ entry_here m from hs k a l))

-- a property of each element at its place, after one is removed
remove_each : (P : ℕ → ℕ → Type 0) (hs : List ℕ) (i : ℕ) → i < length hs → ((k : ℕ) → k < i → P k (get_or hs k 0))
    → ((k : ℕ) → i ≤ k → k + 1 < length hs → P k (get_or hs (k + 1) 0))
    → (k : ℕ) → k < length (remove hs i) → P k (get_or (remove hs i) k 0)
remove_each P hs i within low high k l = elim (cases_lt k i) [
  | inl before ↦ subst (P k) (sym (get_or-remove_below hs i 0 k before within)) (low k before)
  | inr behind ↦
      let long = length-remove hs i within in
      subst (P k) (sym (get_or-remove_above hs i 0 k behind within)) (high k behind (omega arith))
]

-- a property of all entries holds after one is removed
pub remove_all : (P : ℕ → Type 0) (hs : List ℕ) (i : ℕ) → i < length hs → AllByRecursion P hs
    → AllByRecursion P (remove hs i)
remove_all P hs i within a =
    let each : (k : ℕ) → k < length hs → P (get_or hs k 0) =
    λ k l. all_at P hs k (get_or hs k 0) a (slice_get-get_or hs k 0 l) in
    all_from P (remove hs i) (remove_each (λ k x. P x) hs i within (λ k l. each k (omega arith)) (λ k f. each (k + 1)))

-- the links after a place close up
pub remove_links : {m m' : Memory} (at i : ℕ) (hs : List ℕ) → AreLinksTo m at hs → i < length hs
    → ((k : ℕ) → k < i → link_at m' (at + 8 * k) ≡ link_at m (at + 8 * k))
    → KeepTargets m m' (at + (8 * i + 8)) (at + 8 * i) (length hs - i - 1) → AreLinksTo m' at (remove hs i)
remove_links {m} {m'} at i hs a within low tail = links_from m' at (remove hs i) (remove_each (λ k x. link_at m'
    (at + 8 * k) ≡ Some x) hs i within (λ k l. low k l ∙ entry_here m at hs k a (omega arith)) (λ k f l.
    let p : at + 8 * k ≡ at + 8 * i + 8 * (k - i) = omega arith in
    let q : at + (8 * i + 8) + 8 * (k - i) ≡ at + 8 * (k + 1) = omega arith in
    ap (λ j. link_at m' j) p ∙ tail.each (k - i) (omega arith) ∙ ap (λ j. link_at m j) q
    ∙ entry_here m at hs (k + 1) a l))

-- ---- the place of an index

-- the words of an index lie in the header
pub place_small : (i : Index) → index_at i + 24 ≤ 128
place_small Named = omega arith
place_small Unique = omega arith

-- the words of an index lie after the heap's word
pub place_behind : (i : Index) → 32 ≤ index_at i
place_behind Named = omega arith
place_behind Unique = omega arith

-- the words of an index lie in the header
pub in_header : (i : Index) → InHeader (index_at i)
in_header i = record { behind = place_behind i; small = place_small i }

-- ---- its block

-- a property of each table without a block, and of each with one, holds for all
pub table_cases : (P : BackingArray → Type 0) → ((cap : ℕ) → P (record { capacity = cap; extent = None }))
    → ((cap : ℕ) (x : Extent) → P (record { capacity = cap; extent = Some x })) → (t : BackingArray) → P t
table_cases P none some t = elim t.extent as (λ o. P (record { capacity = t.capacity; extent = o })) [
  | None ↦ none t.capacity
  | Some x ↦ some t.capacity x
]

-- an index with a block: its place, and its entries
pub record Placed (c : WindowState) (at : ℕ) (t : BackingArray) (hs : List ℕ) (block : ℕ) : Type 0 where
  pub index : IsIndexOf c at t hs
  pub extent : Extent
  pub is : t.extent ≡ Some extent
  pub begins : handle extent ≡ block
  pub found : extent_at (live_of c.bytes) block ≡ Some extent
  pub room : IsTrue (has_room (live_of c.bytes) block (8 * t.capacity))
  pub inside : Inside c block (8 * t.capacity)
  pub links : AreLinksTo (bytes_of c.bytes) block hs

-- the block of an index has room for its capacity
pub long_enough : {c : WindowState} {at cap : ℕ} {x : Extent} {hs : List ℕ}
    → IsIndexOf c at (record { capacity = cap; extent = Some x }) hs → 8 * cap + 16 ≤ x.len
long_enough {cap = cap} {x} i =
    let two = and_parts (nat_lt 0 cap) (serves x IndexRole (8 * cap)) i.slots in
    leb-true (8 * cap + 16) x.len (and_parts (same_role x.role IndexRole) (holds x (8 * cap)) two.1).1

-- the block behind an index's link is the index's
pub placed : {c : WindowState} {at : ℕ} {t : BackingArray} {hs : List ℕ} (block : ℕ) → IsIndexOf c at t hs
    → link_at (bytes_of c.bytes) at ≡ Some block → Placed c at t hs block
placed {c} {at} {t} {hs} block i leads = table_cases (λ u. IsIndexOf c at u hs → Placed c at u hs block)
    (λ cap j. absurd (none-some block (sym j.stands.link ∙ leads))) (λ cap x j.
    let same : handle x ≡ block = same_Some (handle x) block (sym j.stands.link ∙ leads) in
    let found : extent_at (live_of c.bytes) block ≡ Some x =
    subst (λ k. extent_at (live_of c.bytes) k ≡ Some x) same j.held in
    let room = found-room (live_of c.bytes) block (8 * cap) x found (long_enough j) in
    record {
      index = j;
      extent = x;
      is = refl;
      begins = same;
      found = found;
      room = room;
      inside = inside c block (8 * cap) j.heap room;
      links = subst (λ k. AreLinksTo (bytes_of c.bytes) k hs) same j.stands.entries;
    }) t i

-- the blocks other than the index's
pub beside : {c : WindowState} {at : ℕ} {t : BackingArray} {hs : List ℕ} {block : ℕ}
    → Placed c at t hs block → (xs : List Extent) → others block xs ≡ beside_table t xs
beside {t = t} p xs = ap (λ k. others k xs) (sym p.begins) ∙ ap (λ (o : Option Extent).
    elim o [ None ↦ xs | Some x ↦ others (handle x) xs ]) (sym p.is)

-- without a block the capacity is 0
pub bare : {c : WindowState} {at : ℕ} {t : BackingArray} {hs : List ℕ}
    → IsIndexOf c at t hs → link_at (bytes_of c.bytes) at ≡ None → t.capacity ≡ 0
bare {c} {at} {t} {hs} i leads = table_cases (λ u. IsIndexOf c at u hs → u.capacity ≡ 0) (λ cap j. let p = j.slots
    in eqb-true cap 0 p) (λ cap x j. absurd (none-some (handle x) (sym leads ∙ j.stands.link))) t i

-- an index without a block has no entries
pub no_entries : {c : WindowState} {at : ℕ} {t : BackingArray} {hs : List ℕ} → IsIndexOf c at t hs
    → link_at (bytes_of c.bytes) at ≡ None → length hs ≡ 0
no_entries i leads = let z = bare i leads in omega arith

pub capacity_small : {c : WindowState} {at : ℕ} {t : BackingArray} {hs : List ℕ} → IsIndexOf c at t hs
    → t.capacity ≤ 134217728
capacity_small {c} {at} {t} i = by_case (link_at (bytes_of c.bytes) at) refl
  where
    by_case : (o : Option ℕ) → link_at (bytes_of c.bytes) at ≡ o → t.capacity ≤ 134217728
    by_case None e = let z = bare i e in omega arith
    by_case (Some b) e = let s = (placed b i e).inside in omega arith

-- the link that was read is the index's
pub leads_from : (c : WindowState) {at place : ℕ} {o p : Option ℕ} → place ≡ at → o ≡ link_at (bytes_of c.bytes) place
    → o ≡ p → link_at (bytes_of c.bytes) at ≡ p
leads_from c e f g = ap (λ k. link_at (bytes_of c.bytes) k) (sym e) ∙ sym f ∙ g

-- if the capacity is not 0 there is a block, and the link leads to it
pub has_slots : {c : WindowState} {at : ℕ} {t : BackingArray} {hs : List ℕ} {block place : ℕ} {o : Option ℕ}
    → IsIndexOf c at t hs → 0 < t.capacity
    → place ≡ at → o ≡ link_at (bytes_of c.bytes) place → block ≡ unwrap_or o 0 → Placed c at t hs block
has_slots {c} {at} {t} {hs} {block} {place} {o} i some e f b = by_case o refl
  where
    by_case : (p : Option ℕ) → o ≡ p → Placed c at t hs block
    by_case None q = let z = bare i (leads_from c e f q) in absurd (omega arith)
    by_case (Some h) q =
        let same : block ≡ h = b ∙ ap (λ (r : Option ℕ). unwrap_or r 0) q in
        placed block i (leads_from c e f q ∙ ap (λ k. Some k) (sym same))

pub slots_room : {c : WindowState} {at : ℕ} {t : BackingArray} {hs : List ℕ} (block place : ℕ) {o : Option ℕ} (k : ℕ)
    → IsIndexOf c at t hs → 0 < t.capacity → place ≡ at → o ≡ link_at (bytes_of c.bytes) place → block ≡ unwrap_or o 0
    → k ≤ 8 * t.capacity → IsTrue (has_room (live_of c.bytes) block k)
slots_room {c} {t = t} block place k i some e f b few =
    room-less (live_of c.bytes) block (8 * t.capacity) k few (has_slots i some e f b).room

pub link_used : {c : WindowState} {at : ℕ} {t : BackingArray} {hs : List ℕ} (block place : ℕ) {o : Option ℕ}
    → IsIndexOf c at t hs
    → place ≡ at → o ≡ link_at (bytes_of c.bytes) place → o ≡ Some block → IsTrue (is_live_in (live_of c.bytes) block)
link_used {c} block place i e f is =
    let p = placed block i (leads_from c e f is) in found_live block (live_of c.bytes).extents p.extent p.found

-- rules that show that a block has room, also after a change, and that a sum within one fits
pub ruleset sizes = (
  block_small,
  block_ends,
  capacity_small,
  room-less,
  slots_room,
  link_used,
  changed-room,
  changed_used,
  changed_touches,
)

-- ---- the arguments of a search, and the meaning of its result

-- of two entries in order the first is less
pub less_at : (o : ℕ → ℕ → Ordering) (hs : List ℕ) (i j g h : ℕ) → IsStrictlySortedBy o hs → i < j
    → slice_get hs i ≡ Some g → slice_get hs j ≡ Some h → o g h ≡ Less
less_at o hs i j g h s l e f =
    let within = slice_get_within hs j h f in
    ap₂ o (same_Some g (get_or hs i 0) (sym e ∙ slice_get-get_or hs i 0 (omega arith)))
    (same_Some h (get_or hs j 0) (sym f ∙ slice_get-get_or hs j 0 within)) ∙ Less-from_sorted o hs i j 0 s l within

-- the object of an entry has room for a key of the sort of its index
key_given : {c : WindowState} {i : Index} (key : Entry) (h : ℕ)
    → index_of key ≡ i → IsHeap current c.bytes → HasSortKey c i h → IsKeyReadable c key h
key_given {c} {i} key h e heap k =
    let m = bytes_of c.bytes in let l = live_of c.bytes in let x = k.extent in let n = sort_key_end i m h in
    let two = and_parts (same_role x.role ObjectRole) (holds x n) k.fits in
    record {
      heap = heap;
      room = subst (λ j. IsTrue (has_room l h (sort_key_end j m h))) (sym e)
          (found-room l h n x k.found (leb-true (n + 16) x.len two.1));
    }

-- the entries of an index have keys in order
pub keys_given : (c : WindowState) (i : Index) (key : Entry) (block count : ℕ)
    → (k : HasSortedIndex c i) → index_of key ≡ i → Placed c (index_at i) k.table k.handles block
    → count ≡ word_at (bytes_of c.bytes) (index_at i + 8) → AreKeys c block count key
keys_given c i key block count k sort p e =
    let m = bytes_of c.bytes in let hs = k.handles in
    record {
      room = room-less (live_of c.bytes) block (8 * k.table.capacity) (8 * count) (omega arith) p.room;
      target = λ x l. (get_or hs x 0, entry_here m block hs x p.links (omega arith));
      keyed = λ x h l is. key_given key h sort p.index.heap (all_at (HasSortKey c i) hs x h k.index.sorted.keys
          (at_links m block hs x h p.links (omega arith) is));
      rises = λ x y g h lt within gx hy.
          subst (λ j. sort_order j m g h ≡ Less) (sym sort) (less_at (sort_order i m) hs x y g h k.index.sorted.rises lt
          (at_links m block hs x g p.links (omega arith) gx) (at_links m block hs y h p.links (omega arith) hy));
    }

-- the place that the search found is that of the key
pub place_found : (m : Memory) (key : Entry) (hs : List ℕ) (block count : ℕ) (r : Lookup) → AreLinksTo m block hs
    → count ≡ length hs → FindsPositionIn m key block count r → FindsPosition m key hs r
place_found m key hs block count (Found j) a long p = (
  get_or hs j 0,
  slice_get-get_or hs j 0 (omega arith),
  p.1 (get_or hs j 0) (entry_here m block hs j a (omega arith)),
)
place_found m key hs block count (Absent j) a long p = (
  omega arith,
  λ k h e. p.1 k h (let w = slice_get_within hs k h e in omega arith) (links_at m block hs k h a e),
)

-- the comparisons over the links of the block are the comparisons over the handles
pub comparisons_found : (m : Memory) (key : Entry) (hs : List ℕ) (block count : ℕ) → AreLinksTo m block hs
    → count ≡ length hs → comparisons_in m key block count ≡ comparisons m key hs
comparisons_found m key hs block count a long = ap (λ n. comparisons_in m key block n) long
    ∙ same_comparisons (length hs) (order_at m key block) (λ j. order m key (unwrap_or (slice_get hs j) 0)) 0
    (length hs) (λ j l. ap (λ (o : Option ℕ). order m key (unwrap_or o 0))
    (entry_here m block hs j a l ∙ sym (slice_get-get_or hs j 0 l)))

-- an empty index takes no comparison
pub comparisons_none : (m : Memory) (key : Entry) (hs : List ℕ) → length hs ≡ 0 → comparisons m key hs ≡ 0
comparisons_none m key hs z =
    none_left (length hs) (λ i. order m key (unwrap_or (slice_get hs i) 0)) 0 (length hs) (omega arith)

-- the entry that was read is that of the list
pub entry_found : (m : Memory) (hs : List ℕ) (block j got : ℕ) (o : Option ℕ) → AreLinksTo m block hs → j < length hs
    → o ≡ link_at m (block + 8 * j) → got ≡ unwrap_or o 0 → slice_get hs j ≡ Some got
entry_found m hs block j got o a l e g = slice_get-get_or hs j 0 l
    ∙ ap (λ k. Some k) (sym (g ∙ ap (λ (r : Option ℕ). unwrap_or r 0) (e ∙ entry_here m block hs j a l)))
