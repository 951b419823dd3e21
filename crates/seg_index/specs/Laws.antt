-- Laws of indexes when other calls change their heap.
use Rattle.std.specs.Prelude.{◌≡◌, ℕ, ◌+◌, ◌%◌, ◌<◌, ◌≤◌, ◌==◌, if◌then◌else◌, Option, Some, List, [], ◌∷◌, IsTrue}
use Rattle.std.specs.{declared.cmp.Ordering.Ordering, List.AllByRecursion}
use Rattle.raw_region.specs.{Format.current, Memory.WindowState, Memory.Memory, Memory.bytes_of}
use Rattle.block_tags.specs.declared.tile.Role.{Role}
use Rattle.link_tree.specs.Tree.{bits}
use Rattle.offset_link.specs.Link.{link_at}
use Rattle.best_fit.specs.Heap.{AllocatesOk, ChangesBytes, Deallocates, KeepsBlocks, EncodesLiveSet, has_room, live_of}
use Rattle.best_fit.specs.Table.{BackingArray}
use Rattle.seg_index.specs.{declared.index.Index.Index, Growth.CanGrow, Growth.PreparesOk, Held.IsIndexOf}
use Rattle.seg_index.specs.{Held.index_at}
use Rattle.seg_index.specs.{declared.keys.Entry.TheVariants.Code, declared.keys.Entry.Entry}
use Rattle.seg_index.specs.{declared.keys.Lookup.Lookup, Lookups.FindsPosition, declared.keys.Lookup.TheVariants.Absent}
use Rattle.seg_index.specs.Comparing.{comparisons, comparisons_among}
use Rattle.seg_index.specs.Sorted.{AreSortedHandles, BelongsAt, HasSortKey, IsKeyOf, KeepsSorted, index_of}

-- the index has this block
abbrev pub IsItsBlock : WindowState → Index → ℕ → Type 0
IsItsBlock c i h = link_at (bytes_of c.bytes) (index_at i) ≡ Some h

-- the law: an index stays if a block is allocated, and if a block other than its own is freed or written
pub record IndexesStay : Type 0 where
  pub taken : (i : Index) (a b : WindowState) (n : ℕ) (role : Role) (h : ℕ) (t : BackingArray) (handles : List ℕ)
      → IsIndexOf a (index_at i) t handles → AllocatesOk current a b n role h → IsIndexOf b (index_at i) t handles
  pub released : (i : Index) (a b : WindowState) (h : ℕ) (t : BackingArray) (handles : List ℕ)
      → IsIndexOf a (index_at i) t handles
      → Deallocates current a b h → (IsItsBlock a i h → ⊥) → IsIndexOf b (index_at i) t handles
  pub written : (i : Index) (a b : WindowState) (h at n : ℕ) (t : BackingArray) (handles : List ℕ)
      → IsIndexOf a (index_at i) t handles → ChangesBytes current a b (h + at) n
      → IsTrue (has_room (live_of a.bytes) h (at + n)) → (IsItsBlock a i h → ⊥) → IsIndexOf b (index_at i) t handles

-- the law: entries stay sorted if a block is allocated, if a block of none of their objects is freed or written, and if
-- the same blocks are in use again with their bytes
pub record EntriesStaySorted : Type 0 where
  pub taken : (a b : WindowState) (n : ℕ) (role : Role) (h : ℕ) → AllocatesOk current a b n role h → KeepsSorted a b
  pub released : (i : Index) (a b : WindowState) (h : ℕ) (handles : List ℕ) → AreSortedHandles a i handles
      → Deallocates current a b h → AllByRecursion (λ g. g ≡ h → ⊥) handles → AreSortedHandles b i handles
  pub written : (i : Index) (a b : WindowState) (h at n : ℕ) (handles : List ℕ) → AreSortedHandles a i handles
      → ChangesBytes current a b (h + at) n → IsTrue (has_room (live_of a.bytes) h (at + n))
      → AllByRecursion (λ g. g ≡ h → ⊥) handles → AreSortedHandles b i handles
  pub restored : (a b : WindowState)
      → EncodesLiveSet current b.bytes (live_of a.bytes) → KeepsBlocks a b (live_of a.bytes).extents → KeepsSorted a b

-- the law: an object whose key a look-up did not find belongs at the place that the look-up returned
abbrev pub AbsentKeysBelong : Type 0
AbsentKeysBelong =
    (c : WindowState) (key : Entry) (handles : List ℕ) (place h : ℕ) → AreSortedHandles c (index_of key) handles
    → FindsPosition (bytes_of c.bytes) key handles (Absent place) → HasSortKey c (index_of key) h
    → IsKeyOf key (bytes_of c.bytes) h → BelongsAt c (index_of key) handles place h

-- the law: in a sorted list a key has one position
abbrev pub KeysHaveOnePlace : Type 0
KeysHaveOnePlace =
    (c : WindowState) (key : Entry) (handles : List ℕ) (r s : Lookup) → AreSortedHandles c (index_of key) handles
    → FindsPosition (bytes_of c.bytes) key handles r → FindsPosition (bytes_of c.bytes) key handles s → r ≡ s

-- the law: the result of `prepare` meets the condition of `add`, and still does so after a block is allocated, another
-- block is freed, or a block is written
pub record GrowthsStay : Type 0 where
  pub prepared : (i : Index) (a b : WindowState) (g : Option ℕ) (t : BackingArray) (handles : List ℕ)
      → IsIndexOf a (index_at i) t handles → PreparesOk a b (index_at i) g → CanGrow b (index_at i) g
  pub taken : (i : Index) (a b : WindowState) (g : Option ℕ) (n : ℕ) (role : Role) (h : ℕ) → CanGrow a (index_at i) g
      → AllocatesOk current a b n role h → CanGrow b (index_at i) g
  pub released : (i : Index) (a b : WindowState) (g : Option ℕ) (h : ℕ)
      → CanGrow a (index_at i) g → Deallocates current a b h → (g ≡ Some h → ⊥) → CanGrow b (index_at i) g
  pub written : (i : Index) (a b : WindowState) (g : Option ℕ) (h at n : ℕ) → CanGrow a (index_at i) g
      → ChangesBytes current a b (h + at) n → IsTrue (has_room (live_of a.bytes) h (at + n)) → CanGrow b (index_at i) g

-- objects at the multiples of 16, each with its offset as the code of its kind
abbrev pub own_codes : Memory
own_codes at = if at % 16 == 0 then at else 0

abbrev pub seven : List ℕ
seven = 16 ∷ 32 ∷ 48 ∷ 64 ∷ 80 ∷ 96 ∷ 112 ∷ []

-- The law: the order of each key to the wanted key alone determines the number of comparisons, which is at most the
-- number of binary digits of the count. Counted by hand: of seven keys the search compares the fourth first, then the
-- second or the sixth, then another; a search that ends between two keys has compared three. Of eight keys it compares
-- the fifth, the third, the second and the first.
pub record SearchesHalve : Type 0 where
  pub decided : (count : ℕ) (p q : ℕ → Ordering) → ((i : ℕ) → i < count → p i ≡ q i)
      → comparisons_among count p 0 count ≡ comparisons_among count q 0 count
  pub few : (count : ℕ) (stands : ℕ → Ordering) → comparisons_among count stands 0 count ≤ bits count
  pub of_none : comparisons own_codes (Code 64) [] ≡ 0
  pub fourth : comparisons own_codes (Code 64) seven ≡ 1
  pub second : comparisons own_codes (Code 32) seven ≡ 2
  pub last : comparisons own_codes (Code 112) seven ≡ 3
  pub between : comparisons own_codes (Code 33) seven ≡ 3
  pub before_all : comparisons own_codes (Code 1) (16 ∷ seven) ≡ 4
