-- Keys of the objects of an index, and results of look-ups.
use Rattle.std.specs.Prelude.{◌≡◌, ℕ, ◌+◌, ◌*◌, ◌<◌, ◌≤◌, Some, List, length, IsTrue, slice_get}
use Rattle.std.specs.{Cmp.Lexicographic.slice_cmp, declared.cmp.Ordering.Ordering, Ordering.nat_cmp}
use Rattle.std.specs.declared.cmp.Ordering.TheVariants.{Less, Equal, Greater}
use Rattle.raw_region.specs.{Memory.WindowState, Memory.Memory, Memory.bytes_of, Format.current}
use Rattle.offset_link.specs.Link.{link_at}
use Rattle.best_fit.specs.Heap.{IsHeap, has_room, live_of}
use Rattle.seg_index.specs.{declared.keys.Entry.Entry, declared.keys.Lookup.Lookup, Keys.name_at, Keys.code_at}
use Rattle.seg_index.specs.declared.keys.Entry.TheVariants.{Name, Code}
use Rattle.seg_index.specs.Sorted.{index_of, sort_key_end, sort_order}
use Rattle.seg_index.specs.declared.keys.Lookup.TheVariants.{Found, Absent}

-- the order of an object's key to a key
abbrev pub order : Memory → Entry → ℕ → Ordering
order m (Name s) h = slice_cmp nat_cmp (name_at m h) s.now
order m (Code n) h = nat_cmp (code_at m h) n

-- the block of a handle has room for its key
pub record IsKeyReadable (c : WindowState) (key : Entry) (h : ℕ) : Type 0 where
  pub heap : IsHeap current c.bytes
  pub room : IsTrue (has_room (live_of c.bytes) h (sort_key_end (index_of key) (bytes_of c.bytes) h))

-- the entry has the key; or no entry has it, all keys before this entry are less, and all keys from it on are greater
abbrev pub FindsPosition : Memory → Entry → List ℕ → Lookup → Type 0
FindsPosition m key handles (Found i) = (h : ℕ) × (slice_get handles i ≡ Some h) × (order m key h ≡ Equal)
FindsPosition m key handles (Absent i) =
    (i ≤ length handles) × ((j h : ℕ) → slice_get handles j ≡ Some h
    → (j < i → order m key h ≡ Less) × (i ≤ j → order m key h ≡ Greater))

-- ---- the same definitions over the links of a block

-- the link of an entry leads to a handle
abbrev pub IsEntryLinkTo : Memory → ℕ → ℕ → ℕ → Type 0
IsEntryLinkTo m block i h = link_at m (block + 8 * i) ≡ Some h

-- the first links of a block lead to objects with keys, which rise strictly
pub record AreKeys (c : WindowState) (block count : ℕ) (key : Entry) : Type 0 where
  pub room : IsTrue (has_room (live_of c.bytes) block (8 * count))
  pub target : (i : ℕ) → i < count → (h : ℕ) × IsEntryLinkTo (bytes_of c.bytes) block i h
  pub keyed : (i h : ℕ) → i < count → IsEntryLinkTo (bytes_of c.bytes) block i h → IsKeyReadable c key h
  pub rises : (i j g h : ℕ) → i < j → j < count → IsEntryLinkTo (bytes_of c.bytes) block i g
      → IsEntryLinkTo (bytes_of c.bytes) block j h → sort_order (index_of key) (bytes_of c.bytes) g h ≡ Less

-- a look-up in a block returns the entry of a key, or the place where it belongs
abbrev pub FindsPositionIn : Memory → Entry → ℕ → ℕ → Lookup → Type 0
FindsPositionIn m key block count (Found i) =
    (i < count) × ((h : ℕ) → IsEntryLinkTo m block i h → order m key h ≡ Equal)
FindsPositionIn m key block count (Absent i) =
    (i ≤ count) × ((j h : ℕ) → j < count → IsEntryLinkTo m block j h
    → (j < i → order m key h ≡ Less) × (i ≤ j → order m key h ≡ Greater))
