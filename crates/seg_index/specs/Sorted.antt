-- A sorted index: its entries lead to objects whose sort keys rise strictly. The sort key of an object is its name or
-- the code of its kind; the object's own block contains it.
use Rattle.std.specs.Prelude.{◌≡◌, ℕ, ◌+◌, ◌<◌, ◌≤◌, Some, List, length, IsTrue, slice_get}
use Rattle.std.specs.{List.AllByRecursion, List.Sorted.IsStrictlySortedBy, Cmp.Lexicographic.slice_cmp}
use Rattle.std.specs.{Ordering.nat_cmp, declared.cmp.Ordering.Ordering}
use Rattle.std.specs.declared.cmp.Ordering.TheVariants.{Less, Greater}
use Rattle.raw_region.specs.Memory.{WindowState, Memory, bytes_of}
use Rattle.block_tags.specs.declared.tile.Role.TheVariants.{Object as ObjectRole}
use Rattle.best_fit.specs.{Extents.Extent, Heap.extent_at, Heap.live_of, Table.BackingArray, Table.serves}
use Rattle.seg_index.specs.{declared.index.Index.Index, declared.keys.Entry.Entry, Held.IsIndexOf, Held.index_at}
use Rattle.seg_index.specs.declared.index.Index.TheVariants.{Named, Unique}
use Rattle.seg_index.specs.declared.keys.Entry.TheVariants.{Name, Code}
use Rattle.seg_index.specs.Keys.{code_at, name_at, name_len_at}

-- the index that is sorted by keys of this form
abbrev pub index_of : Entry → Index
index_of (Name s) = Named
index_of (Code n) = Unique

-- the end of an object's sort key in its payload
abbrev pub sort_key_end : Index → Memory → ℕ → ℕ
sort_key_end Named m h = 16 + name_len_at m h
sort_key_end Unique m h = 16

-- the order of the sort keys of two objects
abbrev pub sort_order : Index → Memory → ℕ → ℕ → Ordering
sort_order Named m g h = slice_cmp nat_cmp (name_at m g) (name_at m h)
sort_order Unique m g h = nat_cmp (code_at m g) (code_at m h)

-- the handle leads to an object's block in use, which holds the sort key
pub record HasSortKey (c : WindowState) (i : Index) (h : ℕ) : Type 0 where
  pub extent : Extent
  pub found : extent_at (live_of c.bytes) h ≡ Some extent
  pub fits : IsTrue (serves extent ObjectRole (sort_key_end i (bytes_of c.bytes) h))

-- the key is the sort key of the object of a handle
abbrev pub IsKeyOf : Entry → Memory → ℕ → Type 0
IsKeyOf (Name s) m h = name_at m h ≡ s.now
IsKeyOf (Code n) m h = code_at m h ≡ n

-- each handle leads to a sort key, and the sort keys rise strictly
pub record AreSortedHandles (c : WindowState) (i : Index) (handles : List ℕ) : Type 0 where
  pub keys : AllByRecursion (HasSortKey c i) handles
  pub rises : IsStrictlySortedBy (sort_order i (bytes_of c.bytes)) handles

-- the index leads to these handles, and their sort keys rise
pub record IsSortedIndex (c : WindowState) (i : Index) (t : BackingArray) (handles : List ℕ) : Type 0 where
  pub index : IsIndexOf c (index_at i) t handles
  pub sorted : AreSortedHandles c i handles

-- the header has a sorted index
pub record HasSortedIndex (c : WindowState) (i : Index) : Type 0 where
  pub table : BackingArray
  pub handles : List ℕ
  pub index : IsSortedIndex c i table handles

-- the sort key of this handle is greater than all before this place, and less than all from there on
pub record BelongsAt (c : WindowState) (i : Index) (handles : List ℕ) (place handle : ℕ) : Type 0 where
  pub key : HasSortKey c i handle
  pub within : place ≤ length handles
  pub each : (j g : ℕ) → slice_get handles j ≡ Some g → (j < place → sort_order i (bytes_of c.bytes) g handle ≡ Less)
      × (place ≤ j → sort_order i (bytes_of c.bytes) g handle ≡ Greater)

-- the index is sorted, and stays so if an entry for this handle is inserted at this place
pub record CanAdd (c : WindowState) (i : Index) (place handle : ℕ) : Type 0 where
  pub table : BackingArray
  pub handles : List ℕ
  pub index : IsSortedIndex c i table handles
  pub belongs : BelongsAt c i handles place handle

-- an index that was sorted stays sorted, for both indexes
abbrev pub KeepsSorted : WindowState → WindowState → Type 0
KeepsSorted old new = (i : Index) (handles : List ℕ) → AreSortedHandles old i handles → AreSortedHandles new i handles
