-- Calls that change no byte, not even in gaps, because there is nothing to do, or that change only the bytes of an
-- element.
use Rattle.std.specs.Prelude.{◌≡◌, ◌<◌, ◌≤◌, ◌+◌, ◌⊎◌, ℕ, ℤ, int_lt, List, length, Some, None, Ok, IfOk}
use Rattle.raw_region.specs.Memory.{SameBytesExcept, bytes_of}
use Rattle.seg_types.specs.{declared.kinds.ScalarKind.ScalarKind, Kinds.size_of, Names.Key}
use Rattle.seg_map.specs.{Map.pair_at, Numbers.NumberPair}
use Rattle.best_fit.specs.{Extents.handle, Heap.KeepsGaps, Heap.live_of, Table.BackingArray}
use Rattle.segment_manager.specs.{containers.Contents.sizes_at, objects.Standing.place_at, containers.Walks.pairs_at}
use Rattle.best_fit.specs.declared.places.Place.{Place}
use Rattle.seg_vector.specs.TextsCalls.{new_array, placed_text}
use Rattle.seg_vector.specs.Vector.{OwnedText, capacity_for_one, grown_backing}
use Rattle.segment_manager.specs.Directory.{Object, Directory, Texts, live, object_at}
use Rattle.segment_manager.specs.State.{SegmentState, DenotesCurrent}

-- if this holds of the directory, the call changed no byte, not even in gaps
abbrev pub UnchangedWhere : SegmentState → SegmentState → (Directory → Type 0) → Type 0
UnchangedWhere old new holds = (d : Directory) → DenotesCurrent old.cut.bytes d → holds d → new ≡ old

-- an object has the key
abbrev pub IsBoundKey : Key → Directory → Type 0
IsBoundKey key d = (o : Object) × (object_at d key ≡ Some o)

-- no object has the key
abbrev pub LacksKey : Key → Directory → Type 0
LacksKey key d = object_at d key ≡ None

-- the vector or string of the key has at least this capacity
pub record HasCapacity (key : Key) (n : ℕ) (d : Directory) : Type 0 where
  pub len : ℕ
  pub capacity : ℕ
  pub says : sizes_at d key ≡ Ok (len, capacity)
  pub enough : n ≤ capacity

-- the map of the key lacks this map key
abbrev pub LacksPair : Key → ℤ → Directory → Type 0
LacksPair key x d = pair_at int_lt (pairs_at d key) x ≡ None

-- The first allocation for inserting a text into the vector of strings of the key has no fit. It is for the text's
-- block if the capacity allows one more, and otherwise for the array.
pub record LacksFirst (key : Key) (bytes : List ℕ) (d : Directory) : Type 0 where
  pub object : Object
  pub is : object_at d key ≡ Some object
  pub texts : List OwnedText
  pub table : BackingArray
  pub value : object.value ≡ Texts texts table
  pub none : ((length texts < table.capacity) × (placed_text (live d) bytes ≡ None))
      ⊎ (grown_backing (live d) 16 (capacity_for_one (length texts) table.capacity) table ≡ None)

-- there is no space for an array of this many texts
abbrev pub LacksArray : ℕ → Directory → Type 0
LacksArray n d = new_array (live d) n ≡ None

-- only the bytes of one element of the key's object, an array of scalars of the kind, change
abbrev pub ChangesElement : SegmentState → SegmentState → Key → ScalarKind → ℕ → Type 0
ChangesElement old new key k i = (d : Directory) → DenotesCurrent old.cut.bytes d
    → IfOk (place_at d key k i) (λ (p : Place).
    SameBytesExcept (bytes_of old.cut.bytes) (bytes_of new.cut.bytes) (p.handle + p.at) (size_of k))

-- if the same blocks are in use, no byte of a gap changes
abbrev pub KeepsUnused : SegmentState → SegmentState → Type 0
KeepsUnused old new = live_of new.cut.bytes ≡ live_of old.cut.bytes → KeepsGaps old.cut new.cut

-- if the map of the key has this map key, only the bytes of its value change
abbrev pub ChangesValue : SegmentState → SegmentState → Key → ScalarKind → ℤ → ScalarKind → Type 0
ChangesValue old new key k x v = (d : Directory) → DenotesCurrent old.cut.bytes d → (p : NumberPair)
    → pair_at int_lt (pairs_at d key) x ≡ Some p
    → SameBytesExcept (bytes_of old.cut.bytes) (bytes_of new.cut.bytes) (handle p.node + 16 + size_of k) (size_of v)
