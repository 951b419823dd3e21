-- The place of an object's entry, by the object's handle.
use Rattle.seg_types.specs.Names as names
use Rattle.std.specs.Prelude.{◌≡◌, ℕ, Option, Some, None, List}
use Rattle.raw_region.specs.Memory.{bytes_of}
use Rattle.best_fit.specs.Table.{BackingArray}
use Rattle.seg_types.specs.declared.kinds.Class.TheVariants.{Anonymous}
use Rattle.seg_index.specs.{Lookups.FindsPosition, Held.IsIndexOf, Held.index_at, declared.keys.Entry.Entry}
use Rattle.seg_index.specs.{declared.index.Index.Index, declared.keys.Lookup.TheVariants.Found}
use Rattle.segment_manager.specs.{declared.objects.destroying.Listed.Listed, Directory.Object, Directory.Directory}
use Rattle.segment_manager.specs.{Directory.object_at, indexes.Indexed.Seeks, State.DenotesCurrent, State.SegmentState}

-- the object of the handle has an entry, which its own key finds
pub record HasIndexEntry (i : Index) (e : Entry) (d : Directory) (h : ℕ) : Type 0 where
  pub object : Object
  pub is : object_at d (names.ByHandle h) ≡ Some object
  pub key : names.Key
  pub seeks : Seeks i e key
  pub found : object_at d key ≡ Some object

-- the object has an entry in the index, in each directory that the bytes denote
abbrev pub HasEntries : SegmentState → Index → Entry → ℕ → Type 0
HasEntries s i e h = (d : Directory) → DenotesCurrent s.cut.bytes d → HasIndexEntry i e d h

-- the object's entry is at this place of the index
pub record IsEntryAt (s : SegmentState) (h : ℕ) (i : Index) (at : ℕ) : Type 0 where
  pub entry : Entry
  pub leads : HasEntries s i entry h
  pub found : (t : BackingArray) (handles : List ℕ) → IsIndexOf s.cut (index_at i) t handles
      → FindsPosition (bytes_of s.cut.bytes) entry handles (Found at)

-- the object has no entry, since it is anonymous
abbrev pub IsAnonymousAt : SegmentState → ℕ → Type 0
IsAnonymousAt s h =
    (d : Directory) → DenotesCurrent s.cut.bytes d → (o : Object) × (object_at d (names.ByHandle h) ≡ Some o)
    × (o.class ≡ Anonymous)

-- the place of the object's entry, or none if it has none
abbrev pub IsListed : SegmentState → ℕ → Option Listed → Type 0
IsListed s h None = IsAnonymousAt s h
IsListed s h (Some l) = IsEntryAt s h l.index l.place
