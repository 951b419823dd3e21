-- The destruction of an object: first the blocks of its value are freed, then its entry is removed, if it has one, and
-- then its own block is freed.
use Rattle.std.specs.Prelude.{◌≡◌, ℕ, Some, List, [], slice_get}
use Rattle.raw_region.specs.{Format.current, Memory.WindowState, Memory.SameSurroundings}
use Rattle.best_fit.specs.Table.{no_backing}
use Rattle.seg_types.specs.{declared.kinds.Class.TheVariants.Anonymous, Names.ByHandle}
use Rattle.seg_index.specs.declared.index.Index.{Index}
use Rattle.segment_manager.specs.{Denotes.Denotes, Directory.without_object, State.DenotesCurrent, Step.changed}
use Rattle.segment_manager.specs.Directory.{Value, Numbers, Elements, Bytes, Pairs, Texts, Object, Directory, object_at}
use Rattle.segment_manager.specs.indexes.Indexed.{objects_of}

-- the value without blocks: an empty container with capacity 0
abbrev pub emptied : Value → Value
emptied (Numbers k zs) = Numbers k zs
emptied (Elements k zs t) = Elements k [] no_backing
emptied (Bytes bs t) = Bytes [] no_backing
emptied (Pairs k v ps) = Pairs k v []
emptied (Texts ps t) = Texts [] no_backing

-- the new bytes denote the directory, at the old place
pub record Becomes (old new : WindowState) (after : Directory) : Type 0 where
  pub place : SameSurroundings old new
  pub denotes : Denotes current new.bytes after

-- ---- its contents

-- an object has the handle
pub record HoldsObject (b : List ℕ) (h : ℕ) : Type 0 where
  pub directory : Directory
  pub stands : DenotesCurrent b directory
  pub object : Object
  pub is : object_at directory (ByHandle h) ≡ Some object

-- the value of the object of a handle is emptied
abbrev pub Empties : WindowState → WindowState → ℕ → Type 0
Empties old new h =
    (d : Directory) (o : Object) → DenotesCurrent old.bytes d → object_at d (ByHandle h) ≡ Some o
    → Becomes old new (changed d o (emptied o.value))

-- ---- the object

-- an object has the entry at a place of an index
pub record HoldsEntry (b : List ℕ) (i : Index) (at : ℕ) : Type 0 where
  pub directory : Directory
  pub stands : DenotesCurrent b directory
  pub object : Object
  pub is : slice_get (objects_of i directory) at ≡ Some object

-- the object and its entry are removed
abbrev pub RemovesEntry : WindowState → WindowState → Index → ℕ → Type 0
RemovesEntry old new i at =
    (d : Directory) (o : Object) → DenotesCurrent old.bytes d → slice_get (objects_of i d) at ≡ Some o
    → Becomes old new (without_object d o)

-- the object of a handle is removed, if it is anonymous
abbrev pub RemovesAnonymous : WindowState → WindowState → ℕ → Type 0
RemovesAnonymous old new h =
    (d : Directory) (o : Object) → DenotesCurrent old.bytes d → object_at d (ByHandle h) ≡ Some o → o.class ≡ Anonymous
    → Becomes old new (without_object d o)
