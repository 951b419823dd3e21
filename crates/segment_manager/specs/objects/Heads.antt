-- The words of index entries for the objects that bytes denote.
use Rattle.std.specs.{Prelude.◌≡◌, Prelude.ℕ, Prelude.List, List.AllByRecursion}
use Rattle.raw_region.specs.Memory.{Memory, bytes_of}
use Rattle.best_fit.specs.Extents.{handle}
use Rattle.seg_types.specs.Kinds.{code_of, class_code}
use Rattle.seg_index.specs.Keys.{code_at, count_at, class_at, name_at}
use Rattle.segment_manager.specs.Directory.{Object, Directory, kind_of, count_of}
use Rattle.segment_manager.specs.Denotes.{Denotes}

-- the head in an object's block has the object's kind, count, class and name
pub record IsEntry (m : Memory) (o : Object) : Type 0 where
  pub code : code_at m (handle o.extent) ≡ code_of (kind_of o.value)
  pub count : count_at m (handle o.extent) ≡ count_of o.value
  pub class : class_at m (handle o.extent) ≡ class_code o.class
  pub name : name_at m (handle o.extent) ≡ o.name

-- the law: the head of each object has the object's properties
abbrev pub EntriesSayObjects : Type 0
EntriesSayObjects =
    (format : ℕ) (b : List ℕ) (d : Directory) → Denotes format b d → AllByRecursion (IsEntry (bytes_of b)) d.objects
