-- What the calls tell of objects, blocks and gaps.
use Rattle.std.specs.Prelude.{◌≡◌, ◌<◌, ◌≤◌, ℕ, List, ◌++◌, drop, length, Option, Some, None}
use Rattle.block_tags.specs.declared.tile.Role.{Role}
use Rattle.block_tags.specs.declared.tile.Role.TheVariants.{Object as ObjectRole, Index, Storage, Node}
use Rattle.best_fit.specs.Extents.{Span, handle}
use Rattle.seg_types.specs.Kinds.{class_code, code_of}
use Rattle.segment_manager.specs.Directory.{Directory, Object, count_of, kind_of}
use Rattle.segment_manager.specs.State.{DenotesCurrent, SegmentState}
use Rattle.segment_c.specs.{declared.lists.Info.Info, declared.lists.CBlock.CBlock}

-- ---- objects

-- all that is said is so of the object
pub record IsInfo (o : Object) (i : Info) : Type 0 where
  pub found_by : i.found_by ≡ class_code o.class
  pub kind : i.kind ≡ code_of (kind_of o.value)
  pub count : i.count ≡ count_of o.value
  pub name_len : i.name_len ≡ length o.name
  pub at : i.handle ≡ handle o.extent

-- an object is told of, and its name stands at the front of the buffer, if that has room for it
pub record WritesInfo (o : Object) (i : Info) (old new : List ℕ) (code : ℕ) : Type 0 where
  pub told : length o.name ≤ length old → (code ≡ 0) × IsInfo o i × (new ≡ o.name ++ drop (length o.name) old)
  pub short : length old < length o.name → code ≡ 24

-- what an object says of itself goes out, if it is there
abbrev pub WritesInfoIfFound : ℕ → Info → List ℕ → List ℕ → ℕ → Option Object → Type 0
WritesInfoIfFound missing i old new code None = code ≡ missing
WritesInfoIfFound missing i old new code (Some o) = WritesInfo o i old new code

-- what an object of the directory says of itself goes out
abbrev pub WritesInfoOf : SegmentState → (Directory → Option Object) → ℕ → Info → List ℕ → List ℕ → ℕ → Type 0
WritesInfoOf s which missing i old new code = (d : Directory) → DenotesCurrent s.cut.bytes d
    → WritesInfoIfFound missing i old new code (which d)

-- what an object says of itself goes out, without its name
abbrev pub TellsAlone : Info → ℕ → Option Object → Type 0
TellsAlone i code None = code ≡ 8
TellsAlone i code (Some o) = (code ≡ 0) × IsInfo o i

-- ---- blocks and gaps

-- the code of a use
abbrev pub use_code : Option Role → ℕ
use_code None = 0
use_code (Some ObjectRole) = 1
use_code (Some Index) = 2
use_code (Some Storage) = 3
use_code (Some Node) = 4

-- the block or gap is the one that is told of, or there is none
abbrev pub TellsBlock : CBlock → ℕ → Option Span → Type 0
TellsBlock b code None = code ≡ 8
TellsBlock b code (Some s) = (code ≡ 0) × (b.offset ≡ s.offset) × (b.len ≡ s.len) × (b.use_of ≡ use_code s.use_of)
