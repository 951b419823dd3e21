-- The places in an image of the elements of an array, a vector of scalars or a string, one after another.
use Rattle.std.specs.Prelude.{◌≡◌, ℕ, ◌+◌, ◌*◌, ◌%◌, ◌≤◌, Some, None, Result, Ok, Err, List, [], length}
use Rattle.raw_region.specs.Memory.{HasBytesAt, bytes_of}
use Rattle.best_fit.specs.{Extents.handle, Table.BackingArray}
use Rattle.seg_types.specs.declared.kinds.ScalarKind.TheVariants.{U8}
use Rattle.seg_types.specs.{declared.refusals.Refusal.Refusal, Kinds.size_of, Names.Key}
use Rattle.seg_types.specs.declared.refusals.Refusal.TheVariants.{NotFound, WrongKind}
use Rattle.seg_vector.specs.Vector.{spelled}
use Rattle.segment_manager.specs.declared.containers.element_runs.ElementRun.{ElementRun}
use Rattle.segment_manager.specs.Directory.{Value, Numbers, Elements, Bytes, Pairs, Texts, Object, Directory, object_at}
use Rattle.segment_manager.specs.{Directory.padded, Layout.head_len, State.SegmentState, State.DenotesCurrent}

-- the offset of a container's storage, or 0 if it has none
abbrev pub storage_offset : BackingArray → ℕ
storage_offset t = elim t.extent as (λ _. ℕ) [ None ↦ 0 | Some x ↦ handle x ]

-- the run of the elements of a value whose own bytes begin at an offset
abbrev pub run_in : ℕ → Value → Result ElementRun Refusal
run_in at (Numbers k zs) = Ok (record { offset = at; count = length zs; kind = k })
run_in at (Elements k zs t) = Ok (record { offset = storage_offset t; count = length zs; kind = k })
run_in at (Bytes bs t) = Ok (record { offset = storage_offset t; count = length bs; kind = U8 })
run_in at (Pairs k v ps) = Err WrongKind
run_in at (Texts ps t) = Err WrongKind

-- the run of the elements of an object
abbrev pub run_of : Object → Result ElementRun Refusal
run_of o = run_in (handle o.extent + head_len + padded (length o.name)) o.value

-- the run of the elements of a key's object
abbrev pub run_at : Directory → Key → Result ElementRun Refusal
run_at d key = elim (object_at d key) as (λ _. Result ElementRun Refusal) [ None ↦ Err NotFound | Some o ↦ run_of o ]

-- the encoded elements of a value
abbrev pub spelled_in : Value → List ℕ
spelled_in (Numbers k zs) = spelled k zs
spelled_in (Elements k zs t) = spelled k zs
spelled_in (Bytes bs t) = bs
spelled_in (Pairs k v ps) = []
spelled_in (Texts ps t) = []

-- the encoded elements of a key's object
abbrev pub spelled_at : Directory → Key → List ℕ
spelled_at d key = elim (object_at d key) as (λ _. List ℕ) [ None ↦ [] | Some o ↦ spelled_in o.value ]

-- A run lies in the image, at a multiple of 8, and its bytes encode the elements of a key's object.
pub record IsRunOf (s : SegmentState) (key : Key) (run : ElementRun) : Type 0 where
  pub inside : run.offset + size_of run.kind * run.count ≤ length s.cut.bytes
  pub aligned : run.offset % 8 ≡ 0
  pub spells : (d : Directory) → DenotesCurrent s.cut.bytes d
      → HasBytesAt (bytes_of s.cut.bytes) run.offset (spelled_at d key)
