-- What is said of elements that stand in the image.
use Rattle.std.specs.Prelude.{◌≡◌, ℕ, ◌+◌, ◌*◌, ◌%◌, ◌≤◌, length, Result, Err, if◌then◌else◌}
use Rattle.raw_region.specs.Memory.{HasBytesAt, bytes_of}
use Rattle.seg_types.specs.{declared.refusals.Refusal.Refusal, Kinds.scalar_code, Kinds.size_of, Names.Key}
use Rattle.seg_types.specs.declared.refusals.Refusal.TheVariants.{ReadOnly}
use Rattle.segment_manager.specs.containers.ElementRuns.{run_at, spelled_at}
use Rattle.segment_manager.specs.{declared.modes.Mode.Mode, Directory.Directory}
use Rattle.segment_manager.specs.{State.DenotesCurrent, State.SegmentState, Step.is_read_only}
use Rattle.segment_manager.specs.declared.containers.element_runs.ElementRun.{ElementRun}
use Rattle.segment_c.specs.{Calls.HoldsSegment, Handles.ReadsDirectory, Passed.scalar_kind_in, Reads.IsCoded}
use Rattle.segment_c.specs.{declared.slot.Slot.Slot, declared.views.CView.CView}

-- where the run begins, how many elements it has, and of which kind
abbrev pub IsView : CView → ElementRun → Type 0
IsView v run = (v.offset ≡ run.offset) × (v.count ≡ run.count) × (v.kind ≡ scalar_code run.kind)

-- The bytes of the image from there on, a multiple of 8, spell the elements of the object of a key.
pub record HasView (s : SegmentState) (key : Key) (v : CView) : Type 0 where
  pub inside : v.offset + size_of (scalar_kind_in v.kind) * v.count ≤ length s.cut.bytes
  pub aligned : v.offset % 8 ≡ 0
  pub spells : (d : Directory) → DenotesCurrent s.cut.bytes d
      → HasBytesAt (bytes_of s.cut.bytes) v.offset (spelled_at d key)

-- where they may be written: nowhere, in a segment that is open for reading
abbrev pub writable : Mode → Result ElementRun Refusal → Result ElementRun Refusal
writable mode run = if is_read_only mode then Err ReadOnly else run

-- a call says where the elements of the object of a key stand, for as long as the counter of changes stays
pub record TellsView (wrong : ℕ) (key : Key) (code : ℕ) (before after : Slot) (old new : CView) : Type 0 where
  pub read : ReadsDirectory wrong code before after (λ d. IsCoded (IsView new) code (run_at d key))
  pub bytes : code ≡ 0 → HoldsSegment before.segment.value (λ s. HasView s key new)
  pub current : code ≡ 0 → new.changes ≡ before.marks.changes
  pub outputs_on_error : 1 ≤ code → new ≡ old
