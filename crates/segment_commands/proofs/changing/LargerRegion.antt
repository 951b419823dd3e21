-- A segment that was read with room for more bytes can grow by them in its region.
use Rattle.std.proofs.Common.{◌≡◌, ℕ, Bool, true, false, inl, inr, List, Option, Some, None, Result, Ok, Err, sym}
use Rattle.std.proofs.Common.{subst, ◌∙◌}
use Rattle.std.specs.Prelude.{if◌then◌else◌}
use Rattle.raw_region.specs.Device.{ReadDelta}
use Rattle.segment_manager.specs.declared.modes.Mode.TheVariants.{Write}
use Rattle.segment_manager.specs.Directory.{Directory}
use Rattle.segment_manager.specs.State.{IsSegment, SegmentState}
use Rattle.segment_manager.specs.Step.{is_read_only}
use Rattle.image_check.specs.declared.versions.AcceptedVersions.TheVariants.{Current}
use Rattle.grow_shrink.specs.declared.refusals.GrowError.{GrowError}
use Rattle.grow_shrink.specs.declared.refusals.GrowError.TheVariants.{ReadOnly, RegionTooSmall}
use Rattle.grow_shrink.specs.Resized.{IsRefusedBy}
use Rattle.segment_disk.specs.Events.{Event}
use Rattle.segment_file.specs.declared.file_errors.FileError.{FileError}
use Rattle.segment_file.specs.Opening.{OpensImageOk, OpensImage}
use Rattle.segment_file.specs.Opening.{OpensFile as ReadsFile, unopened_error}
use Rattle.segment_file.proofs.Laws.{grows-in-place, segment-of}
use Rattle.segment_commands.specs.declared.changing.Resize.{Resize}
use Rattle.segment_commands.specs.declared.changing.Resize.TheVariants.{Grow, Shrink}
use Rattle.segment_commands.specs.Opening.{OpensWith}
use Rattle.segment_commands.specs.Resizing.{more_by, refusal_by}
use Rattle.segment_commands.proofs.running.Start.{no_error, was_read}

-- the segment that was read, after a command
record IsReadIn (more : ℕ) (s : SegmentState) : Type 0 where
  len : ℕ
  image : ReadDelta
  is_read : OpensImageOk Current len more Write image s

is_reading : (shrinks : Bool) (error : GrowError)
    → (let refusal : Option GrowError = if shrinks then Some ReadOnly else None in Some error ≡ refusal)
    → error ≡ RegionTooSmall → ⊥
is_reading true error e is = cc
is_reading false error e is = cc

module _ {D : Type 0} (step : D → Event → D → Type 0) (old new : D) (path : List ℕ) (s : SegmentState) where
  read_in : (more : ℕ) (x : Result SegmentState FileError) → ReadsFile step old new path Current Write more x
      → x ≡ Ok s → IsReadIn more s
  read_in more x (inl u) e = absurd (no_error s (unopened_error u.why) (sym e ∙ u.refused))
  read_in more x (inr r) e = record {
    len = r.len;
    image = r.image;
    is_read = subst (OpensImage Current more Write r.len r.image) e r.answer;
  }

  opened_in : (more : ℕ) → OpensWith step old new path Current Write more (Ok s) → IsReadIn more s
  opened_in more o = read_in more o.read o.reads (was_read o.read s o.answer)

  stands_in : (more : ℕ) → IsReadIn more s → IsSegment s.cut.bytes
  stands_in more r = segment-of r.len more Write r.image s r.is_read

  -- a segment that was read with room is not refused by its region
  pub roomy_by : (how : Resize) (error : GrowError) → OpensWith step old new path Current Write (more_by how) (Ok s)
      → IsRefusedBy s (Err error) (refusal_by how s) → error ≡ RegionTooSmall → ⊥
  roomy_by (Grow extra) error o refused is =
      let r = opened_in extra o in grows-in-place r.len extra Write r.image s r.is_read error refused is
  roomy_by Shrink error o refused is =
      let d = stands_in 0 (opened_in 0 o) in is_reading (is_read_only s.mode) error (refused.refused d.0 d.1) is
