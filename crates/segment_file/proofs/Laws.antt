-- What holds of segments that are read from files, for other crates.
use Rattle.std.proofs.Common.{◌≡◌, ◌≤◌, ℕ, ◌+◌, ◌++◌, length, drop, max, Err, ap, arith}
use Rattle.std.proofs.Math.Nat.{le-max_right}
use Rattle.std.proofs.lemmas.List.{length-append, length-drop}
use Rattle.raw_region.specs.Device.{ReadDelta}
use Rattle.segment_manager.specs.declared.modes.Mode.{Mode}
use Rattle.segment_manager.specs.State.{IsSegment, SegmentState}
use Rattle.image_check.specs.declared.versions.AcceptedVersions.{AcceptedVersions}
use Rattle.image_check.specs.declared.versions.AcceptedVersions.TheVariants.{Current}
use Rattle.image_check.specs.EarlyTests.{size_word}
use Rattle.image_check.specs.Formats.{format_in}
use Rattle.image_check.specs.Opening.{IsTooSmallFor}
use Rattle.grow_shrink.specs.declared.refusals.GrowError.{GrowError}
use Rattle.grow_shrink.specs.declared.refusals.GrowError.TheVariants.{RegionTooSmall}
use Rattle.grow_shrink.specs.Resized.{IsRefusedBy, growth_refusal, room_of}
use Rattle.grow_shrink.proofs.ShortRegions.{short_of_room}
use Rattle.segment_file.specs.Opening.{OpensImageOk}
use Rattle.segment_file.proofs.opening.Fronts.{said-most, too-small-says}
use Rattle.segment_file.proofs.opening.Rooms.{region-holds}
use Rattle.segment_file.proofs.opening.Openings.{as-long}

-- there was room for the image
pub read-fits : (versions : AcceptedVersions) (len more : ℕ) (mode : Mode) (image : ReadDelta) (s : SegmentState)
    (r : OpensImageOk versions len more mode image s)
    → IsTooSmallFor (format_in versions image.bytes) image 0 (length r.region) → ⊥
read-fits versions len more mode image s r t =
    let format = format_in versions image.bytes in
    let most = said-most format image.bytes (size_word image.bytes) (too-small-says format image (length r.region) t) in
    let told = le-max_right len (size_word image.bytes) in
    let holds = region-holds (size_word image.bytes) (max len (size_word image.bytes) + more) most (omega (
      arith,
      told,
    )) in
    let room = r.room in
    let small = t.small in
    omega (arith, holds, room, small)

-- and there is for the bytes that it was to have more
module _ (len extra : ℕ) (mode : Mode) (image : ReadDelta) (s : SegmentState)
    (r : OpensImageOk Current len extra mode image s) where
  -- what was opened is a segment
  pub segment-of : IsSegment s.cut.bytes
  segment-of = let d = r.opened.denotes in (d.0, r.opened.renewed.denotes d.0 d.1)

  room-is : length s.cut.bytes ≤ length r.region → room_of s.cut ≡ length r.region
  room-is fits =
      let before : length s.cut.before ≡ 0 = ap length r.opened.place.before in
      let after : length s.cut.after ≡ length (drop (0 + length image.bytes) r.region) =
      ap length r.opened.place.after in
      let left = length-drop (0 + length image.bytes) r.region in
      let same = r.opened.renewed.size in
      omega (
        arith,
        before,
        after,
        left,
        same,
        fits,
        length-append (s.cut.before ++ s.cut.bytes) s.cut.after,
        length-append s.cut.before s.cut.bytes,
      )

  -- a segment that is refused bytes in place is refused by its region alone
  pub grows-in-place : (error : GrowError)
      → IsRefusedBy s (Err error) (λ d. growth_refusal s.mode d.size extra (room_of s.cut)) → error ≡ RegionTooSmall → ⊥
  grows-in-place error refused is =
      let short = short_of_room s extra error is refused segment-of in
      let long = as-long image r.region mode s Current r.opened in
      let small = short.small in
      let beyond = short.short in
      let told = le-max_right len (size_word image.bytes) in
      let holds = region-holds (length s.cut.bytes + extra) (max len (size_word image.bytes) + extra) small
      (omega (arith, told, long)) in
      let room = r.room in
      let fits = room-is (omega (arith, holds, room)) in
      omega (arith, holds, room, beyond, fits)
