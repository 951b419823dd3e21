-- A session begins with the segment of an image that was opened.
use Rattle.std.proofs.Common.{◌≡◌, ℕ, refl, sym, subst, List, length, Ok}
use Rattle.raw_region.specs.Device.{ReadDelta}
use Rattle.raw_region.specs.Format.{current}
use Rattle.segment_manager.specs.declared.modes.Mode.{Mode}
use Rattle.segment_manager.specs.Calls.{HasZeroGaps}
use Rattle.segment_manager.specs.State.{SegmentState, DenotesCurrent}
use Rattle.image_check.specs.Opening.{OpensOk, IsTooSmallFor}
use Rattle.segment_cli.specs.declared.faults.Start.TheVariants.{Image}
use Rattle.segment_cli.specs.Beginning.{BeginsSession}
use Rattle.segment_cli.specs.Session.{HasZeroGapsIn}

module _ (image : ReadDelta) (region : List ℕ) where
  zeros_read : (s : SegmentState) → s.cut.bytes ≡ image.bytes → HasZeroGapsIn image.bytes → HasZeroGaps s
  zeros_read s e h = record { zeros = (subst HasZeroGapsIn (sym e) h).zeros }

  -- a session begins with the segment of an opened image
  pub begun : (mode : Mode) (s : SegmentState) → OpensOk current image region 0 mode s
      → (IsTooSmallFor current image 0 (length region) → ⊥)
      → BeginsSession Image mode 0 (length region) image (Ok s)
  begun mode s h small =
      let d = h.denotes.0 in
      let stands : DenotesCurrent image.bytes d = record { denotes = h.denotes.1 } in
      record {
        answers = record {
          from = d;
          begins = (h.read.ended, stands);
          mode = h.mode;
          stands = subst (λ (b : List ℕ). DenotesCurrent b d) (sym (h.renewed.same refl)) stands;
          zeros = λ zero. zeros_read s (h.renewed.same refl) zero;
          read = h.read.failed;
        };
        left = tt;
        bad_size = λ p. absurd p;
        too_small = λ p. absurd (small p);
      }
