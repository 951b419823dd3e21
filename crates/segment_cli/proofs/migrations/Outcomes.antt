-- What a migration answers, from what opening the image answered.
use Rattle.std.proofs.Common.{◌≡◌, ℕ, false, true, List, length, Ok, Err, sym, ap, subst}
use Rattle.raw_region.specs.Device.{ReadDelta, WriteDelta, IsProperPrefix}
use Rattle.segment_manager.specs.{declared.modes.Mode.Mode, Directory.Directory, State.SegmentState}
use Rattle.segment_manager.specs.{State.DenotesCurrent}
use Rattle.image_check.specs.declared.errors.OpenError.TheVariants.{Image as NoImage, RegionTooSmall as NoRoomForImage}
use Rattle.image_check.specs.declared.errors.OpenError.TheVariants.{OutOfMemory as NoMemory, ReadFault as NotRead}
use Rattle.image_check.specs.{declared.errors.OpenError.OpenError, declared.errors.OpenRefused.OpenRefused}
use Rattle.image_check.specs.{Formats.format_of, Opening.IsOpenCause, Opening.Opens, Saving.IsSaved}
use Rattle.segment_cli.specs.Migration.{IsMigration, IsMigrationFault, IsNewImage}
use Rattle.segment_cli.specs.{declared.faults.SessionFault.TheVariants.WriteFault, Beginning.opened_fault}
use Rattle.segment_cli.proofs.sessions.Ends.{IsUnwritten, failed}

-- ---- no segment

fault-why : (base capacity : ℕ) (image : ReadDelta) (saved : WriteDelta) (cause : OpenError) → IsUnwritten saved
    → IsOpenCause (format_of image.bytes) image base capacity cause
    → IsMigrationFault base capacity image saved (opened_fault cause)
fault-why base capacity image saved (NoImage v) u why = record { why = why; bytes = u.bytes; failed = u.failed }
fault-why base capacity image saved NoRoomForImage u why = record { why = why; bytes = u.bytes; failed = u.failed }
fault-why base capacity image saved (NoMemory refusal) u why = record { why = why; bytes = u.bytes; failed = u.failed }
fault-why base capacity image saved NotRead u why = record { why = why; bytes = u.bytes; failed = u.failed }

-- an image that was not opened is not migrated
pub not-migrated : (region : List ℕ) (base : ℕ) (mode : Mode) (image : ReadDelta) (saved : WriteDelta)
    (refused : OpenRefused)
    → Opens (format_of image.bytes) image region base mode (Err refused) → IsUnwritten saved
    → IsMigration base (length region) image saved (Err (opened_fault refused.cause))
not-migrated region base mode image saved refused o u = record {
  answers = fault-why base (length region) image saved refused.cause u o.answers.why;
  too_small = λ t. ap (λ (c : OpenError). failed (opened_fault c)) (o.too_small t);
}

-- ---- a segment

module _ (region : List ℕ) (base : ℕ) (mode : Mode) (image : ReadDelta) (saved : WriteDelta) (s : SegmentState)
    (o : Opens (format_of image.bytes) image region base mode (Ok s))
    (again : (d : Directory) → DenotesCurrent s.cut.bytes d → IsSaved s.cut.bytes d) where
  new-image : IsNewImage image s.cut.bytes
  new-image =
      let there = o.answers.denotes in let stands = o.answers.renewed.denotes there.0 there.1 in
      record {
        read = o.answers.read;
        denotes = there;
        renewed = o.answers.renewed;
        accepted = (again there.0 stands).accepted;
      }

  -- an image that was written whole is migrated
  pub migrated : saved.bytes ≡ s.cut.bytes → saved.failed ≡ false → IsMigration base (length region) image saved (Ok tt)
  migrated e f = record {
    answers = record { new = subst (IsNewImage image) (sym e) new-image; failed = f };
    too_small = λ t. absurd (o.too_small t);
  }

  -- an image that was not written whole is not migrated
  pub unmigrated : IsProperPrefix saved.bytes s.cut.bytes → saved.failed ≡ true
      → IsMigration base (length region) image saved (Err WriteFault)
  unmigrated p f = record {
    answers = record { image_of = s.cut.bytes; new = new-image; part = p; failed = f };
    too_small = λ t. absurd (o.too_small t);
  }
