-- What a migration owes: the image that it writes, and what each fault leaves.
use Rattle.std.specs.Prelude.{◌≡◌, ℕ, true, false, List, [], None, Result, Err, MatchResult}
use Rattle.raw_region.specs.Device.{ReadDelta, WriteDelta, IsProperPrefix}
use Rattle.raw_region.specs.Format.{current}
use Rattle.image_check.specs.Classes.{class_of}
use Rattle.image_check.specs.Formats.{format_of}
use Rattle.image_check.specs.Opening.{IsImage, IsOutOfMemory, IsReadToEnd, IsRefusedAs, IsTooSmallFor, IsUndecided}
use Rattle.image_check.specs.Upgrading.{UpgradesFormat}
use Rattle.image_check.specs.Passes.{IsMapRefused}
use Rattle.segment_cli.specs.declared.faults.SessionFault.{SessionFault}
use Rattle.segment_cli.specs.declared.faults.SessionFault.TheVariants.{Image as Refused, BadSize, RegionTooSmall}
use Rattle.segment_cli.specs.declared.faults.SessionFault.TheVariants.{OutOfMemory, ReadFault, WriteFault}
use Rattle.segment_cli.specs.declared.faults.SessionFault.TheVariants.{ScriptTooLong}

-- the image was read to its end and denotes a directory by its format, and the new image is that of this directory by
-- the current one
pub record IsNewImage (image : ReadDelta) (new : List ℕ) : Type 0 where
  pub read : IsReadToEnd image
  pub denotes : IsImage (format_of image.bytes) image.bytes
  pub renewed : UpgradesFormat (format_of image.bytes) image.bytes new
  -- which is accepted again
  pub accepted : class_of current new ≡ None

-- the new image went out
pub record IsMigrated (image : ReadDelta) (saved : WriteDelta) : Type 0 where
  pub new : IsNewImage image saved.bytes
  pub failed : saved.failed ≡ false

-- the writer failed, and of the new image a proper prefix went out
pub record MigrateWriteFails (image : ReadDelta) (saved : WriteDelta) : Type 0 where
  pub image_of : List ℕ
  pub new : IsNewImage image image_of
  pub part : IsProperPrefix saved.bytes image_of
  pub failed : saved.failed ≡ true

-- nothing went out
pub record IsNothingSaved (saved : WriteDelta) (cause : Type 0) : Type 0 where
  pub why : cause
  pub bytes : saved.bytes ≡ []
  pub failed : saved.failed ≡ false

-- a migration ended with this fault, for the reason that the fault names
abbrev pub IsMigrationFault : ℕ → ℕ → ReadDelta → WriteDelta → SessionFault → Type 0
IsMigrationFault base capacity image saved (Refused c) = IsNothingSaved saved
    (IsRefusedAs (format_of image.bytes) image c)
IsMigrationFault base capacity image saved BadSize = ⊥
IsMigrationFault base capacity image saved RegionTooSmall = IsNothingSaved saved
    (IsTooSmallFor (format_of image.bytes) image base capacity)
IsMigrationFault base capacity image saved (OutOfMemory refusal) = IsNothingSaved saved
    (IsOutOfMemory (format_of image.bytes) image × IsMapRefused image.bytes refusal)
IsMigrationFault base capacity image saved ReadFault = IsNothingSaved saved (IsUndecided (format_of image.bytes) image)
IsMigrationFault base capacity image saved WriteFault = MigrateWriteFails image saved
IsMigrationFault base capacity image saved ScriptTooLong = ⊥

-- the answer of a migration in a region of this capacity
pub record IsMigration (base capacity : ℕ) (image : ReadDelta) (saved : WriteDelta)
    (result : Result (Unit {0}) SessionFault) : Type 0 where
  pub answers : MatchResult result (λ u. IsMigrated image saved) (IsMigrationFault base capacity image saved)
  -- this one is answered wherever it applies
  pub too_small : IsTooSmallFor (format_of image.bytes) image base capacity → result ≡ Err RegionTooSmall
