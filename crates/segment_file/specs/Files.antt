-- How the file of an image is read, and how it is written.
use Rattle.std.specs.Prelude.{◌≡◌, ◌≢◌, ◌⊎◌, ⊤, Bool, true, false, List, [], ◌∷◌, ℕ, Some, Result, MatchResult}
use Rattle.std.specs.Prelude.{Ok, Err}
use Rattle.raw_region.specs.Device.{ReadDelta, WriteDelta, IsProperPrefix}
use Rattle.segment_manager.specs.Directory.{Directory}
use Rattle.segment_manager.specs.State.{DenotesCurrent}
use Rattle.image_check.specs.Saving.{IsSaved}
use Rattle.segment_disk.specs.declared.presence.Comparison.{Comparison}
use Rattle.segment_disk.specs.declared.presence.Comparison.TheVariants.{Other, Different, Equal}
use Rattle.segment_disk.specs.declared.presence.NotOpened.{NotOpened}
use Rattle.segment_disk.specs.Events.{CreateMode, New, Truncate, Replacement, not_opened}
use Rattle.segment_disk.specs.Events.{Event, Opened, Read, Compared, Made, Wrote, Placed, Discarded, After}

-- ---- a file that is read

-- the events of a file that was opened, had this many bytes by what the disk told, gave this and was closed
abbrev pub open_events : List ℕ → ℕ → ReadDelta → List Event
open_events path len image = Opened path (Some len) ∷ Read image ∷ []

-- the events of a file that was not opened, for this reason
abbrev pub failed_open_events : List ℕ → NotOpened → List Event
failed_open_events path why = not_opened path why ∷ []

-- ---- a file that is written

-- all of an image
abbrev pub all_of : List ℕ → WriteDelta
all_of image = record { bytes = image; failed = false }

-- What became of it: another file had taken its name, and it was left alone; it had the image, and was left as it is;
-- it could not be made or emptied; it took something and was closed, and all that it took lasts or need not; or, made
-- beside the old one, it took all of an image, which lasts, and was put in the place of the old one, or need not have
-- been.
pub data WriteOutcome : Type 0 where
  Overtaken : WriteOutcome
  Unchanged : WriteOutcome
  NotMade : WriteOutcome
  Closed : WriteDelta → Bool → WriteOutcome
  Offered : List ℕ → Bool → WriteOutcome

-- a file that was made beside another and did not take its place is removed
abbrev pub leave_events : CreateMode → List ℕ → List Event
leave_events New path = []
leave_events Truncate path = []
leave_events Replacement path = Discarded path ∷ []

-- the questions of an exchange of files
abbrev pub place_events : List ℕ → Bool → List Event
place_events path true = Placed path true ∷ []
place_events path false = Placed path false ∷ Discarded path ∷ []

-- the questions for a file that is made
abbrev pub make_events : CreateMode → List ℕ → WriteOutcome → List Event
make_events how path Overtaken = []
make_events how path Unchanged = []
make_events how path NotMade = Made how path false ∷ []
make_events how path (Closed taken lasts) = Made how path true ∷ Wrote taken lasts ∷ leave_events how path
make_events how path (Offered image placed) = Made how path true ∷ Wrote (all_of image) true ∷ place_events path placed

-- before a file is emptied or replaced it is compared with the one that the right to write was given for, and with the
-- image
abbrev pub compare_events : CreateMode → List ℕ → List ℕ → Comparison → List Event → List Event
compare_events New path image found then = then
compare_events Truncate path image found then = Compared path image found ∷ then
compare_events Replacement path image found then = Compared path image found ∷ then

-- what that comparison found
abbrev pub comparison : WriteOutcome → Comparison
comparison Overtaken = Other
comparison Unchanged = Equal
comparison NotMade = Different
comparison (Closed taken lasts) = Different
comparison (Offered image placed) = Different

-- the questions for a file that is made, after the comparison
abbrev pub write_events : CreateMode → List ℕ → List ℕ → WriteOutcome → List Event
write_events how path image written =
    compare_events how path image (comparison written) (make_events how path written)

-- the file was made or emptied for the image, or has it
abbrev pub IsMade : WriteOutcome → Type 0
IsMade Overtaken = ⊥
IsMade Unchanged = ⊤
IsMade NotMade = ⊥
IsMade (Closed taken lasts) = ⊤
IsMade (Offered image placed) = ⊤

-- the whole image was written to the file, and lasts
abbrev pub whole_outcome : CreateMode → List ℕ → WriteOutcome
whole_outcome New image = Closed (all_of image) true
whole_outcome Truncate image = Closed (all_of image) true
whole_outcome Replacement image = Offered image true

-- the file that was to be emptied or replaced had the image, and was left as it is
pub record IsUnchanged (how : CreateMode) (written : WriteOutcome) : Type 0 where
  pub old : how ≢ New
  pub left : written ≡ Unchanged

-- the whole image is in the file: it was written and lasts, or stood there before
abbrev pub HasImage : CreateMode → List ℕ → WriteOutcome → Type 0
HasImage how image written = (written ≡ whole_outcome how image) ⊎ IsUnchanged how written

-- writing failed, and not all of the image was taken
pub record IsPartialWrite (image : List ℕ) (taken : WriteDelta) : Type 0 where
  pub part : IsProperPrefix taken.bytes image
  pub failed : taken.failed ≡ true

-- the file took not all of the image, since writing failed
pub record IsPartialFile (image : List ℕ) (written : WriteOutcome) : Type 0 where
  pub taken : WriteDelta
  pub lasts : Bool
  pub closed : written ≡ Closed taken lasts
  pub is_part : IsPartialWrite image taken

-- all of the image lasts beside the old file, whose place it need not have taken
pub record IsUnplaced (how : CreateMode) (image : List ℕ) (written : WriteOutcome) : Type 0 where
  pub beside : how ≡ Replacement
  pub offered : written ≡ Offered image false

-- the file that was to be emptied or replaced has another's name
pub record IsOvertaken (how : CreateMode) (written : WriteOutcome) : Type 0 where
  pub old : how ≢ New
  pub left : written ≡ Overtaken

-- why a file has not an image that lasts: another has its name, it was not made or emptied, it took not all of it, all
-- of it need not last, or did not take the place of the old file
abbrev pub IsUnwritten : CreateMode → List ℕ → WriteOutcome → Type 0
IsUnwritten how image written =
    IsOvertaken how written ⊎ ((written ≡ NotMade)
    ⊎ (IsPartialFile image written ⊎ ((written ≡ Closed (all_of image) false) ⊎ IsUnplaced how image written)))

-- an answer without the right that comes with it
abbrev pub without_hold : {H E : Type 0} → Result H E → Result (Unit {0}) E
without_hold (Ok hold) = Ok tt
without_hold (Err fault) = Err fault

-- a file that was open for writing took an image and was closed; Ok says that it took all of it, and that this lasts
pub record FillsFile {D E : Type 0} (step : D → Event → D
    → Type 0) (old new : D) (image : List ℕ) (result : Result (Unit {0}) E) : Type 0 where
  pub taken : WriteDelta
  pub lasts : Bool
  pub asked : step old (Wrote taken lasts) new
  pub fate : MatchResult result (λ u. (taken ≡ all_of image) × (lasts ≡ true)) (λ e. IsPartialWrite image taken
      ⊎ ((taken ≡ all_of image) × (lasts ≡ false)))
  pub accepted : (d : Directory) → DenotesCurrent image d → IsSaved image d

-- a file is made with an image, if no comparison was asked for or the file is the same
pub record MakesImage {D E : Type 0} (step : D → Event → D
    → Type 0) (old new : D) (how : CreateMode) (path image : List ℕ) (result : Result (Unit {0}) E) : Type 0 where
  pub written : WriteOutcome
  pub found : comparison written ≡ Different
  pub asked : After step old (make_events how path written) new
  pub fate : MatchResult result (λ u. written ≡ whole_outcome how image) (λ e. IsUnwritten how image written)
  pub accepted : IsMade written → (d : Directory) → DenotesCurrent image d → IsSaved image d

-- An image was written to a file, and nothing else was asked of the disk. If the answer is Ok it is whole there, and
-- lasts if it was written. A file that has the image is not written: it is only compared. A check accepts the image.
pub record WritesImage {D E : Type 0} (step : D → Event → D
    → Type 0) (old new : D) (how : CreateMode) (path image : List ℕ) (result : Result (Unit {0}) E) : Type 0 where
  pub written : WriteOutcome
  pub asked : After step old (write_events how path image written) new
  pub fate : MatchResult result (λ u. HasImage how image written) (λ e. IsUnwritten how image written)
  pub accepted : IsMade written → (d : Directory) → DenotesCurrent image d → IsSaved image d
