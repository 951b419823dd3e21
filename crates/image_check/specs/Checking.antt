-- The result of the check of an image in its window.
use Rattle.std.specs.Prelude.{◌≡◌, ℕ, Bool, false, Option, Some, None, List, IsTrue, if◌then◌else◌, MatchResult, Result}
use Rattle.raw_region.specs.Memory.{Memory, SameSurroundings, WindowState, whole}
use Rattle.block_tags.specs.declared.tile.Tile.{Tile}
use Rattle.image_check.specs.declared.classes.ImageClass.{ImageClass}
use Rattle.image_check.specs.declared.classes.ImageClass.TheVariants.{BadIndex, BadObject, SharedBlock, BadContainer}
use Rattle.image_check.specs.declared.classes.ImageClass.TheVariants.{OrphanBlock}
use Rattle.image_check.specs.ObjectTests.{has_indexes, has_objects}
use Rattle.image_check.specs.Fields.{is_shared, is_orphaned, has_containers}
use Rattle.image_check.specs.Owners.{Blocks, entries_of, frames}
use Rattle.image_check.specs.Passes.{CountsTiles, HasTiles, IsMapRefused, Spends, tiles_in, has_block}
use Rattle.image_check.specs.declared.errors.OpenError.{OpenError}
use Rattle.image_check.specs.declared.errors.OpenError.TheVariants.{Image, OutOfMemory}
use Rattle.image_check.specs.declared.errors.OpenRefused.{OpenRefused}
use Rattle.segment_manager.specs.declared.modes.Mode.{Mode}
use Rattle.segment_manager.specs.State.{SegmentState}
use Rattle.image_check.specs.Opening.{IsImage, has_early_class}
use Rattle.image_check.specs.Upgrading.{UpgradesFormat}
use Rattle.image_check.specs.Verdicts.{IsVerdict}
use Rattle.image_check.specs.Visits.{all_rates}

-- the first class from the eighth on, by the five tests
abbrev pub late_by : Bool → Bool → Bool → Bool → Bool → Option ImageClass
late_by indexes objects shared containers orphaned =
    if indexes then (if objects then
    (if shared then Some SharedBlock else
    (if containers then (if orphaned then Some OrphanBlock else None) else Some BadContainer))
    else Some BadObject) else Some BadIndex

-- the first class from the eighth on, for the blocks of the tiles
unfoldable pub late_class : ℕ → Memory → List Tile → Option ImageClass
late_class format m ts = late_by (has_indexes m ts) (has_objects format m ts) (is_shared format m ts)
    (has_containers format m ts) (is_orphaned format m ts)

-- the reason why an image in its window is refused
abbrev pub IsWhyRefused : ℕ → List ℕ → OpenError → Type 0
IsWhyRefused format b (Image v) = IsVerdict format b v
IsWhyRefused format b (OutOfMemory refusal) =
    (has_early_class format b ≡ false) × IsTrue (has_block b) × IsMapRefused b refusal
IsWhyRefused format b cause = ⊥

-- all passes over an image succeeded: the map has its blocks, and the passes kept within their bound of visits
pub record PassesImage (b : List ℕ) (es : Blocks) (old new : ℕ) : Type 0 where
  pub tiles : HasTiles b
  pub frame : frames es ≡ frames (entries_of (tiles_in b))
  pub spent : Spends all_rates 115 b old new
  pub counted : CountsTiles b old new

-- ---- an image in its window

-- the image denotes a directory, and the segment at the window's place has this directory in the current format
pub record OpensWindowOk (format : ℕ) (w : WindowState) (how : Mode) (s : SegmentState) : Type 0 where
  pub image : IsImage format w.bytes
  pub place : SameSurroundings w s.cut
  pub upgrade : UpgradesFormat format w.bytes s.cut.bytes
  pub mode : s.mode ≡ how

-- the image is refused, and its region is returned unchanged
pub record OpensWindowErr (format : ℕ) (w : WindowState) (refused : OpenRefused) : Type 0 where
  pub why : IsWhyRefused format w.bytes refused.cause
  pub region : refused.region ≡ whole w

-- the call opens the image, or refuses it
abbrev pub OpensWindow : ℕ → WindowState → Mode → Result SegmentState OpenRefused → Type 0
OpensWindow format w mode result = MatchResult result (OpensWindowOk format w mode) (OpensWindowErr format w)
