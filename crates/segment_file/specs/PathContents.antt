-- What stands under the path of a file, with the log beside it: by what a disk was asked, one question after another.
use Rattle.std.specs.Prelude.{◌≡◌, ◌⊎◌, ◌&&◌, ⊤, ℕ, Bool, true, false, not, List, Option, Some, None, fold, take}
use Rattle.std.specs.Prelude.{if◌then◌else◌}
use Rattle.std.specs.Str.{bytes_eq}
use Rattle.raw_region.specs.Device.{WriteDelta}
use Rattle.segment_disk.specs.Events.{CreateMode, New, Truncate, Replacement}
use Rattle.segment_disk.specs.Events.{Event, Looked, Held, Released, Opened, HasForeignLog, Read, Compared, Made, Wrote}
use Rattle.segment_disk.specs.Events.{Placed, Discarded, LogBegun, LogEnded, Synced}
use Rattle.segment_log.specs.Edits.{stands_for}
use Rattle.segment_file.specs.Files.{WriteOutcome, Overtaken, Unchanged, NotMade, Closed, Offered, IsUnwritten}
use Rattle.segment_file.specs.Files.{HasImage, whole_outcome, write_events}
use Rattle.segment_disk.specs.declared.presence.Comparison.{Comparison}
use Rattle.segment_disk.specs.declared.presence.Comparison.TheVariants.{Other, Different, Equal}

-- what a path holds: these bytes, whole; one of two, each whole; or a file that was made or emptied and need not be
-- whole
pub data PathContents : Type 0 where
  Whole : List ℕ → PathContents
  EitherOf : List ℕ → List ℕ → PathContents
  Torn : PathContents

-- which file is open for writing: none, the one under the path, or the one that was made beside it
pub data WriteTarget : Type 0 where
  Neither : WriteTarget
  Named : WriteTarget
  Aside : WriteTarget

-- what stands under a path, which file is open for writing, and what the file beside holds
pub record FileState : Type 0 where
  pub named : PathContents
  pub target : WriteTarget
  -- what the file that was made beside holds, if all of it lasts
  pub beside : Option (List ℕ)

-- all that a file took, if no write failed and all of it lasts
abbrev pub lasting : WriteDelta → Bool → Option (List ℕ)
lasting taken lasts = if lasts && not taken.failed then Some taken.bytes else None

abbrev pub standing_as : Option (List ℕ) → PathContents
standing_as (Some bytes) = Whole bytes
standing_as None = Torn

-- a file was made, emptied, or made beside
abbrev pub made : CreateMode → FileState → FileState
made New s = record { named = Torn; target = Named; beside = s.beside }
made Truncate s = record { named = Torn; target = Named; beside = s.beside }
made Replacement s = record { named = s.named; target = Aside; beside = None }

-- the file that is open was closed with this
abbrev pub closed : Option (List ℕ) → WriteTarget → FileState → FileState
closed bytes Neither s = s
closed bytes Named s = record s { named = standing_as bytes; target = Neither }
closed bytes Aside s = record s { target = Neither; beside = bytes }

-- one of these and what stood there before
abbrev pub or_else : List ℕ → PathContents → PathContents
or_else new (Whole old) = EitherOf old new
or_else new (EitherOf a b) = Torn
or_else new Torn = Torn

-- what stands there when the file that was made beside was to take its place: it does, or either does
abbrev pub in_place_of : PathContents → Option (List ℕ) → Bool → PathContents
in_place_of old bytes true = standing_as bytes
in_place_of old (Some bytes) false = or_else bytes old
in_place_of old None false = Torn

-- a file that was compared with an image, and has it
abbrev pub compared : List ℕ → Comparison → FileState → FileState
compared image Other s = s
compared image Different s = s
compared image Equal s = record s { named = Whole image }

abbrev pub after_event : List ℕ → FileState → Event → FileState
after_event path s (Looked p found) = s
after_event path s (Held p given) = s
after_event path s Released = s
after_event path s (Opened p is_open) = s
after_event path s (HasForeignLog p) = s
after_event path s (Read image) = s
after_event path s (Compared p image found) = if bytes_eq p path then compared image found s else s
after_event path s (Made how p true) = if bytes_eq p path then made how s else record s { target = Neither }
after_event path s (Made how p false) = s
after_event path s (Wrote taken lasts) = closed (lasting taken lasts) s.target s
after_event path s (Placed p placed) =
    if bytes_eq p path then record s { named = in_place_of s.named s.beside placed } else s
after_event path s (Discarded p) = if bytes_eq p path then record s { beside = None } else s
after_event path s (LogBegun p (Some files)) =
    if bytes_eq p path then record s { named = Whole (stands_for files) } else s
after_event path s (LogBegun p None) = s
after_event path s (LogEnded p) = s
after_event path s (Synced p lasts) = s

-- what stands under the path after these events, if a whole file stood there before
abbrev pub standing : List ℕ → List ℕ → List Event → PathContents
standing path old events = (fold (after_event path) (record { named = Whole old; target = Neither; beside = None })
    events).named

-- one of the two, whole
abbrev pub IsOneOf : List ℕ → List ℕ → PathContents → Type 0
IsOneOf old new (Whole bytes) = (bytes ≡ old) ⊎ (bytes ≡ new)
IsOneOf old new (EitherOf a b) = ((a ≡ old) ⊎ (a ≡ new)) × ((b ≡ old) ⊎ (b ≡ new))
IsOneOf old new Torn = ⊥

-- the new file was not made, or was closed and not to take the place of the old one
abbrev pub IsNotOffered : WriteOutcome → Type 0
IsNotOffered Overtaken = ⊤
IsNotOffered Unchanged = ⊥
IsNotOffered NotMade = ⊤
IsNotOffered (Closed taken lasts) = ⊤
IsNotOffered (Offered image placed) = ⊥

-- ---- the laws

-- At each point of a save that replaces, however it ends, the old image or the new one stands whole under the path.
abbrev pub ReplacingKeepsOneWhole : Type 0
ReplacingKeepsOneWhole = (path old image : List ℕ) (written : WriteOutcome)
    → HasImage Replacement image written ⊎ IsUnwritten Replacement image written
    → (k : ℕ) → IsOneOf old image (standing path old (take k (write_events Replacement path image written)))

-- the law: if writing failed before the new file was to take its place, the path holds the old image
abbrev pub UnplacedLeavesTheOld : Type 0
UnplacedLeavesTheOld = (path old image : List ℕ) (written : WriteOutcome) → IsNotOffered written
    → standing path old (write_events Replacement path image written) ≡ Whole old

-- Any save that is done ends with the new image.
abbrev pub SavingEndsWhole : Type 0
SavingEndsWhole = (how : CreateMode) (path old image : List ℕ) (written : WriteOutcome) → HasImage how image written
    → standing path old (write_events how path image written) ≡ Whole image

-- One that empties the file leaves neither whole in between.
abbrev pub EmptyingTears : Type 0
EmptyingTears = (path old image : List ℕ)
    → standing path old (take 2 (write_events Truncate path image (whole_outcome Truncate image))) ≡ Torn
