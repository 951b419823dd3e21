-- What a disk was asked, and what it answered.
use Rattle.std.specs.Prelude.{◌≡◌, ℕ, Bool, false, List, [], ◌∷◌, Option, None}
use Rattle.raw_region.specs.Device.{ReaderHistory, ReadDelta, WriterHistory, WriteDelta}
use Rattle.segment_log.specs.Crashes.{LoggedFile}
use Rattle.segment_disk.specs.declared.presence.Comparison.{Comparison}
use Rattle.segment_disk.specs.declared.presence.NotOpened.{NotOpened}
use Rattle.segment_disk.specs.declared.presence.NotOpened.TheVariants.{Fault, ForeignLog}
use Rattle.segment_disk.specs.declared.presence.Presence.{Presence}
use Rattle.segment_disk.specs.declared.presence.SaveMode.{SaveMode}
use Rattle.segment_disk.specs.declared.presence.SaveMode.TheVariants.{InPlace, Replacing}

-- How a file comes to be open for writing with no byte in it: it is made, and must not be there; it is emptied; or it
-- is made beside the file of this path, which stays as it is until the new one is put in its place.
pub data CreateMode : Type 0 where
  New : CreateMode
  Truncate : CreateMode
  Replacement : CreateMode

-- that of a file that is held
abbrev pub create_mode_of : SaveMode → CreateMode
create_mode_of InPlace = Truncate
create_mode_of Replacing = Replacement

-- one question with its answer; paths are texts
pub data Event : Type 0 where
  -- what is there under a path
  Looked : List ℕ → Presence → Event
  -- the right to write a file was asked for; it was given, or another has it
  Held : List ℕ → Bool → Event
  -- the right that was given last was given back
  Released : Event
  -- a file was to be opened for reading; it was, and has this many bytes, as far as that is known, or it was not
  Opened : List ℕ → Option ℕ → Event
  -- a file was to be opened for reading, and was not, since the log beside it is of another file
  HasForeignLog : List ℕ → Event
  -- the file that was opened last was closed, which had given this
  Read : ReadDelta → Event
  -- the file of this path was compared with the one that the right to write was given for last, and its bytes with an
  -- image; another has taken its name, or it is that one, as far as that is known, and has the image or has it not
  Compared : List ℕ → List ℕ → Comparison → Event
  -- a file was to be made or emptied for writing, or made beside the one of this path, and was or was not
  Made : CreateMode → List ℕ → Bool → Event
  -- the file that was made or emptied last was closed, which had taken this, and all that it took lasts, or need not
  Wrote : WriteDelta → Bool → Event
  -- the file that was made beside the one of this path was to be put in its place, and was, or need not have been
  Placed : List ℕ → Bool → Event
  -- it was to be removed
  Discarded : List ℕ → Event
  -- a log was to be put beside the file of this path, with the records of the one that is there; that was done, the
  -- file and the log have these bytes, and both last; or it was not. Both stand for the same image as before.
  LogBegun : List ℕ → Option LoggedFile → Event
  -- the log that was put beside the file, and has no record, was to be removed
  LogEnded : List ℕ → Event
  -- the file of this path and its log were to be written through, with their names; they were, or need not have been
  Synced : List ℕ → Bool → Event

-- a file was not opened for reading
abbrev pub not_opened : List ℕ → NotOpened → Event
not_opened path Fault = Opened path None
not_opened path ForeignLog = HasForeignLog path

-- Of a disk, where one question leads from a state to a state: these were asked in this order, and no others.
abbrev pub After : {D : Type 0} → (D → Event → D → Type 0) → D → List Event → D → Type 0
After step old [] new = new ≡ old
After {D} step old (e ∷ es) new = (next : D) × step old e next × After step next es new

-- a reader that gave nothing yet, and a writer that took nothing
abbrev pub nothing_given : ReaderHistory
nothing_given = record { bytes = []; ended = false; ends = 0; failures = 0 }

-- a writer that took nothing yet
abbrev pub nothing_taken : WriterHistory
nothing_taken = record { bytes = []; failures = 0 }

-- Of an output: it was flushed last, and took nothing since; ok says whether all that it took went out.
pub record IsFlushed {O : Type 0} (history : O → WriterHistory) (flushes : O → Bool → O
    → Type 0) (out : O) (ok : Bool) : Type 0 where
  pub before : O
  pub flush : flushes before ok out
  pub same : history out ≡ history before
