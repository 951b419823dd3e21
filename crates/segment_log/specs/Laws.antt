-- What holds of a commit, of a repair and of a checkpoint, at each moment.
use Rattle.std.specs.Prelude.{◌≡◌, ◌<◌, ◌^◌, ℕ, ◌+◌, Bool, true, false, List, [], ◌∷◌, ◌++◌, length, take}
use Rattle.segment_log.specs.Crashes.{LoggedFile}
use Rattle.segment_log.specs.Records.{recovered, record_body, open_gate, shut_gate, EndsShut, IsAjar, IsEndOfLog}
use Rattle.segment_log.specs.Records.{KeepsOrAddsRecord}
use Rattle.segment_log.specs.Edits.{stands_for}
use Rattle.segment_log.specs.Events.{LogEvent, Wrote, Synced, Placed, seen_in_the_end, leaves_after}

-- how a commit ends: the body was not written, or need not last; the gate was not opened, or need not last; it is done
pub data CommitOutcome : Type 0 where
  Unwritten : CommitOutcome
  Unsynced : CommitOutcome
  Unmarked : CommitOutcome
  Unsure : CommitOutcome
  Committed : CommitOutcome

-- the calls of a commit: the body and a sync, then the gate and a sync, up to the one that fails
abbrev pub commit_events : ℕ → List ℕ → CommitOutcome → List LogEvent
commit_events end payload Unwritten = Wrote (end + 4096) (record_body payload) false ∷ []
commit_events end payload Unsynced = Wrote (end + 4096) (record_body payload) true ∷ Synced false ∷ []
commit_events end payload Unmarked =
    Wrote (end + 4096) (record_body payload) true ∷ Synced true ∷ Wrote end open_gate false ∷ []
commit_events end payload Unsure =
    Wrote (end + 4096) (record_body payload) true ∷ Synced true ∷ Wrote end open_gate true ∷ Synced false ∷ []
commit_events end payload Committed =
    Wrote (end + 4096) (record_body payload) true ∷ Synced true ∷ Wrote end open_gate true ∷ Synced true ∷ []

-- At each moment of a commit, however it ends, a crash leaves the records from before it, with the new one or without.
abbrev pub CommitKeepsOne : Type 0
CommitKeepsOne = (files : LoggedFile) (end : ℕ) (payload : List ℕ) (how : CommitOutcome)
    → EndsShut 4096 files.log end → length payload < 256 ^ 8
    → (k : ℕ) (c : LoggedFile) → leaves_after files (take k (commit_events end payload how)) c
    → KeepsOrAddsRecord files payload c

-- the file and its log, with one record more
pub record AddsRecord (files now : LoggedFile) (end : ℕ) (payload : List ℕ) (may : LoggedFile → Type 0) : Type 0 where
  pub base : now.base ≡ files.base
  pub added : recovered now.log ≡ recovered files.log ++ payload ∷ []
  pub ends : EndsShut 4096 now.log end
  pub lasts : (c : LoggedFile) → may c → c ≡ now

-- A commit that is done lasts: each crash from then on leaves its record, and the log can take another.
abbrev pub CommittedLasts : Type 0
CommittedLasts = (files : LoggedFile) (end : ℕ) (payload : List ℕ) → EndsShut 4096 files.log end
    → length payload < 256 ^ 8
    → AddsRecord files (seen_in_the_end files (commit_events end payload Committed))
    (end + 4096 + 8 + length payload) payload (leaves_after files (commit_events end payload Committed))

-- bytes are written at an offset and written through, up to the call that fails
abbrev pub through_events : ℕ → List ℕ → Bool → Bool → List LogEvent
through_events at bytes false synced = Wrote at bytes false ∷ []
through_events at bytes true synced = Wrote at bytes true ∷ Synced synced ∷ []

-- the shut gate is written so
abbrev pub shut_events : ℕ → Bool → Bool → List LogEvent
shut_events at written synced = through_events at shut_gate written synced

-- At each moment of a repair of the log's end, a crash leaves the image.
abbrev pub RepairKeepsTheImage : Type 0
RepairKeepsTheImage = (files : LoggedFile) (end : ℕ) (written synced : Bool) → IsEndOfLog 4096 files.log end
    → IsAjar 4096 files.log end
    → (k : ℕ) (c : LoggedFile) → leaves_after files (take k (shut_events end written synced)) c
    → stands_for c ≡ stands_for files

-- the calls of a checkpoint, whose new file takes the place of the old one, or need not have
abbrev pub checkpoint_events : List ℕ → Bool → Bool → Bool → List LogEvent
checkpoint_events image false written synced = Placed image false ∷ []
checkpoint_events image true written synced = Placed image true ∷ shut_events 0 written synced

-- At each moment of a checkpoint, however it ends, a crash leaves the image.
abbrev pub CheckpointKeepsTheImage : Type 0
CheckpointKeepsTheImage = (files : LoggedFile) (end : ℕ) (placed written synced : Bool)
    → EndsShut 4096 files.log end → 0 < end
    → (k : ℕ) (c : LoggedFile) → leaves_after files (take k
    (checkpoint_events (stands_for files) placed written synced)) c
    → stands_for c ≡ stands_for files
