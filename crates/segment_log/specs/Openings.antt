-- What opening finds: the image that a file stands for with its own log, after a crash at any moment.
use Rattle.std.specs.Prelude.{◌≡◌, ◌<◌, ◌^◌, ℕ, ◌+◌, Bool, true, List, [], length, take}
use Rattle.segment_log.specs.Crashes.{LoggedFile, Only}
use Rattle.segment_log.specs.Records.{recovered, EndsShut, IsAjar, IsEndOfLog}
use Rattle.segment_log.specs.Edits.{applied, stands_for}
use Rattle.segment_log.specs.Events.{LogEvent, seen_in_the_end, leaves_after}
use Rattle.segment_log.specs.Fingerprints.{fingerprint}
use Rattle.segment_log.specs.Laws.{CommitOutcome, Committed, commit_events, shut_events, checkpoint_events}
use Rattle.segment_log.specs.Tags.{AreTogether, IsMidCommit, KeepsImage, names_base, names_image}

-- the file stands for this image with its own log, which can take another record at this offset
pub record IsReady (files : LoggedFile) (end : ℕ) (image : List ℕ) : Type 0 where
  pub ends : EndsShut 4096 files.log end
  pub own : AreTogether files
  pub stands : stands_for files ≡ image

-- the payload makes the new image of the last one, and names the file and the new image
pub record IsPayloadFor (files : LoggedFile) (payload last new : List ℕ) : Type 0 where
  pub makes : applied payload last ≡ new
  pub base : recovered files.log ≡ [] → names_base (fingerprint files.base) payload ≡ true
  pub after : names_image (fingerprint new) payload ≡ true
  pub max_len : length payload < 256 ^ 8

-- the calls are done: each crash from then on leaves a file and a log that stand for this image
pub record EndsReady (files : LoggedFile) (events : List LogEvent) (end : ℕ) (image : List ℕ) : Type 0 where
  pub ready : IsReady (seen_in_the_end files events) end image
  pub lasts : Only (seen_in_the_end files events) (leaves_after files events)

-- ---- the laws

-- After a crash at any moment of a commit, opening finds the last image or the new one.
abbrev pub CommitFindsOne : Type 0
CommitFindsOne = (files : LoggedFile) (end : ℕ) (payload last new : List ℕ) (how : CommitOutcome)
    → IsReady files end last → IsPayloadFor files payload last new
    → (k : ℕ) (c : LoggedFile) → leaves_after files (take k (commit_events end payload how)) c → IsMidCommit last new c

-- After a commit that is done, opening finds the new image.
abbrev pub CommittedFindsTheNew : Type 0
CommittedFindsTheNew = (files : LoggedFile) (end : ℕ) (payload last new : List ℕ)
    → IsReady files end last → IsPayloadFor files payload last new
    → EndsReady files (commit_events end payload Committed) (end + 4096 + 8 + length payload) new

-- A file that opening found, whose log ends with a shut gate, can take a commit.
abbrev pub ShutIsReady : Type 0
ShutIsReady = (files : LoggedFile) (end : ℕ) → IsEndOfLog 4096 files.log end → (IsAjar 4096 files.log end → ⊥)
    → AreTogether files → IsReady files end (stands_for files)

-- After a crash at any moment of an opening, which shuts a gate that is ajar, another finds the same image.
abbrev pub RepairFindsTheSame : Type 0
RepairFindsTheSame = (files : LoggedFile) (end : ℕ) (written synced : Bool) → IsEndOfLog 4096 files.log end
    → IsAjar 4096 files.log end → AreTogether files
    → (k : ℕ) (c : LoggedFile) → leaves_after files (take k (shut_events end written synced)) c
    → KeepsImage (stands_for files) c

-- After an opening that has shut the gate, the file can take a commit.
abbrev pub RepairedIsReady : Type 0
RepairedIsReady = (files : LoggedFile) (end : ℕ) → IsEndOfLog 4096 files.log end → AreTogether files
    → EndsReady files (shut_events end true true) end (stands_for files)

-- After a crash at any moment of a checkpoint, opening finds the image.
abbrev pub CheckpointFindsTheSame : Type 0
CheckpointFindsTheSame = (files : LoggedFile) (end : ℕ) (image : List ℕ) (placed written synced : Bool)
    → IsReady files end image → 0 < end
    → (k : ℕ) (c : LoggedFile) → leaves_after files (take k (checkpoint_events image placed written synced)) c
    → KeepsImage image c

-- After a checkpoint that is done, the file has the image, and its log is empty.
abbrev pub CheckpointedIsReady : Type 0
CheckpointedIsReady = (files : LoggedFile) (end : ℕ) (image : List ℕ) → IsReady files end image → 0 < end
    → EndsReady files (checkpoint_events image true true true) 0 image
