-- Whole histories of a file with its log: commits, checkpoints, crashes and openings that may crash too.
use Rattle.std.specs.Prelude.{◌≡◌, ◌⊎◌, ◌<◌, ℕ, ◌+◌, Bool, true, List, [], ◌∷◌, length, take}
use Rattle.segment_log.specs.Crashes.{LoggedFile}
use Rattle.segment_log.specs.Records.{IsAjar, IsEndOfLog}
use Rattle.segment_log.specs.Edits.{stands_for, StandsForOneOf}
use Rattle.segment_log.specs.Events.{seen_in_the_end, leaves_after}
use Rattle.segment_log.specs.Laws.{CommitOutcome, Committed, commit_events, shut_events, checkpoint_events}
use Rattle.segment_log.specs.Openings.{IsReady, IsPayloadFor}
use Rattle.segment_log.specs.Tags.{IsMidCommit}

-- What a program does with a file that it has open, each time with the answer Ok; or it crashes in a commit of an image
-- or in a checkpoint, however far that came, and opens the file again, after openings that crashed.
pub data LogOperation : Type 0 where
  Commits : List ℕ → List ℕ → LogOperation
  Checkpoints : LogOperation
  CrashesInCommit : List ℕ → List ℕ → CommitOutcome → ℕ → List (Bool × Bool × ℕ) → LogOperation
  CrashesInCheckpoint : Bool → Bool → Bool → ℕ → List (Bool × Bool × ℕ) → LogOperation

-- an opening that crashed while it shut the gate, or found it shut; then another that is done
abbrev pub Reopens : LoggedFile → List (Bool × Bool × ℕ) → LoggedFile → ℕ → Type 0
Reopens left [] now end =
    IsEndOfLog 4096 left.log end
    × ((IsAjar 4096 left.log end × (now ≡ seen_in_the_end left (shut_events end true true)))
    ⊎ ((IsAjar 4096 left.log end → ⊥) × (now ≡ left)))
Reopens left (crash ∷ crashes) now end =
    (at : ℕ) × IsEndOfLog 4096 left.log at × IsAjar 4096 left.log at
    × ((c : LoggedFile) × leaves_after left (take crash.2 (shut_events at crash.0 crash.1)) c
    × Reopens c crashes now end)

-- the file is read after a crash that left this, and opened in the end
pub record OpensAgain (left : LoggedFile) (crashes : List (Bool × Bool × ℕ)) (goes_on : LoggedFile → ℕ
    → Type 0) : Type 0 where
  pub now : LoggedFile
  pub end : ℕ
  pub opens : Reopens left crashes now end
  pub goes : goes_on now end

-- From a file that is ready, with this image, these operations lead to another.
abbrev pub OperationsLead : List LogOperation → LoggedFile → ℕ → List ℕ → LoggedFile → ℕ → List ℕ → Type 0
OperationsLead [] files end last now at found = (now ≡ files) × (at ≡ end) × (found ≡ last)
OperationsLead (Commits payload image ∷ operations) files end last now at found =
    IsPayloadFor files payload last image
    × OperationsLead operations (seen_in_the_end files (commit_events end payload Committed))
    (end + 4096 + 8 + length payload) image
    now at found
OperationsLead (Checkpoints ∷ operations) files end last now at found =
    (0 < end)
    × OperationsLead operations (seen_in_the_end files (checkpoint_events last true true true)) 0 last now at found
OperationsLead (CrashesInCommit payload image how k crashes ∷ operations) files end last now at found =
    IsPayloadFor files payload last image
    × ((c : LoggedFile) × leaves_after files (take k (commit_events end payload how)) c
    × OpensAgain c crashes (λ opened from. OperationsLead operations opened from (stands_for opened) now at found))
OperationsLead (CrashesInCheckpoint placed written synced k crashes ∷ operations) files end last now at found =
    (0 < end)
    × ((c : LoggedFile) × leaves_after files (take k (checkpoint_events last placed written synced)) c
    × OpensAgain c crashes (λ opened from. OperationsLead operations opened from (stands_for opened) now at found))

-- ---- the laws

-- An opening after a crash that left one of two images finds one of them, however often it crashed before, and the file
-- can take a commit.
abbrev pub OpeningFindsOne : Type 0
OpeningFindsOne = (left now : LoggedFile) (crashes : List (Bool × Bool × ℕ)) (end : ℕ) (last image : List ℕ)
    → IsMidCommit last image left → Reopens left crashes now end
    → IsReady now end (stands_for now) × StandsForOneOf last image now

-- After any history a file stands for the image of the last commit that was answered, or for what the last opening
-- found, with its own log, and can take another commit.
abbrev pub HistoriesStayReady : Type 0
HistoriesStayReady = (operations : List LogOperation) (files now : LoggedFile) (end at : ℕ) (last found : List ℕ)
    → IsReady files end last → OperationsLead operations files end last now at found → IsReady now at found
