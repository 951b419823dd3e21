-- The laws of a commit, of a repair and of a checkpoint, call by call.
use Rattle.std.proofs.Common.{◌≡◌, ◌⊎◌, inl, ℕ, ◌+◌, ◌-◌, ◌^◌, ◌<◌, Bool, true, false, List, length, get_or, refl, ap}
use Rattle.segment_log.specs.Crashes.{LoggedFile, TornFrom, ReplacedFrom}
use Rattle.segment_log.specs.Records.{recovered, record_body, open_gate, shut_gate, EndsShut, IsEndOfLog}
use Rattle.segment_log.specs.Records.{KeepsOrAddsRecord}
use Rattle.segment_log.specs.Edits.{stands_for}
use Rattle.segment_log.specs.Events.{Wrote, seen_after, seen_in_the_end, leaves_after}
use Rattle.segment_log.specs.Laws.{CommitOutcome, Unwritten, Unsynced, Unmarked, Unsure, Committed}
use Rattle.segment_log.specs.Laws.{commit_events, CommitKeepsOne, AddsRecord, CommittedLasts, shut_events}
use Rattle.segment_log.specs.Laws.{RepairKeepsTheImage, checkpoint_events, CheckpointKeepsTheImage}
use Rattle.segment_log.proofs.theorems.Always.{Always, at_each}
use Rattle.segment_log.proofs.records.Pieces.{length-shut}
use Rattle.segment_log.proofs.theorems.Steps.{stage_moment, gate_moment, one_added, ends_there, settled_files}
use Rattle.segment_log.proofs.theorems.Ends.{same_image, repair_moment, mid_image, replaced_moment, emptied_moment}

module _ (files : LoggedFile) (end : ℕ) (payload : List ℕ) (ends : EndsShut 4096 files.log end)
    (small : length payload < 256 ^ 8) where
  abbrev P : LoggedFile → Type 0
  P = KeepsOrAddsRecord files payload

  abbrev first_may : LoggedFile → Type 0
  first_may = λ c. c ≡ files

  abbrev staged : LoggedFile
  staged = seen_after files (Wrote (end + 4096) (record_body payload) true)

  abbrev written_may : LoggedFile → Type 0
  written_may = TornFrom (end + 4096) (length (record_body payload)) first_may

  abbrev mid_may : LoggedFile → Type 0
  mid_may = λ c. written_may c × (c.log ≡ staged.log)

  at_first : (c : LoggedFile) → first_may c → P c
  at_first c is =
      record { base = ap (λ (f : LoggedFile). f.base) is; log = inl (ap (λ (f : LoggedFile). recovered f.log) is) }

  once_written : (c : LoggedFile) → written_may c → P c
  once_written c left = stage_moment files end ends payload first_may (λ d is. is) (length (record_body payload)) c left

  once_marked : (c : LoggedFile) → TornFrom end (length open_gate) mid_may c → P c
  once_marked c left =
      gate_moment files end ends payload first_may (λ d is. is) small staged.log
      (record_body payload) open_gate staged.log refl refl mid_may (length (record_body payload))
      (λ d left. (left.0.0, left.0.1, left.0.2)) (λ d left. left.1) refl c left

  all_of : (how : CommitOutcome) → Always P files first_may (commit_events end payload how)
  all_of Unwritten = (at_first, once_written)
  all_of Unsynced = (at_first, (once_written, once_written))
  all_of Unmarked = (at_first, (once_written, (λ c left. once_written c left.0, once_marked)))
  all_of Unsure = (at_first, (once_written, (λ c left. once_written c left.0, (once_marked, once_marked))))
  all_of Committed =
      (at_first, (once_written, (λ c left. once_written c left.0, (once_marked, λ c left. once_marked c left.0))))

  abbrev done : LoggedFile
  done = seen_in_the_end files (commit_events end payload Committed)

  has : AddsRecord files done (end + 4096 + 8 + length payload) payload
      (leaves_after files (commit_events end payload Committed))
  has = record {
    base = refl;
    added =
        one_added files end ends payload first_may (λ d is. is) small staged.log
        (record_body payload) open_gate done.log refl refl mid_may (length (record_body payload))
        (λ d left. (left.0.0, left.0.1, left.0.2)) (λ d left. left.1) refl refl;
    ends =
        ends_there files end ends payload first_may (λ d is. is) small staged.log
        (record_body payload) open_gate done.log refl refl mid_may (length (record_body payload))
        (λ d left. (left.0.0, left.0.1, left.0.2)) (λ d left. left.1) refl refl;
    lasts =
        λ c left. settled_files files end ends payload first_may (λ d is. is) small staged.log
        (record_body payload) open_gate done.log refl refl mid_may (length (record_body payload))
        (λ d left. (left.0.0, left.0.1, left.0.2)) (λ d left. left.1) refl done
        (λ d. TornFrom end (length open_gate) mid_may d × (d.log ≡ done.log)) (length open_gate) refl
        (λ d left. (left.0.0, left.0.1, left.0.2)) (λ d left. left.1) c left;
  }

-- the law of a commit
pub commit_keeps_one : CommitKeepsOne
commit_keeps_one files end payload how ends small k c left =
    at_each (P files end payload ends small) files (first_may files end payload ends small)
    (commit_events end payload how) (all_of files end payload ends small how) k c left

-- the law of a commit that is done
pub committed_lasts : CommittedLasts
committed_lasts files end payload ends small = has files end payload ends small

module _ (files : LoggedFile) (end : ℕ) (ends : IsEndOfLog 4096 files.log end)
    (ajar : (length files.log - end < 4096) ⊎ (get_or files.log end 0 ≡ 1)) where
  abbrev Same : LoggedFile → Type 0
  Same = λ d. stands_for d ≡ stands_for files

  abbrev start : LoggedFile → Type 0
  start = λ d. d ≡ files

  at_start : (d : LoggedFile) → start d → Same d
  at_start d is = ap stands_for is

  torn_gate : (d : LoggedFile) → TornFrom end (length shut_gate) start d → Same d
  torn_gate d left =
      same_image files d
      (repair_moment files end ends ajar start (λ e is. is) (length shut_gate) (length-shut) d left)

  all_shut : (written synced : Bool) → Always Same files start (shut_events end written synced)
  all_shut true true = (at_start, (torn_gate, λ d left. torn_gate d left.0))
  all_shut true false = (at_start, (torn_gate, torn_gate))
  all_shut false synced = (at_start, torn_gate)

-- the law of a repair
pub repair_keeps_the_image : RepairKeepsTheImage
repair_keeps_the_image files end written synced ends ajar k c left =
    at_each (Same files end ends ajar) files (start files end ends ajar) (shut_events end written synced)
    (all_shut files end ends ajar written synced) k c left

module _ (files : LoggedFile) (end : ℕ) (ends : EndsShut 4096 files.log end) (some : 0 < end) where
  abbrev image : List ℕ
  image = stands_for files

  abbrev Alike : LoggedFile → Type 0
  Alike = λ d. stands_for d ≡ image

  abbrev before : LoggedFile → Type 0
  before = λ d. d ≡ files

  abbrev replaced_may : LoggedFile → Type 0
  replaced_may = λ d. ReplacedFrom image before d × (d.base ≡ image)

  at_before : (d : LoggedFile) → before d → Alike d
  at_before d is = ap stands_for is

  once_replaced : (d : LoggedFile) → ReplacedFrom image before d → Alike d
  once_replaced d left =
      mid_image files image refl before (λ e is. is) d (replaced_moment files image refl before (λ e is. is) d left)

  once_shut : (d : LoggedFile) → TornFrom 0 (length shut_gate) replaced_may d → Alike d
  once_shut d left =
      mid_image files image refl before (λ e is. is) d
      (emptied_moment files image refl before (λ e is. is) replaced_may (λ e from. from.1)
      (λ e from. (from.0.0, from.0.1, from.0.2)) (ends.marked some) (length shut_gate) (length-shut) d left)

  all_replaced : (placed written synced : Bool)
      → Always Alike files before (checkpoint_events image placed written synced)
  all_replaced false written synced = (at_before, once_replaced)
  all_replaced true true true =
      (at_before, (λ d from. once_replaced d from.0, (once_shut, λ d left. once_shut d left.0)))
  all_replaced true true false = (at_before, (λ d from. once_replaced d from.0, (once_shut, once_shut)))
  all_replaced true false synced = (at_before, (λ d from. once_replaced d from.0, once_shut))

-- the law of a checkpoint
pub checkpoint_keeps_the_image : CheckpointKeepsTheImage
checkpoint_keeps_the_image files end placed written synced ends some k c left =
    at_each (Alike files end ends some) files (before files end ends some)
    (checkpoint_events (stands_for files) placed written synced)
    (all_replaced files end ends some placed written synced) k c left
