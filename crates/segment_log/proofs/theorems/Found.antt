-- The laws of what opening finds, from those of the records.
use Rattle.std.proofs.Common.{◌≡◌, inl, inr, ℕ, ◌-◌, ◌<◌, Bool, true, false, List, [], length}
use Rattle.std.proofs.Common.{refl, sym, ◌∙◌, ap, arith}
use Rattle.segment_log.specs.Crashes.{LoggedFile, TornFrom, ReplacedFrom}
use Rattle.segment_log.specs.Records.{recovered, shut_gate, IsAjar, IsEndOfLog}
use Rattle.segment_log.specs.Edits.{stands_for, SameRecords, KeepsOrPlaces}
use Rattle.segment_log.specs.Events.{seen_in_the_end}
use Rattle.segment_log.specs.Laws.{Committed, commit_events, shut_events, checkpoint_events}
use Rattle.segment_log.specs.Openings.{IsReady, EndsReady, CommitFindsOne, CommittedFindsTheNew}
use Rattle.segment_log.specs.Openings.{ShutIsReady, RepairFindsTheSame, RepairedIsReady, CheckpointFindsTheSame}
use Rattle.segment_log.specs.Openings.{CheckpointedIsReady}
use Rattle.segment_log.specs.Tags.{AreTogether, KeepsImage}
use Rattle.segment_log.proofs.edits.Images.{one_more_image}
use Rattle.segment_log.proofs.records.Pieces.{length-shut, shut_first}
use Rattle.segment_log.proofs.tags.Named.{named_same, named_more, mid_commit, mid_checkpoint, empty_named}
use Rattle.segment_log.proofs.theorems.Always.{Always, at_each}
use Rattle.segment_log.proofs.theorems.Ends.{same_image, repair_moment, mid_image, replaced_moment, emptied_moment}
use Rattle.segment_log.proofs.theorems.Lawful.{commit_keeps_one, committed_lasts}
use Rattle.segment_log.proofs.theorems.Repair.{repaired, repaired_same, shut_already, emptied, emptied_ends}
use Rattle.segment_log.proofs.theorems.Steps.{same_files}

-- the law of a commit, for images
pub commit_finds_one : CommitFindsOne
commit_finds_one files end payload last new how ready for k c left =
    mid_commit files payload last new ready.stands for.makes ready.own for.base for.after c
    (commit_keeps_one files end payload how ready.ends for.max_len k c left)

-- the law of a commit that is done, for images
pub committed_finds_the_new : CommittedFindsTheNew
committed_finds_the_new files end payload last new ready for =
    let now : LoggedFile = seen_in_the_end files (commit_events end payload Committed) in
    let has = committed_lasts files end payload ready.ends for.max_len in
    record {
      ready = record {
        ends = has.ends;
        own =
            named_more files payload last new ready.stands for.makes ready.own for.base for.after now has.base
            has.added;
        stands = one_more_image files now payload last new ready.stands for.makes has.base has.added;
      };
      lasts = has.lasts;
    }

-- the law of an opening that shuts no gate
pub shut_is_ready : ShutIsReady
shut_is_ready files end ends shut own = record {
  ends =
      shut_already 4095 files.log end ends (omega (arith, λ (short : length files.log - end < 4096). shut (inl short)))
      (λ open_now. shut (inr open_now));
  own = own;
  stands = refl;
}

module _ (files : LoggedFile) (end : ℕ) (ends : IsEndOfLog 4096 files.log end) (own : AreTogether files) where
  abbrev Keeps : LoggedFile → Type 0
  Keeps = KeepsImage (stands_for files)

  abbrev start : LoggedFile → Type 0
  start = λ d. d ≡ files

  same : (d : LoggedFile) → SameRecords files d → Keeps d
  same d has = record { stands = same_image files d has; named = named_same files d has own }

  at_start : (d : LoggedFile) → start d → Keeps d
  at_start d is = same d (record {
    base = ap (λ (f : LoggedFile). f.base) is;
    log = ap (λ (f : LoggedFile). recovered f.log) is;
  })

  torn_gate : IsAjar 4096 files.log end → (d : LoggedFile) → TornFrom end (length shut_gate) start d → Keeps d
  torn_gate ajar d left =
      same d (repair_moment files end ends ajar start (λ e is. is) (length shut_gate) (length-shut) d left)

  all_shut : IsAjar 4096 files.log end → (written synced : Bool)
      → Always Keeps files start (shut_events end written synced)
  all_shut ajar true true = (at_start, (torn_gate ajar, λ d left. torn_gate ajar d left.0))
  all_shut ajar true false = (at_start, (torn_gate ajar, torn_gate ajar))
  all_shut ajar false synced = (at_start, torn_gate ajar)

  abbrev now : LoggedFile
  now = seen_in_the_end files (shut_events end true true)

  has_same : SameRecords files now
  has_same = record {
    base = refl;
    log = repaired_same 4095 files.log end ends shut_gate length-shut shut_first now.log refl;
  }

  done : EndsReady files (shut_events end true true) end (stands_for files)
  done = record {
    ready = record {
      ends = repaired 4095 files.log end ends shut_gate length-shut shut_first now.log refl;
      own = named_same files now has_same own;
      stands = same_image files now has_same;
    };
    lasts = λ d left. same_files d now (left.0.2.base ∙ ap (λ (f : LoggedFile). f.base) left.0.1) left.1;
  }

-- the law of an opening that shuts the gate
pub repair_finds_the_same : RepairFindsTheSame
repair_finds_the_same files end written synced ends ajar own k c left =
    at_each (Keeps files end ends own) files (start files end ends own) (shut_events end written synced)
    (all_shut files end ends own ajar written synced) k c left

-- the law of an opening that has shut the gate
pub repaired_is_ready : RepairedIsReady
repaired_is_ready files end ends own = done files end ends own

module _ (files : LoggedFile) (end : ℕ) (image : List ℕ) (ready : IsReady files end image) (some : 0 < end) where
  abbrev KeepsIt : LoggedFile → Type 0
  KeepsIt = KeepsImage image

  abbrev before : LoggedFile → Type 0
  before = λ d. d ≡ files

  abbrev placed_may : LoggedFile → Type 0
  placed_may = λ d. ReplacedFrom image before d × (d.base ≡ image)

  stands_now : (d : LoggedFile) → KeepsOrPlaces files image d → stands_for d ≡ image
  stands_now = mid_image files image (sym ready.stands) before (λ e is. is)

  keeps : (d : LoggedFile) → KeepsOrPlaces files image d → KeepsIt d
  keeps d mid = mid_checkpoint files image (sym ready.stands) ready.own stands_now d mid

  at_before : (d : LoggedFile) → before d → KeepsIt d
  at_before d is = keeps d (inl (record {
    base = ap (λ (f : LoggedFile). f.base) is;
    log = ap (λ (f : LoggedFile). recovered f.log) is;
  }))

  once_placed : (d : LoggedFile) → ReplacedFrom image before d → KeepsIt d
  once_placed d left =
      keeps d (replaced_moment files image (sym ready.stands) before (λ e is. is) d left)

  once_shut : (d : LoggedFile) → TornFrom 0 (length shut_gate) placed_may d → KeepsIt d
  once_shut d left =
      keeps d
      (emptied_moment files image (sym ready.stands) before (λ e is. is) placed_may (λ e from. from.1)
      (λ e from. (from.0.0, from.0.1, from.0.2)) (ready.ends.marked some) (length shut_gate) (length-shut)
      d left)

  all_placed : (placed written synced : Bool)
      → Always KeepsIt files before (checkpoint_events image placed written synced)
  all_placed false written synced = (at_before, once_placed)
  all_placed true true true =
      (at_before, (λ d from. once_placed d from.0, (once_shut, λ d left. once_shut d left.0)))
  all_placed true true false = (at_before, (λ d from. once_placed d from.0, (once_shut, once_shut)))
  all_placed true false synced = (at_before, (λ d from. once_placed d from.0, once_shut))

  abbrev checked : LoggedFile
  checked = seen_in_the_end files (checkpoint_events image true true true)

  none_left : recovered checked.log ≡ []
  none_left = emptied 4095 files.log shut_gate length-shut shut_first checked.log refl

  is_done : EndsReady files (checkpoint_events image true true true) 0 image
  is_done = record {
    ready = record {
      ends = emptied_ends 4095 files.log shut_gate length-shut shut_first checked.log refl;
      own = empty_named checked none_left;
      stands = stands_now checked (inr (refl, inr none_left));
    };
    lasts = λ d left. same_files d checked (left.0.2.base ∙ left.0.1.1) left.1;
  }

-- the law of a checkpoint, for images
pub checkpoint_finds_the_same : CheckpointFindsTheSame
checkpoint_finds_the_same files end image placed written synced ready some k c left =
    at_each (KeepsIt files end image ready some) files (before files end image ready some)
    (checkpoint_events image placed written synced) (all_placed files end image ready some placed written synced) k c
    left

-- the law of a checkpoint that is done, for images
pub checkpointed_is_ready : CheckpointedIsReady
checkpointed_is_ready files end image ready some = is_done files end image ready some
