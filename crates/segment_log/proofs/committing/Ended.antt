-- What a crash leaves, by how a commit, an opening or a checkpoint ended.
use Rattle.std.proofs.Common.{◌≡◌, ◌⊎◌, ⊎_elim, ℕ, zero, suc, ◌+◌, ◌≤◌, ◌^◌, ◌&&◌, Bool, true}
use Rattle.std.proofs.Common.{false, List, [], ◌∷◌}
use Rattle.std.proofs.Common.{length, Ok, Err, refl, subst}
use Rattle.segment_log.specs.Crashes.{LoggedFile}
use Rattle.segment_log.specs.Events.{LogEvent, Placed, Synced, Wrote, all_done, seen_in_the_end}
use Rattle.segment_log.specs.Laws.{CommitOutcome, Unwritten, Unsynced, Unmarked, Unsure, Committed}
use Rattle.segment_log.specs.Laws.{commit_events, through_events, shut_events, checkpoint_events}
use Rattle.segment_log.specs.Records.{open_gate, record_body, shut_gate}
use Rattle.segment_log.specs.Committing.{AsksFor, CommitsRecord, ShutsGate, MakesCheckpoint, CrashLeaves}
use Rattle.segment_log.specs.declared.committing.CommitError.{CommitError}
use Rattle.segment_log.specs.declared.committing.CommitError.TheVariants.{OutOfMemory, TooLong, WriteFault}
use Rattle.segment_log.proofs.theorems.Found.{commit_finds_one, committed_finds_the_new, repair_finds_the_same}
use Rattle.segment_log.proofs.theorems.Found.{repaired_is_ready, checkpoint_finds_the_same, checkpointed_is_ready}

-- a crash before anything is asked leaves what a crash at the start of any calls does
nothing : (files : LoggedFile) (events : List LogEvent) (P : LoggedFile → Type 0) → CrashLeaves files events P
    → CrashLeaves files [] P
nothing files events P each zero c left = each 0 c left
nothing files events P each (suc k) c left = each 0 c left

-- bytes that were written through, if the answer says so
pub through : {D : Type 0} (step : D → LogEvent → D → Type 0) (old new : D) (at : ℕ) (bytes : List ℕ)
    (written synced : Bool) → true ≡ (written && synced)
    → AsksFor step old (through_events at bytes written synced) new
    → AsksFor step old (through_events at bytes true true) new
through step old new at bytes true true is asked = asked
through step old new at bytes true false is asked = absurd (cc is)
through step old new at bytes false synced is asked = absurd (cc is)

-- calls after a writing that went through
pub behind : {D : Type 0} (step : D → LogEvent → D → Type 0) (old mid new : D) (at : ℕ) (bytes : List ℕ)
    (events : List LogEvent) → AsksFor step old (through_events at bytes true true) mid → AsksFor step mid events new
    → AsksFor step old (Wrote at bytes true ∷ Synced true ∷ events) new
behind step old mid new at bytes events first then =
    (first.0, first.1, (first.2.0, first.2.1, subst (λ d. AsksFor step d events new) first.2.2 then))

-- bytes that were not written through: a call failed
pub halted : (at : ℕ) (bytes : List ℕ) (written synced : Bool) → false ≡ (written && synced)
    → all_done (through_events at bytes written synced) ≡ false
halted at bytes false synced unlike = refl
halted at bytes true false unlike = refl
halted at bytes true true unlike = absurd (cc unlike)

module _ {D : Type 0} (step : D → LogEvent → D → Type 0) (old new : D) (end : ℕ) (payload : List ℕ) where
  -- a commit that was refused before anything was asked
  pub refused : (why : CommitError) → new ≡ old → (why ≡ TooLong → (2 ^ 40 ≤ end) ⊎ (2 ^ 40 ≤ length payload))
      → (why ≡ WriteFault → ⊥) → CommitsRecord step old new end payload (Err why)
  refused why same long other = record {
    events = [];
    asked = same;
    crash = λ files last image ready for. nothing files (commit_events end payload Unwritten) _
        (λ k c left. commit_finds_one files end payload last image Unwritten ready for k c left);
    on_ok = tt;
    base = λ files. refl;
    refused = λ _. refl;
    too_long = λ is. long (cc is);
    fault = λ is. absurd (other (cc is));
  }

  -- a commit writes the log alone
  same_base : (how : CommitOutcome) (files : LoggedFile)
      → (seen_in_the_end files (commit_events end payload how)).base ≡ files.base
  same_base Unwritten files = refl
  same_base Unsynced files = refl
  same_base Unmarked files = refl
  same_base Unsure files = refl
  same_base Committed files = refl

  -- a commit that failed while it wrote
  pub failed : (how : CommitOutcome) → all_done (commit_events end payload how) ≡ false
      → AsksFor step old (commit_events end payload how) new
      → CommitsRecord step old new end payload (Err WriteFault)
  failed how halts asked = record {
    events = commit_events end payload how;
    asked = asked;
    crash = λ files last image ready for k c left.
        commit_finds_one files end payload last image how ready for k c left;
    on_ok = tt;
    base = same_base how;
    refused = ⊎_elim (λ is. absurd (cc is)) (λ is. absurd (cc is));
    too_long = λ is. absurd (cc is);
    fault = λ is. halts;
  }

  -- a commit that is done
  pub done : AsksFor step old (commit_events end payload Committed) new
      → CommitsRecord step old new end payload (Ok (end + 4096 + 8 + length payload))
  done asked = record {
    events = commit_events end payload Committed;
    asked = asked;
    crash = λ files last image ready for k c left.
        commit_finds_one files end payload last image Committed ready for k c left;
    on_ok = λ files last image ready for. committed_finds_the_new files end payload last image ready for;
    base = same_base Committed;
    refused = ⊎_elim (λ is. absurd (cc is)) (λ is. absurd (cc is));
    too_long = λ is. absurd (cc is);
    fault = λ is. absurd (cc is);
  }

  -- a commit whose body was not written through
  pub body_failed : (written synced : Bool) → false ≡ (written && synced)
      → AsksFor step old (through_events (end + 4096) (record_body payload) written synced) new
      → CommitsRecord step old new end payload (Err WriteFault)
  body_failed false synced unlike asked = failed Unwritten refl asked
  body_failed true false unlike asked = failed Unsynced refl asked
  body_failed true true unlike asked = absurd (cc unlike)

  module _ (mid : D) (first : AsksFor step old (through_events (end + 4096) (record_body payload) true true) mid) where
    -- a commit whose gate was not opened for good
    pub gate_failed : (written synced : Bool) → false ≡ (written && synced)
        → AsksFor step mid (through_events end open_gate written synced) new
        → CommitsRecord step old new end payload (Err WriteFault)
    gate_failed false synced unlike asked =
        failed Unmarked refl
        (behind step old mid new (end + 4096) (record_body payload)
        (through_events end open_gate false synced) first asked)
    gate_failed true false unlike asked =
        failed Unsure refl
        (behind step old mid new (end + 4096) (record_body payload)
        (through_events end open_gate true false) first asked)
    gate_failed true true unlike asked = absurd (cc unlike)

    -- a commit whose gate was opened
    pub gate_opened : AsksFor step mid (through_events end open_gate true true) new
        → CommitsRecord step old new end payload (Ok (end + 4096 + 8 + length payload))
    gate_opened asked =
        done (behind step old mid new (end + 4096) (record_body payload)
        (through_events end open_gate true true) first asked)

module _ {D : Type 0} (step : D → LogEvent → D → Type 0) (old new : D) (end : ℕ) where
  -- an opening that asked for nothing
  pub not_shut : new ≡ old → ShutsGate step old new end (Err OutOfMemory)
  not_shut same = record {
    events = [];
    asked = same;
    crash = λ files ends ajar own. nothing files (shut_events end false false) _
        (λ k c left. repair_finds_the_same files end false false ends ajar own k c left);
    on_ok = tt;
    cause = refl;
  }

  -- an opening that failed while it shut the gate
  pub half_shut : (written synced : Bool) → false ≡ (written && synced)
      → AsksFor step old (through_events end shut_gate written synced) new
      → ShutsGate step old new end (Err WriteFault)
  half_shut written synced unlike asked = record {
    events = shut_events end written synced;
    asked = asked;
    crash = λ files ends ajar own k c left. repair_finds_the_same files end written synced ends ajar own k c left;
    on_ok = tt;
    cause = halted end shut_gate written synced unlike;
  }

  -- an opening that shut the gate
  pub shut_now : AsksFor step old (through_events end shut_gate true true) new → ShutsGate step old new end (Ok tt)
  shut_now asked = record {
    events = shut_events end true true;
    asked = asked;
    crash = λ files ends ajar own k c left. repair_finds_the_same files end true true ends ajar own k c left;
    on_ok = λ files ends own. repaired_is_ready files end ends own;
    cause = tt;
  }

module _ {D : Type 0} (step : D → LogEvent → D → Type 0) (old new : D) (image : List ℕ) where
  -- a checkpoint that asked for nothing
  pub not_begun : new ≡ old → MakesCheckpoint step old new image (Err OutOfMemory)
  not_begun same = record {
    events = [];
    asked = same;
    crash = λ files end ready some. nothing files (checkpoint_events image false false false) _
        (λ k c left. checkpoint_finds_the_same files end image false false false ready some k c left);
    on_ok = tt;
    cause = refl;
  }

  -- a checkpoint whose file has no name for good
  pub not_placed : step old (Placed image false) new → MakesCheckpoint step old new image (Err WriteFault)
  not_placed asked = record {
    events = checkpoint_events image false false false;
    asked = (new, asked, refl);
    crash = λ files end ready some k c left.
        checkpoint_finds_the_same files end image false false false ready some k c left;
    on_ok = tt;
    cause = refl;
  }

  module _ (mid : D) (placed : step old (Placed image true) mid) where
    -- a checkpoint whose log was not emptied for good
    pub not_emptied : (written synced : Bool) → false ≡ (written && synced)
        → AsksFor step mid (through_events 0 shut_gate written synced) new
        → MakesCheckpoint step old new image (Err WriteFault)
    not_emptied written synced unlike asked = record {
      events = checkpoint_events image true written synced;
      asked = (mid, placed, asked);
      crash = λ files end ready some k c left.
          checkpoint_finds_the_same files end image true written synced ready some k c left;
      on_ok = tt;
      cause = halted 0 shut_gate written synced unlike;
    }

    -- a checkpoint that is done
    pub emptied_now : AsksFor step mid (through_events 0 shut_gate true true) new
        → MakesCheckpoint step old new image (Ok tt)
    emptied_now asked = record {
      events = checkpoint_events image true true true;
      asked = (mid, placed, asked);
      crash = λ files end ready some k c left.
          checkpoint_finds_the_same files end image true true true ready some k c left;
      on_ok = λ files end ready some. checkpointed_is_ready files end image ready some;
      cause = tt;
    }
