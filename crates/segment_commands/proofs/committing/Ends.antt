-- How a run that commits ends, from what its steps answered.
use Rattle.std.proofs.Common.{◌≡◌, ℕ, Bool, true, inl, inr, refl, List, Result, Ok, Err}
use Rattle.raw_region.specs.Device.{ReadDelta, WriteDelta}
use Rattle.segment_manager.specs.declared.modes.Mode.TheVariants.{Write}
use Rattle.segment_manager.specs.Directory.{Directory}
use Rattle.segment_manager.specs.State.{SegmentState, DenotesCurrent}
use Rattle.segment_scripts.specs.declared.ends.End.{End}
use Rattle.segment_scripts.specs.declared.ends.End.TheVariants.{Complete, Refused}
use Rattle.segment_scripts.specs.declared.ends.Until.{Until}
use Rattle.segment_log.specs.Events.{LogEvent}
use Rattle.image_check.specs.Saving.{IsSaved}
use Rattle.segment_cli.specs.declared.faults.SessionFault.{SessionFault}
use Rattle.segment_cli.specs.declared.faults.Start.TheVariants.{Image}
use Rattle.segment_cli.specs.Beginning.{BeginsSession}
use Rattle.segment_disk.specs.Events.{Event, Truncate}
use Rattle.segment_file.specs.declared.committing.CommitFault.{CommitFault}
use Rattle.segment_file.specs.Committing.{CommitsSegment}
use Rattle.segment_commands.specs.Committing.{EndsCommit}
use Rattle.segment_commands.specs.Running.{Act, AnswersScript, RunsScript, as_saved}
use Rattle.segment_commands.proofs.running.Ends.{done, halted, refusing_run, unrefused}

module _ {D : Type 0} (step : D → Event → D → Type 0) (log_step : D → LogEvent → D → Type 0) (path : List ℕ)
    (capacity : ℕ) (image : ReadDelta) (until : Until) (script : ReadDelta) (out : WriteDelta) (Flushed : Bool → Type 0)
    (s s' : SegmentState) (h : BeginsSession Image Write 0 capacity image (Ok s)) where
  abbrev act : Act
  act = record {
    start = Image;
    mode = Write;
    capacity = capacity;
    image = image;
    until = until;
    script = script;
    out = out;
  }

  -- a run whose script ended ends as its commit does
  pub committing_run : (old new : D) → AnswersScript until s s' script out Flushed Complete true
      → ((d : Directory) → DenotesCurrent s'.cut.bytes d → IsSaved s'.cut.bytes d)
      → (answer : Result (Unit {0}) CommitFault) → CommitsSegment step log_step old new path s'.cut.bytes answer
      → EndsCommit step log_step old new path act Flushed (as_saved answer)
  committing_run old new answered good (Ok u) c = record {
    image = s'.cut.bytes;
    commits = c;
    ran = done step Truncate path Image Write capacity image until script out Flushed s s' h old answered new refl good;
    unrefused = unrefused step Truncate path Image Write capacity image until script out Flushed s s' h true answered;
    flushed = answered.flushed;
  }
  committing_run old new answered good (Err why) c = inr (inr (record {
    why = refl;
    image = s'.cut.bytes;
    reason = why;
    commits = c;
    ran = done step Truncate path Image Write capacity image until script out Flushed s s' h old answered new refl good;
    flushed = answered.flushed;
  }))

  -- a run that did not end whole commits nothing
  pub uncommitted_run : (old : D) (ended : Result End SessionFault) → (ended ≡ Ok Complete → ⊥)
      → RunsScript until s s' script out Flushed ended → EndsCommit step log_step old old path act Flushed ended
  uncommitted_run old (Ok Complete) is_not answered = absurd (is_not refl)
  uncommitted_run old (Ok Refused) is_not answered =
      refusing_run step Truncate path Image Write capacity image until script out Flushed s s' h old answered
  uncommitted_run old (Err fault) is_not why =
      elim (halted step Truncate path Image Write capacity image until script out Flushed s s' h old fault why)
      [ inl p ↦ inl p | inr p ↦ inr (inl p) ]
