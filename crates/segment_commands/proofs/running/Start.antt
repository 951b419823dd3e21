-- A run goes on from the segment that a file was opened with, or that was made.
use Rattle.std.proofs.Common.{◌≡◌, ◌≢◌, ℕ, Bool, refl, sym, ap, subst, ◌∙◌, inl, inr, length, Result, Ok, Err}
use Rattle.raw_region.specs.Device.{ReaderHistory, ReadDelta, WriterHistory}
use Rattle.segment_manager.specs.declared.modes.Mode.{Mode}
use Rattle.segment_manager.specs.declared.modes.Mode.TheVariants.{Write, ReadOnly, CopyOnWrite}
use Rattle.segment_manager.specs.State.{SegmentState}
use Rattle.segment_cli.specs.declared.faults.Start.TheVariants.{Fresh, Image}
use Rattle.segment_cli.specs.declared.faults.SessionFault.{SessionFault}
use Rattle.segment_cli.specs.Beginning.{BeginsSession}
use Rattle.segment_scripts.specs.declared.ends.End.{End}
use Rattle.segment_disk.specs.Events.{New, Event, After}
use Rattle.image_check.specs.declared.versions.AcceptedVersions.TheVariants.{Current}
use Rattle.segment_file.specs.declared.file_errors.FileError.{FileError}
use Rattle.segment_file.specs.Files.{open_events}
use Rattle.segment_file.specs.Opening.{OpensImageOk, OpensImage}
use Rattle.segment_file.specs.Opening.{OpensFile as ReadsFile, unopened_error}
use Rattle.segment_file.proofs.Laws.{read-fits}
use Rattle.segment_commands.proofs.running.Session.{begun}
use Rattle.segment_commands.specs.Opening.{OpensFile, as_session, session_fault}
use Rattle.segment_commands.specs.Commands.{MakesSegment}
use Rattle.segment_commands.specs.Running.{Act, EndsRun, RunsFree, RunsOpenedTo, RunsReadable, MakesRun, act_of}
use Rattle.segment_commands.specs.declared.running.RunRequest.{RunRequest}
use Rattle.segment_commands.specs.declared.command_faults.CommandFault.{CommandFault}

-- what is answered as a segment is answered as no fault
no_fault : (s : SegmentState) (fault : SessionFault) → let answer : Result SegmentState SessionFault = Ok s
    in answer ≡ Err fault → ⊥
no_fault s fault e = cc

-- a segment is no error
pub no_error : (s : SegmentState) (error : FileError) → let answer : Result SegmentState FileError = Ok s
    in answer ≡ Err error → ⊥
no_error s error e = cc

same_segment : (s t : SegmentState) → let answer : Result SegmentState SessionFault = Ok s in answer ≡ Ok t → t ≡ s
same_segment s t e = cc

-- a session's segment is the one that was read
pub was_read : (x : Result SegmentState FileError) (s : SegmentState) → Ok s ≡ as_session x → x ≡ Ok s
was_read (Ok t) s e = ap (λ (u : SegmentState). Ok u) (same_segment s t e)
was_read (Err error) s e = absurd (no_fault s (session_fault error) e)

module _ {D O : Type 0} (step : D → Event → D → Type 0) (old read new : D) (request : RunRequest)
    (script script' : ReaderHistory) (history : O → WriterHistory) (out out' : O) (result : Result End SessionFault)
    (s : SegmentState) where
  module _ (mode : Mode) (Ends : D → Act → Type 0)
      (ends : (capacity : ℕ) (image : ReadDelta) → BeginsSession Image mode 0 capacity image (Ok s)
      → Ends read (act_of request Image mode capacity image script script' history out out')) where
    abbrev Goes : Type 0
    Goes = RunsOpenedTo step old new request mode script script' history out out' result Ends

    begun_run : (len : ℕ) (image : ReadDelta) → After step old (open_events request.path.now len image) read
        → OpensImageOk Current len 0 mode image s → Goes
    begun_run len image asked r = inr (record {
      len = len;
      image = image;
      capacity = length r.region;
      room = r.room;
      read = read;
      asked = asked;
      ends = ends (length r.region) image
          (begun image r.region mode s r.opened (read-fits Current len 0 mode image s r));
    })

    read_run : (x : Result SegmentState FileError) → ReadsFile step old read request.path.now Current mode 0 x
        → x ≡ Ok s → Goes
    read_run x (inl u) e = absurd (no_error s (unopened_error u.why) (sym e ∙ u.refused))
    read_run x (inr r) e = begun_run r.len r.image r.asked (subst (OpensImage Current 0 mode r.len r.image) e r.answer)

    -- a run goes on from an opened segment
    pub opened_run : OpensFile step old read request.path.now mode (Ok s) → Goes
    opened_run o = read_run o.read o.reads (was_read o.read s o.answer)

  module _ (size : ℕ) (flushes : Bool → Type 0)
      (ends : (capacity : ℕ) (image : ReadDelta) → BeginsSession (Fresh size) Write 0 capacity image (Ok s)
      → EndsRun step old new New request.path.now
      (act_of request (Fresh size) Write capacity image script script' history out out') flushes result) where
    -- a run goes on from a new segment
    pub made_run : MakesSegment size (Ok s)
        → MakesRun step old new request size script script' history flushes out out' result
    made_run (inl w) = absurd (no_fault s _ w.refused)
    made_run (inr f) = let a = f.answers
        in inr (record {
          image = a.image;
          capacity = a.capacity;
          room = a.room;
          ends = ends a.capacity a.image a.starts;
        })

module _ {D O : Type 0} (step : D → Event → D
    → Type 0) (old new : D) (request : RunRequest) (script script' : ReaderHistory) (history : O
    → WriterHistory) (flushes : Bool → Type 0) (out out' : O) (result : Result (Unit {0}) CommandFault) where
  -- a run that does not save
  pub in_reading : (mode : Mode) → mode ≢ Write
      → RunsFree step old new request script script' history flushes out out' result mode
      → RunsReadable step old new request script script' history flushes out out' result mode
  in_reading Write is_not h = absurd (is_not refl)
  in_reading ReadOnly is_not h = h
  in_reading CopyOnWrite is_not h = h
