-- How a segment is committed to the log beside its file: the calls to the disk, and what a crash leaves.
use Rattle.std.specs.Prelude.{◌≡◌, ◌⊎◌, ℕ, ◌/◌, max, Bool, true, false, nat_lt, List, length, Some, None}
use Rattle.std.specs.Prelude.{Result, Ok, Err}
use Rattle.segment_log.specs.CommittedImages.{IsCommitted, CommitsImage, PlacesCommitted}
use Rattle.segment_log.specs.Crashes.{LoggedFile}
use Rattle.segment_log.specs.Events.{LogEvent}
use Rattle.segment_log.specs.declared.committed_image.CommittedImage.{CommittedImage}
use Rattle.segment_log.specs.declared.committing.CommitError.{CommitError}
use Rattle.segment_log.specs.declared.committing.CommitError.TheVariants.{OutOfMemory as NoMemory, TooLong as LongLog}
use Rattle.segment_log.specs.declared.committing.CommitError.TheVariants.{WriteFault}
use Rattle.segment_disk.specs.declared.presence.Comparison.{Comparison}
use Rattle.segment_disk.specs.declared.presence.Comparison.TheVariants.{Other, Different, Equal}
use Rattle.segment_disk.specs.Events.{Event, Compared, LogBegun, LogEnded, Synced}
use Rattle.segment_file.specs.declared.committing.CommitFault.{CommitFault}
use Rattle.segment_file.specs.declared.committing.CommitFault.TheVariants.{OutOfMemory, TooLong, NotBegun}
use Rattle.segment_file.specs.declared.committing.CommitFault.TheVariants.{Unsure as MayBeCommitted}
use Rattle.segment_file.specs.declared.committing.CommitLog.{CommitLog}
use Rattle.segment_file.specs.declared.committing.CommitLog.TheVariants.{Absent, Begun, Unsure}
use Rattle.segment_file.specs.declared.segment_files.SegmentFile.{SegmentFile}

-- what is known of the log of a file: none was begun, or both stand for the image that is kept, or a commit failed
abbrev pub log_of : {H : Type 0} → SegmentFile H → CommitLog
log_of file = file.log

-- why a commit is refused, as the log says it
abbrev pub commit_fault : CommitError → CommitFault
commit_fault NoMemory = OutOfMemory
commit_fault LongLog = TooLong
commit_fault WriteFault = MayBeCommitted

-- an answer of the log, as that of a file
abbrev pub answer_of : Result (Unit {0}) CommitError → Result (Unit {0}) CommitFault
answer_of (Ok done) = Ok tt
answer_of (Err error) = Err (commit_fault error)

-- the log after a call for the image that is kept: after a fault no more is known of it
abbrev pub log_after : CommittedImage → Result (Unit {0}) CommitError → CommitLog
log_after kept (Ok done) = Begun kept
log_after kept (Err NoMemory) = Begun kept
log_after kept (Err LongLog) = Begun kept
log_after kept (Err WriteFault) = Unsure

-- A log is long if it is longer than a quarter of the image, and than 1 MiB: a checkpoint costs less than to read it.
abbrev pub is_long : ℕ → ℕ → Bool
is_long end len = nat_lt (max (len / 4) 1_048_576) end

-- a log was begun that is long
abbrev pub has_long_log : CommitLog → Bool
has_long_log Absent = false
has_long_log (Begun kept) = is_long kept.end (length kept.image.items)
has_long_log Unsure = false

-- a checkpoint is due behind a commit: it is done, and the log is long
abbrev pub is_due : Result (Unit {0}) CommitFault → CommitLog → Bool
is_due (Ok done) log = has_long_log log
is_due (Err why) log = false

-- the answer of a commit of an image that the file has, by whether the file was written through
abbrev pub synced_as : Bool → Result (Unit {0}) CommitFault
synced_as true = Ok tt
synced_as false = Err NotBegun

-- the log with which a checkpoint begins; it starts a new log if a commit failed
abbrev pub begun_anew : CommitLog → CommitLog
begun_anew Absent = Absent
begun_anew (Begun kept) = Begun kept
begun_anew Unsure = Absent

-- the image is committed to a log that was begun, or refused; a crash at any moment leaves the last image or this one
pub record CommitsBegun {D : Type 0} (log_step : D → LogEvent → D → Type 0) (old new : D) (last : CommittedImage)
    (image : List ℕ) (log : CommitLog) (result : Result (Unit {0}) CommitFault) : Type 0 where
  pub kept : CommittedImage
  pub told : Result (Unit {0}) CommitError
  pub commits : CommitsImage log_step old new last kept image told
  pub log_is : log ≡ log_after kept told
  pub answer : result ≡ answer_of told

-- no log is begun, and nothing more is asked
pub record EndsUnbegun {D : Type 0} (old new : D) (log : CommitLog) (result answer : Result (Unit {0}) CommitFault)
    : Type 0 where
  pub asked : new ≡ old
  pub log_is : log ≡ Absent
  pub answer_is : result ≡ answer

-- a file that has the image, with its log or without, was written through: Ok says that it lasts
pub record SyncsFile {D : Type 0} (step : D → Event → D → Type 0) (old new : D) (path : List ℕ) (log : CommitLog)
    (result : Result (Unit {0}) CommitFault) : Type 0 where
  pub lasts : Bool
  pub asked : step old (Synced path lasts) new
  pub log_is : log ≡ Absent
  pub answer : result ≡ synced_as lasts

module _ {D : Type 0} (step : D → Event → D → Type 0) (log_step : D → LogEvent → D → Type 0) (old new : D)
    (path : List ℕ) where
  -- no log could be put beside the file
  pub record FailsToBegin (log : CommitLog) (result : Result (Unit {0}) CommitFault) : Type 0 where
    pub asked : step old (LogBegun path None) new
    pub log_is : log ≡ Absent
    pub refused : result ≡ Err NotBegun

  -- a log was put beside the file, or the one that was there goes on, and the image is committed to it
  pub record BeginsAndCommits (image : List ℕ) (log : CommitLog) (result : Result (Unit {0}) CommitFault)
      : Type 0 where
    pub begun : D
    pub files : LoggedFile
    pub first : CommittedImage
    pub asked : step old (LogBegun path (Some files)) begun
    pub stands : IsCommitted files first
    pub commits : CommitsBegun log_step begun new first image log result

  -- after the file was compared with the image: one that has it is written through, and one of another is left alone
  abbrev pub CommitsIfDifferent : Comparison → List ℕ → CommitLog → Result (Unit {0}) CommitFault → Type 0
  CommitsIfDifferent Other image log result = EndsUnbegun old new log result (Err NotBegun)
  CommitsIfDifferent Equal image log result = SyncsFile step old new path log result
  CommitsIfDifferent Different image log result = FailsToBegin log result ⊎ BeginsAndCommits image log result

  -- the log is removed if its records are in the file
  abbrev pub EndsLog : CommittedImage → CommitLog → Result (Unit {0}) CommitError → Type 0
  EndsLog kept log (Ok done) = step old (LogEnded path) new × (log ≡ Absent)
  EndsLog kept log (Err error) = (new ≡ old) × (log ≡ log_after kept (Err error))

module _ {D : Type 0} (step : D → Event → D → Type 0) (log_step : D → LogEvent → D → Type 0) (old new : D)
    (path : List ℕ) where
  -- the first commit of a file: it is compared with the image before a log is begun
  pub record CommitsFirst (image : List ℕ) (log : CommitLog) (result : Result (Unit {0}) CommitFault) : Type 0 where
    pub found : Comparison
    pub compared : D
    pub asked : step old (Compared path image found) compared
    pub goes : CommitsIfDifferent step log_step compared new path found image log result

  -- the image is committed to the log of the file; after a fault each commit is refused
  abbrev pub CommitsFile : CommitLog → List ℕ → CommitLog → Result (Unit {0}) CommitFault → Type 0
  CommitsFile Absent image log result = CommitsFirst image log result
  CommitsFile (Begun last) image log result = CommitsBegun log_step old new last image log result
  CommitsFile Unsure image log result = (new ≡ old) × (log ≡ Unsure) × (result ≡ Err MayBeCommitted)

  -- the image of the last commit is put into the file, and the log is removed; a crash at any moment leaves the image
  pub record EndsBegun (last : CommittedImage) (log : CommitLog) (result : Result (Unit {0}) CommitFault)
      : Type 0 where
    pub placed : D
    pub kept : CommittedImage
    pub told : Result (Unit {0}) CommitError
    pub places : PlacesCommitted log_step old placed last kept told
    pub ended : EndsLog step log_step placed new path kept log told
    pub answer : result ≡ answer_of told

  -- the same, if a log was begun; otherwise the file has the image already
  abbrev pub EndsCommits : CommitLog → CommitLog → Result (Unit {0}) CommitFault → Type 0
  EndsCommits Absent log result = (new ≡ old) × (log ≡ Absent) × (result ≡ Ok tt)
  EndsCommits (Begun last) log result = EndsBegun last log result
  EndsCommits Unsure log result = (new ≡ old) × (log ≡ Unsure) × (result ≡ Err MayBeCommitted)

  -- the same, if a checkpoint is due; otherwise the log is as it was. The answer of the commit stands in any case.
  abbrev pub ShortensIf : Bool → CommitLog → CommitLog → Type 0
  ShortensIf true committed log = (answer : Result (Unit {0}) CommitFault) × EndsCommits committed log answer
  ShortensIf false committed log = (new ≡ old) × (log ≡ committed)

  -- the same, after the commit of a checkpoint, if that was done
  abbrev pub EndsIfCommitted : Result (Unit {0}) CommitFault → CommitLog → CommitLog → Result (Unit {0}) CommitFault
      → Type 0
  EndsIfCommitted (Ok done) committed log result = EndsCommits committed log result
  EndsIfCommitted (Err why) committed log result = (new ≡ old) × (log ≡ committed) × (result ≡ Err why)

module _ {D : Type 0} (step : D → Event → D → Type 0) (log_step : D → LogEvent → D → Type 0) (old new : D)
    (path : List ℕ) where
  -- `checkpoint`: commits the image, to a new log if a commit failed, and puts it into the file
  pub record CheckpointsFile (before : CommitLog) (image : List ℕ) (log : CommitLog)
      (result : Result (Unit {0}) CommitFault) : Type 0 where
    pub committed : D
    pub between : CommitLog
    pub told : Result (Unit {0}) CommitFault
    pub commits : CommitsFile step log_step old committed path (begun_anew before) image between told
    pub ends : EndsIfCommitted step log_step committed new path told between log result

  -- `commit`: commits the image, and puts it into the file if the log has become long
  pub record CommitsAndShortens (before : CommitLog) (image : List ℕ) (log : CommitLog)
      (result : Result (Unit {0}) CommitFault) : Type 0 where
    pub committed : D
    pub between : CommitLog
    pub commits : CommitsFile step log_step old committed path before image between result
    pub shortens : ShortensIf step log_step committed new path (is_due result between) between log

  -- `commit_segment`: the same for a file of which no log was begun; what is known of the log then is dropped
  pub record CommitsSegment (image : List ℕ) (result : Result (Unit {0}) CommitFault) : Type 0 where
    pub log : CommitLog
    pub commits : CommitsAndShortens Absent image log result
