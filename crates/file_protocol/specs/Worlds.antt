-- A folder with FILE and FILE-log, and the sessions and readers that share it.
use Rattle.std.specs.Prelude.{◌≡◌, ◌⊎◌, ℕ, zero, suc, Bool, true, false, cond, not, ◌==◌, ◌||◌, ◌&&◌, List, [], ◌∷◌}
use Rattle.std.specs.Prelude.{Option, None, Some}
use Rattle.file_protocol.specs.Sessions.{call_of, after_answer, after_request}
use Rattle.file_protocol.specs.Readers.{read_call_of, read_after}
use Rattle.file_protocol.specs.declared.reader.FileReader.{FileReader}
use Rattle.file_protocol.specs.declared.reader.FileReader.TheVariants.{Idle, Seeking as ReaderSeeking, HasFile}
use Rattle.file_protocol.specs.declared.reader.FileReader.TheVariants.{Returned}
use Rattle.file_protocol.specs.declared.reader.ReadCall.{ReadCall}
use Rattle.file_protocol.specs.declared.reader.ReadCall.TheVariants.{OpenFile as ReaderOpensFile}
use Rattle.file_protocol.specs.declared.reader.ReadCall.TheVariants.{OpenLog as ReaderOpensLog}
use Rattle.file_protocol.specs.declared.reader.ReadCall.TheVariants.{ReadBoth, ReadFile, LookFile as ReaderLooks}
use Rattle.file_protocol.specs.declared.reader.ReadCall.TheVariants.{Nothing as ReaderRests}
use Rattle.file_protocol.specs.declared.reader.ReadAnswer.{ReadAnswer}
use Rattle.file_protocol.specs.declared.reader.ReadAnswer.TheVariants.{Missing as NotFound, Found, Failed as ReadFailed}
use Rattle.file_protocol.specs.declared.session.Session.{Session}
use Rattle.file_protocol.specs.declared.session.Session.TheVariants.{Seeking, Opened, Locked, Retrying, Absent}
use Rattle.file_protocol.specs.declared.session.Session.TheVariants.{Creating, Created}
use Rattle.file_protocol.specs.declared.session.Session.TheVariants.{CheckingName, SyncingName, SyncingLog, SyncingGate}
use Rattle.file_protocol.specs.declared.session.Session.TheVariants.{SyncingFirst}
use Rattle.file_protocol.specs.declared.session.Session.TheVariants.{SyncingRename, SyncingEnd, Ending, Ended}
use Rattle.file_protocol.specs.declared.calls.Call.{Call}
use Rattle.file_protocol.specs.declared.calls.Call.TheVariants.{OpenFile, Lock, LookFile, Close, MakeFirst, NameFile}
use Rattle.file_protocol.specs.declared.calls.Call.TheVariants.{LookLog}
use Rattle.file_protocol.specs.declared.calls.Call.TheVariants.{OpenLog, RemoveLog, RemoveFile, SyncNames, MakeLog}
use Rattle.file_protocol.specs.declared.calls.Call.TheVariants.{RenewLog}
use Rattle.file_protocol.specs.declared.calls.Call.TheVariants.{WriteBody, OpenGate, SyncLog, MakeFile, RenameFile}
use Rattle.file_protocol.specs.declared.calls.Call.TheVariants.{Nothing}
use Rattle.file_protocol.specs.declared.calls.Outcome.{Outcome}
use Rattle.file_protocol.specs.declared.calls.Outcome.TheVariants.{Done, Refused, Missing, File, Log, Foreign, Stranger}
use Rattle.file_protocol.specs.declared.calls.Outcome.TheVariants.{Failed}
use Rattle.file_protocol.specs.declared.calls.Purpose.{Purpose}
use Rattle.file_protocol.specs.declared.calls.Purpose.TheVariants.{Checkpoint, Mend, Save}
use Rattle.file_protocol.specs.declared.calls.SessionRequest.{SessionRequest}

-- The folder and its disk. A number stands for an image. A file never changes its image: to write another image is to
-- make another file. A log has the images of its records, the newest first, and last the image of FILE as the log
-- began.
pub record FolderState : Type 0 where
  pub image : ℕ → ℕ  -- the image of a file
  pub is_log : ℕ → Bool  -- whether a file is a log
  pub file : Option ℕ  -- the file that FILE leads to
  pub log : Option ℕ  -- the file that FILE-log leads to
  pub content : ℕ → List ℕ  -- the records of a log
  pub files : ℕ → Option ℕ  -- what FILE led to since the names were synced: after a power cut, any of these
  pub logs : ℕ → Option ℕ  -- what FILE-log led to
  pub contents : ℕ → ℕ → List ℕ  -- what a log had since it was synced: after a power cut, any of these
  pub promised : Option ℕ  -- the image that was answered last
  pub trying : Option ℕ  -- the image of a commit or save that was not answered

-- what the sessions share
pub record Shared : Type 0 where
  pub owner : ℕ → Option ℕ  -- the session that has the lock of a file
  pub opened : ℕ → Bool  -- whether a reader opened a file: no new file gets its number
  pub disk : FolderState

-- f, but x at i
abbrev pub put : {X : Type 0} → (ℕ → X) → ℕ → X → ℕ → X
put f i x j = cond (j == i) x (f j)

-- one possibility more
abbrev pub beside : {X : Type 0} → X → (ℕ → X) → ℕ → X
beside x f zero = x
beside x f (suc k) = f k

-- ---- what an opening finds
abbrev pub has : ℕ → List ℕ → Bool
has x [] = false
has x (v ∷ vs) = (v == x) || has x vs

-- a log without a record belongs to every file, another log to the files whose image it names
abbrev pub belongs : ℕ → List ℕ → Bool
belongs image [] = true
belongs image (v ∷ vs) = has image (v ∷ vs)

-- the image that a file and its log encode
abbrev pub newest : ℕ → List ℕ → ℕ
newest image [] = image
newest image (v ∷ vs) = v

-- the records beside FILE: none where nothing has the log's name, or a file that is not a log
abbrev pub records : (ℕ → Bool) → (ℕ → List ℕ) → Option ℕ → List ℕ
records is_log content None = []
records is_log content (Some l) = cond (is_log l) (content l) []

-- the image of a file with these records; nothing if they belong to another file
abbrev pub finds : ℕ → List ℕ → Option ℕ
finds image c = cond (belongs image c) (Some (newest image c)) None

abbrev pub found_in : (ℕ → ℕ) → List ℕ → Option ℕ → Option ℕ
found_in image c None = None
found_in image c (Some i) = finds (image i) c

-- what an opening finds: the image; nothing if FILE does not exist or its log belongs to another file
abbrev pub found : FolderState → Option ℕ
found d = found_in d.image (records d.is_log d.content d.log) d.file

-- ---- the calls of the system

-- what a call leaves, and its answer
pub record Reply : Type 0 where
  pub shared : Shared
  pub answer : Outcome

abbrev pub reply : Shared → Outcome → Reply
reply s a = record { shared = s; answer = a }

abbrev pub on_disk : Shared → FolderState → Outcome → Reply
on_disk s d a = record { shared = record s { disk = d }; answer = a }

abbrev pub looked : Shared → Option ℕ → Reply
looked s None = reply s Missing
looked s (Some i) = reply s (File i)

-- a lock is given if nobody has it
abbrev pub locked : Shared → ℕ → ℕ → Option ℕ → Reply
locked s p i None = reply (record s { owner = put s.owner i (Some p) }) Done
locked s p i (Some q) = reply s Refused

-- an owner, unless it is p
abbrev pub without : ℕ → Option ℕ → Option ℕ
without p None = None
without p (Some q) = cond (q == p) None (Some q)

-- the owners after p unlocks a file
abbrev pub freed : (ℕ → Option ℕ) → ℕ → ℕ → ℕ → Option ℕ
freed owner p i j = cond (j == i) (without p (owner j)) (owner j)

abbrev pub leads_to : Option ℕ → ℕ → Bool
leads_to None n = false
leads_to (Some i) n = i == n

-- whether a new file of the image x may get the number n: it stands for that image, and is no other file's number
abbrev pub is_free : Shared → ℕ → ℕ → Bool
is_free s n x = (s.disk.image n == x) && (not (s.opened n) && not (leads_to s.disk.file n))

-- a file gets a number that is free and whose lock nobody has
abbrev pub made_if : Shared → FolderState → ℕ → ℕ → Option ℕ → Bool → Reply
made_if s d p n None true =
    reply (record { owner = put s.owner n (Some p); opened = s.opened; disk = d }) (File n)
made_if s d p n None false = reply s Refused
made_if s d p n (Some q) b = reply s Refused

abbrev pub made : Shared → FolderState → ℕ → ℕ → ℕ → Reply
made s d p n x = made_if s d p n (s.owner n) (is_free s n x)

-- a file gets the name FILE if no file has it
abbrev pub named : Shared → FolderState → ℕ → Option ℕ → Reply
named s d i None = on_disk s (record d { file = Some i; files = beside (Some i) d.files }) Done
named s d i (Some j) = reply s Refused

abbrev pub has_records : List ℕ → Bool
has_records [] = false
has_records (v ∷ vs) = true

abbrev pub seen_as : Shared → ℕ → Bool → Reply
seen_as s l true = reply s (Log l (has_records (s.disk.content l)))
seen_as s l false = reply s Stranger

abbrev pub log_looked : Shared → Option ℕ → Reply
log_looked s None = reply s Missing
log_looked s (Some l) = seen_as s l (s.disk.is_log l)

abbrev pub belongs_as : Shared → ℕ → Bool → Reply
belongs_as s l true = reply s (Log l (has_records (s.disk.content l)))
belongs_as s l false = reply s Foreign

abbrev pub opened_as : Shared → ℕ → ℕ → Bool → Reply
opened_as s i l true = belongs_as s l (belongs (s.disk.image i) (s.disk.content l))
opened_as s i l false = reply s Stranger

abbrev pub log_opened : Shared → ℕ → Option ℕ → Reply
log_opened s i None = reply s Missing
log_opened s i (Some l) = opened_as s i l (s.disk.is_log l)

-- the disk with a log of these records, which is synced, under FILE-log
abbrev pub with_log : FolderState → ℕ → List ℕ → FolderState
with_log d n c =
    record d {
      log = Some n;
      logs = beside (Some n) d.logs;
      content = put d.content n c;
      contents = put d.contents n (λ k. c);
    }

abbrev pub log_made : Shared → FolderState → ℕ → Bool → Option ℕ → Reply
log_made s d n true None = on_disk s (with_log d n []) (Log n false)
log_made s d n false None = reply s Refused
log_made s d n b (Some l) = reply s Refused

abbrev pub log_renewed : Shared → FolderState → ℕ → ℕ → Bool → Reply
log_renewed s d l n true = on_disk s (with_log d n (d.content l)) (Log n true)
log_renewed s d l n false = reply s Refused

-- the disk without FILE-log
abbrev pub without_log : FolderState → FolderState
without_log d = record d { log = None; logs = beside None d.logs }

-- the names as they are now, for good
abbrev pub names_synced : FolderState → FolderState
names_synced d = record d { files = λ k. d.file; logs = λ k. d.log }

-- a log with a record more; the first one names the image of FILE too
abbrev pub appended : ℕ → ℕ → List ℕ → List ℕ
appended image v [] = v ∷ image ∷ []
appended image v (u ∷ us) = v ∷ u ∷ us

-- the disk with a record more, which is not synced
abbrev pub with_record : FolderState → ℕ → List ℕ → ℕ → FolderState
with_record d l c v =
    record d { content = put d.content l c; contents = put d.contents l (beside c (d.contents l)); trying = Some v }

abbrev pub log_synced : FolderState → ℕ → FolderState
log_synced d l = record d { contents = put d.contents l (λ k. d.content l) }

abbrev pub value_of : Option ℕ → ℕ
value_of None = 0
value_of (Some v) = v

-- the image of the file that is to replace FILE
abbrev pub image_for : FolderState → Purpose → ℕ → ℕ → ℕ → ℕ
image_for d Checkpoint i l v = newest (d.image i) (d.content l)
image_for d Mend i l v = value_of d.promised
image_for d Save i l v = v

-- a save is under way
abbrev pub tries : FolderState → Purpose → ℕ → FolderState
tries d Save v = record d { trying = Some v }
tries d why v = d

-- The call of a session p. If it makes a file or a log, n is its number, and x the image of a new segment. A body
-- behind a
-- shut gate does not count.
abbrev pub system_on : Shared → FolderState → ℕ → ℕ → ℕ → Call → Reply
system_on s d p n x OpenFile = looked s d.file
system_on s d p n x (Lock i) = locked s p i (s.owner i)
system_on s d p n x LookFile = looked s d.file
system_on s d p n x (Close i) = reply (record s { owner = freed s.owner p i }) Done
system_on s d p n x MakeFirst = made s d p n x
system_on s d p n x (NameFile i) = named s d i d.file
system_on s d p n x LookLog = log_looked s d.log
system_on s d p n x (OpenLog i) = log_opened s i d.log
system_on s d p n x (RemoveLog l) = on_disk s (without_log d) Done
system_on s d p n x (RemoveFile i) = on_disk s (record d { file = None; files = beside None d.files }) Done
system_on s d p n x SyncNames = on_disk s (names_synced d) Done
system_on s d p n x (MakeLog i) = log_made s d n (d.is_log n) d.log
system_on s d p n x (RenewLog i l) = log_renewed s d l n (d.is_log n)
system_on s d p n x (WriteBody i l v) = reply s Done
system_on s d p n x (OpenGate i l v) =
    on_disk s (with_record d l (appended (d.image i) v (d.content l)) v) Done
system_on s d p n x (SyncLog l) = on_disk s (log_synced d l) Done
system_on s d p n x (MakeFile why i l v) = made s (tries d why v) p n (image_for d why i l v)
system_on s d p n x (RenameFile g) = on_disk s (record d { file = Some g; files = beside (Some g) d.files }) Done
system_on s d p n x Nothing = reply s Done

abbrev pub system : Shared → ℕ → ℕ → ℕ → Call → Reply
system s p n x c = system_on s s.disk p n x c

-- how a call ends
pub data How : Type 0 where
  Works : How
  -- it fails, and nothing was done
  Fails : How
  -- it fails, and was done all the same
  FailsDone : How

abbrev pub ended_as : Shared → Reply → How → Reply
ended_as s r Works = r
ended_as s r Fails = reply s Failed
ended_as s r FailsDone = record { shared = r.shared; answer = Failed }

-- The image that a caller was answered by a call that was done: of the file that was created; of the file that was
-- found,
-- as soon as it is durable; of the commit; of the save.
abbrev pub answered : Session → Outcome → FolderState → FolderState
answered (SyncingName i) Done d = record d { promised = Some (d.image i); trying = None }
answered (SyncingLog i l b) Done d = record d { promised = Some (newest (d.image i) (d.content l)); trying = None }
answered (SyncingGate i l v) Done d = record d { promised = Some v; trying = None }
answered (SyncingFirst i v) Done d = record d { promised = Some (d.image i); trying = None }
answered (SyncingRename i l g Save) Done d = record d { promised = Some (d.image g); trying = None }
answered (SyncingEnd g) Done d = record d { promised = Some (d.image g); trying = None }
answered s a d = d

-- ---- what may happen

-- what sessions share, the sessions and the readers
pub record World : Type 0 where
  pub shared : Shared
  pub sessions : ℕ → Session
  pub readers : ℕ → FileReader
  pub was : ℕ → List ℕ  -- what an opening would have found at each moment since a reader began

-- one event of a schedule
pub data WorldEvent : Type 0 where
  -- a session makes its next call; a file that it makes gets the number n, and the image x
  Steps : (p n x : ℕ) → How → WorldEvent
  -- its caller requests something
  Asks : (p : ℕ) → SessionRequest → WorldEvent
  -- a process is killed, at any moment: its locks are free
  Killed : (p : ℕ) → WorldEvent
  -- a process without a session begins one
  Begins : (p : ℕ) → WorldEvent
  -- somebody removes FILE, whose lock nobody has, and leaves the log. Nothing is promised of FILE any more
  Removed : WorldEvent
  -- while FILE does not exist, somebody removes FILE-log, or puts any file there
  LogPut : Option ℕ → WorldEvent
  -- a reader begins, and makes its next call, which may fail
  ReaderBegins : (r : ℕ) → WorldEvent
  ReaderSteps : (r : ℕ) → (works : Bool) → WorldEvent
  -- the power fails, and leaves these of what the names led to, and of what the logs had
  PowerFails : (file log : ℕ) → (ℕ → ℕ) → WorldEvent

abbrev pub begun : Session → Session
begun Ended = Seeking
begun s = s

abbrev pub removed_if : Shared → FolderState → Option ℕ → Shared
removed_if s d None =
    record s { disk = record d { file = None; files = beside None d.files; promised = None; trying = None } }
removed_if s d (Some q) = s

abbrev pub removed : Shared → Option ℕ → Shared
removed s None = s
removed s (Some i) = removed_if s s.disk (s.owner i)

abbrev pub log_put : Shared → FolderState → Option ℕ → Option ℕ → Shared
log_put s d o None = record s { disk = record d { log = o; logs = beside o d.logs } }
log_put s d o (Some i) = s

abbrev pub stepped : World → ℕ → Reply → World
stepped w p r =
    record w {
      shared = record {
        owner = r.shared.owner;
        opened = w.shared.opened;
        disk = answered (w.sessions p) r.answer r.shared.disk;
      };
      sessions = put w.sessions p (after_answer (w.sessions p) r.answer);
    }

-- ---- readers
abbrev pub this_or_none : Option ℕ → ReadAnswer
this_or_none None = NotFound
this_or_none (Some x) = Found x

-- a log, or nothing
abbrev pub log_or_none : (ℕ → Bool) → Option ℕ → ReadAnswer
log_or_none is_log None = NotFound
log_or_none is_log (Some l) = cond (is_log l) (Found l) NotFound

-- what a reader is answered. A log is read up to a gate that is shut: its records at that moment
abbrev pub answer_to : FolderState → ReadCall → ReadAnswer
answer_to d ReaderOpensFile = this_or_none d.file
answer_to d ReaderOpensLog = log_or_none d.is_log d.log
answer_to d (ReadBoth f l) = this_or_none (finds (d.image f) (d.content l))
answer_to d (ReadFile f) = this_or_none (finds (d.image f) [])
answer_to d ReaderLooks = this_or_none d.file
answer_to d ReaderRests = NotFound

abbrev pub works_or_not : Bool → ReadAnswer → ReadAnswer
works_or_not true a = a
works_or_not false a = ReadFailed

abbrev pub opened_by : (ℕ → Bool) → FileReader → ℕ → Bool
opened_by opened (HasFile f) = put opened f true
opened_by opened x = opened

abbrev pub read_on : World → ℕ → FileReader → World
read_on w r now =
    record w {
      shared = record { owner = w.shared.owner; opened = opened_by w.shared.opened now; disk = w.shared.disk };
      readers = put w.readers r now;
    }

-- what is left on the disk
abbrev pub left : FolderState → ℕ → ℕ → (ℕ → ℕ) → FolderState
left d f l c =
    record {
      image = d.image;
      is_log = d.is_log;
      file = d.files f;
      log = d.logs l;
      content = λ i. d.contents i (c i);
      files = λ k. d.files f;
      logs = λ k. d.logs l;
      contents = λ i k. d.contents i (c i);
      promised = d.promised;
      trying = d.trying;
    }

abbrev pub happens : World → WorldEvent → World
happens w (Steps p n x how) =
    stepped w p (ended_as w.shared (system w.shared p n x (call_of (w.sessions p))) how)
happens w (Asks p r) = record w { sessions = put w.sessions p (after_request (w.sessions p) r) }
happens w (Killed p) =
    record w {
      shared = record { owner = λ j. without p (w.shared.owner j); opened = w.shared.opened; disk = w.shared.disk };
      sessions = put w.sessions p Ended;
    }
happens w (Begins p) = record w { sessions = put w.sessions p (begun (w.sessions p)) }
happens w Removed = record w { shared = removed w.shared w.shared.disk.file }
happens w (LogPut o) = record w { shared = log_put w.shared w.shared.disk o w.shared.disk.file }
happens w (ReaderBegins r) = record w { readers = put w.readers r ReaderSeeking; was = put w.was r [] }
happens w (ReaderSteps r works) =
    read_on w r (read_after (w.readers r) (works_or_not works (answer_to w.shared.disk (read_call_of (w.readers r)))))
happens w (PowerFails f l c) =
    record w {
      shared = record { owner = λ i. None; opened = w.shared.opened; disk = left w.shared.disk f l c };
      sessions = λ p. Ended;
      readers = λ r. Idle;
    }

abbrev pub with_found : Option ℕ → List ℕ → List ℕ
with_found None vs = vs
with_found (Some v) vs = v ∷ vs

-- what is found now is noted for each reader
abbrev pub noted : World → World
noted w = record w { was = λ r. with_found (found w.shared.disk) (w.was r) }

-- a whole schedule
abbrev pub run : List WorldEvent → World → World
run [] w = w
run (e ∷ es) w = run es (noted (happens w e))

-- there is no FILE and no session, and perhaps a file under the log's name
abbrev pub start : Option ℕ → (ℕ → ℕ) → (ℕ → Bool) → (ℕ → List ℕ) → World
start log image is_log content =
    record {
      shared = record {
        owner = λ i. None;
        opened = λ i. false;
        disk = record {
          image = image;
          is_log = is_log;
          file = None;
          log = log;
          content = content;
          files = λ k. None;
          logs = λ k. log;
          contents = λ l k. content l;
          promised = None;
          trying = None;
        };
      };
      sessions = λ p. Ended;
      readers = λ r. Idle;
      was = λ r. [];
    }

-- a world that a schedule leads to
abbrev pub world_after : List WorldEvent → Option ℕ → (ℕ → ℕ) → (ℕ → Bool) → (ℕ → List ℕ) → World
world_after events log image is_log content = run events (start log image is_log content)

-- ---- the theorems

-- this image, or that of a commit or save that was not answered
abbrev pub IsPromisedOrTried : FolderState → ℕ → Option ℕ → Type 0
IsPromisedOrTried d v o = (o ≡ Some v) ⊎ ((u : ℕ) × (d.trying ≡ Some u) × (o ≡ Some u))

-- Whatever the order of the calls of all sessions, whichever of them fail, whichever processes are killed, and
-- whenever the
-- power fails: an opening finds the image that was answered last, or that of a commit or save that was not answered.
abbrev pub NoCommitIsLost : Type 0
NoCommitIsLost = (log : Option ℕ) (image : ℕ → ℕ) (is_log : ℕ → Bool) (content : ℕ → List ℕ) (events : List WorldEvent)
    (v : ℕ)
    → (world_after events log image is_log content).shared.disk.promised ≡ Some v
    → IsPromisedOrTried (world_after events log image is_log content).shared.disk v
    (found (world_after events log image is_log content).shared.disk)

-- whether a session may change FILE or its log
abbrev pub is_writer : Session → Bool
is_writer Seeking = false
is_writer (Opened i) = false
is_writer (Locked i) = false
is_writer (Retrying i) = false
is_writer Absent = false
is_writer Creating = false
is_writer (Created i) = false
is_writer (CheckingName i) = false
is_writer (Ending i) = false
is_writer Ended = false
is_writer s = true

-- No two sessions hold FILE at once.
abbrev pub OneWriter : Type 0
OneWriter = (log : Option ℕ) (image : ℕ → ℕ) (is_log : ℕ → Bool) (content : ℕ → List ℕ) (events : List WorldEvent)
    (p q : ℕ)
    → is_writer ((world_after events log image is_log content).sessions p) ≡ true
    → is_writer ((world_after events log image is_log content).sessions q) ≡ true
    → p ≡ q

-- What a reader returns was what an opening would have found at a moment of the reading.
abbrev pub ReaderFindsACommit : Type 0
ReaderFindsACommit = (log : Option ℕ) (image : ℕ → ℕ) (is_log : ℕ → Bool) (content : ℕ → List ℕ)
    (events : List WorldEvent) (r v : ℕ)
    → (world_after events log image is_log content).readers r ≡ Returned v
    → has v ((world_after events log image is_log content).was r) ≡ true

-- whether a call changes what the names lead to, or a log; to give a file a name that is free is none of these
abbrev pub changes : Call → Bool
changes (RemoveLog l) = true
changes (RemoveFile i) = true
changes SyncNames = true
changes (MakeLog i) = true
changes (RenewLog i l) = true
changes (WriteBody i l v) = true
changes (OpenGate i l v) = true
changes (SyncLog l) = true
changes (RenameFile g) = true
changes c = false

-- what a call removes or replaces under the log's name is this log
abbrev pub TakesLog : Call → FolderState → Type 0
TakesLog (RemoveLog l) d = (d.log ≡ Some l) × (d.is_log l ≡ true)
TakesLog (RenewLog i l) d = (d.log ≡ Some l) × (d.is_log l ≡ true)
TakesLog c d = Unit {0}

-- p has locked the file that FILE leads to
abbrev pub HoldsFile : ℕ → Shared → Type 0
HoldsFile p s = (i : ℕ) × (s.disk.file ≡ Some i) × (s.owner i ≡ Some p)

-- A session that changes anything holds the file that FILE leads to, and takes no file but a log from the log's name.
abbrev pub NothingOfOthersChanges : Type 0
NothingOfOthersChanges = (log : Option ℕ) (image : ℕ → ℕ) (is_log : ℕ → Bool) (content : ℕ → List ℕ)
    (events : List WorldEvent) (p : ℕ)
    → changes (call_of ((world_after events log image is_log content).sessions p)) ≡ true
    → HoldsFile p (world_after events log image is_log content).shared
    × TakesLog (call_of ((world_after events log image is_log content).sessions p))
    (world_after events log image is_log content).shared.disk
