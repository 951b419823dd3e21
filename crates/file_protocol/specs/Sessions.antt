-- What a session asks for in each state, and where each answer and each request leads.
use Rattle.std.specs.Prelude.{ℕ, Bool, true, false, cond, ◌==◌}
use Rattle.file_protocol.specs.declared.session.Session.{Session}
use Rattle.file_protocol.specs.declared.session.Session.TheVariants.{Seeking, Opened, Locked, Retrying, Absent}
use Rattle.file_protocol.specs.declared.session.Session.TheVariants.{Creating, Created}
use Rattle.file_protocol.specs.declared.session.Session.TheVariants.{CheckingName, Named, ClearingLog, SyncingName}
use Rattle.file_protocol.specs.declared.session.Session.TheVariants.{Unnaming}
use Rattle.file_protocol.specs.declared.session.Session.TheVariants.{Holding, RemovingEmpty, Bare, Left, MakingLog}
use Rattle.file_protocol.specs.declared.session.Session.TheVariants.{CopyingLog}
use Rattle.file_protocol.specs.declared.session.Session.TheVariants.{SyncingLog, Ready, CheckingFile, CheckingLog}
use Rattle.file_protocol.specs.declared.session.Session.TheVariants.{WritingBody}
use Rattle.file_protocol.specs.declared.session.Session.TheVariants.{SyncingBody, OpeningGate, SyncingGate, Unsure}
use Rattle.file_protocol.specs.declared.session.Session.TheVariants.{SyncingFirst}
use Rattle.file_protocol.specs.declared.session.Session.TheVariants.{Making, Looking, Renaming, CheckingRename}
use Rattle.file_protocol.specs.declared.session.Session.TheVariants.{Discarding}
use Rattle.file_protocol.specs.declared.session.Session.TheVariants.{SyncingRename, Unsynced, Unlocking, RemovingLog}
use Rattle.file_protocol.specs.declared.session.Session.TheVariants.{SyncingEnd}
use Rattle.file_protocol.specs.declared.session.Session.TheVariants.{Closing, Ending, Ended}
use Rattle.file_protocol.specs.declared.calls.Call.{Call}
use Rattle.file_protocol.specs.declared.calls.Call.TheVariants.{OpenFile, Lock, LookFile, Close, MakeFirst, NameFile}
use Rattle.file_protocol.specs.declared.calls.Call.TheVariants.{LookLog}
use Rattle.file_protocol.specs.declared.calls.Call.TheVariants.{OpenLog, RemoveLog, RemoveFile, SyncNames, MakeLog}
use Rattle.file_protocol.specs.declared.calls.Call.TheVariants.{RenewLog}
use Rattle.file_protocol.specs.declared.calls.Call.TheVariants.{WriteBody, OpenGate, SyncLog, MakeFile, RenameFile}
use Rattle.file_protocol.specs.declared.calls.Call.TheVariants.{Nothing}
use Rattle.file_protocol.specs.declared.calls.Outcome.{Outcome}
use Rattle.file_protocol.specs.declared.calls.Outcome.TheVariants.{Done, Refused, Missing, File, Log, Foreign, Stranger}
use Rattle.file_protocol.specs.declared.calls.Outcome.TheVariants.{Failed}
use Rattle.file_protocol.specs.declared.calls.Purpose.{Purpose}
use Rattle.file_protocol.specs.declared.calls.Purpose.TheVariants.{Checkpoint, Mend, Save}
use Rattle.file_protocol.specs.declared.calls.SessionRequest.{SessionRequest}
use Rattle.file_protocol.specs.declared.calls.SessionRequest.TheVariants.{Begin, Commit, SyncAgain}
use Rattle.file_protocol.specs.declared.calls.SessionRequest.TheVariants.{Checkpoint as AskedForCheckpoint}
use Rattle.file_protocol.specs.declared.calls.SessionRequest.TheVariants.{Mend as AskedToMend}
use Rattle.file_protocol.specs.declared.calls.SessionRequest.TheVariants.{Save as AskedToSave, Close as AskedToClose}

-- the call of a session
abbrev pub call_of : Session → Call
call_of Seeking = OpenFile
call_of (Opened i) = Lock i
call_of (Locked i) = LookFile
call_of (Retrying i) = Close i
call_of Absent = LookLog
call_of Creating = MakeFirst
call_of (Created i) = NameFile i
call_of (CheckingName i) = LookFile
call_of (Named i) = LookLog
call_of (ClearingLog i l) = RemoveLog l
call_of (SyncingName i) = SyncNames
call_of (Unnaming i) = RemoveFile i
call_of (Holding i) = OpenLog i
call_of (RemovingEmpty i l) = RemoveLog l
call_of (Bare i b) = Nothing
call_of (Left i l) = Nothing
call_of (MakingLog i) = MakeLog i
call_of (CopyingLog i l) = RenewLog i l
call_of (SyncingLog i l b) = SyncNames
call_of (Ready i l b) = Nothing
call_of (CheckingFile i l b v) = LookFile
call_of (CheckingLog i l b v) = LookLog
call_of (WritingBody i l b v) = WriteBody i l v
call_of (SyncingBody i l v) = SyncLog l
call_of (OpeningGate i l v) = OpenGate i l v
call_of (SyncingGate i l v) = SyncLog l
call_of (Unsure i l) = Nothing
call_of (SyncingFirst i v) = SyncNames
call_of (Making i l v why) = MakeFile why i l v
call_of (Looking i l g why) = LookFile
call_of (Renaming i l g why) = RenameFile g
call_of (CheckingRename i l g why) = LookFile
call_of (Discarding i l g why) = Close g
call_of (SyncingRename i l g why) = SyncNames
call_of (Unsynced i l g why) = Nothing
call_of (Unlocking i l g why) = Close i
call_of (RemovingLog g l why) = RemoveLog l
call_of (SyncingEnd g) = SyncNames
call_of (Closing i l) = RemoveLog l
call_of (Ending i) = Close i
call_of Ended = Nothing

-- ---- answers
abbrev pub if_done : Outcome → Session → Session → Session
if_done Done done other = done
if_done a done other = other

abbrev pub if_same : Outcome → ℕ → Session → Session → Session
if_same (File j) i same other = cond (j == i) same other
if_same a i same other = other

abbrev pub if_same_log : Outcome → ℕ → Session → Session → Session
if_same_log (Log m b) l same other = cond (m == l) same other
if_same_log a l same other = other

abbrev pub sought : Outcome → Session
sought (File i) = Opened i
sought Missing = Absent
sought a = Ended

abbrev pub absent_after : Outcome → Session
absent_after Missing = Creating
absent_after Stranger = Creating
absent_after (Log l b) = cond b Ended Creating
absent_after a = Ended

abbrev pub created_after : Outcome → Session
created_after (File i) = Created i
created_after a = Ended

abbrev pub named_after : ℕ → Outcome → Session
named_after i Done = Named i
named_after i Refused = Retrying i
named_after i a = CheckingName i

abbrev pub cleared_after : ℕ → Outcome → Session
cleared_after i Missing = SyncingName i
cleared_after i Stranger = SyncingName i
cleared_after i (Log l b) = cond b (Unnaming i) (ClearingLog i l)
cleared_after i a = Unnaming i

abbrev pub opened_after : ℕ → Outcome → Session
opened_after i Missing = Bare i false
opened_after i Stranger = Bare i false
opened_after i (Log l b) = cond b (Left i l) (RemovingEmpty i l)
opened_after i a = Ending i

abbrev pub made_after : ℕ → Bool → Outcome → Session
made_after i b (Log l c) = SyncingLog i l b
made_after i b a = Holding i

abbrev pub at_rest : ℕ → ℕ → Purpose → Session
at_rest i l Checkpoint = Ready i l true
at_rest i l Mend = Unsure i l
at_rest i l Save = Bare i true

abbrev pub looks_after : ℕ → ℕ → Purpose → Outcome → Session
looks_after i l why (File g) = Looking i l g why
looks_after i l why a = at_rest i l why

abbrev pub placed_after : ℕ → ℕ → ℕ → Purpose → Outcome → Session
placed_after i l g why (File j) =
    cond (j == g) (SyncingRename i l g why) (cond (j == i) (Discarding i l g why) (Ending i))
placed_after i l g why a = Ending i

abbrev pub replaced : ℕ → ℕ → Purpose → Session
replaced g l Save = Bare g true
replaced g l why = RemovingLog g l why

abbrev pub emptied : ℕ → Purpose → Session
emptied g Mend = SyncingEnd g
emptied g why = Bare g false

-- the session after an answer
abbrev pub after_answer : Session → Outcome → Session
after_answer Seeking a = sought a
after_answer (Opened i) a = if_done a (Locked i) (Ending i)
after_answer (Locked i) a = if_same a i (Holding i) (Retrying i)
after_answer (Retrying i) a = Seeking
after_answer Absent a = absent_after a
after_answer Creating a = created_after a
after_answer (Created i) a = named_after i a
after_answer (CheckingName i) a = if_same a i (Named i) (Ending i)
after_answer (Named i) a = cleared_after i a
after_answer (ClearingLog i l) a = if_done a (SyncingName i) (Unnaming i)
after_answer (SyncingName i) a = if_done a (Bare i true) (Unnaming i)
after_answer (Unnaming i) a = Ending i
after_answer (Holding i) a = opened_after i a
after_answer (RemovingEmpty i l) a = if_done a (Bare i false) (Ending i)
after_answer (Bare i b) a = Bare i b
after_answer (Left i l) a = Left i l
after_answer (MakingLog i) a = made_after i false a
after_answer (CopyingLog i l) a = made_after i true a
after_answer (SyncingLog i l b) a = if_done a (Ready i l b) (Holding i)
after_answer (Ready i l b) a = Ready i l b
after_answer (CheckingFile i l b v) a = if_same a i (CheckingLog i l b v) (Ending i)
after_answer (CheckingLog i l b v) a = if_same_log a l (WritingBody i l b v) (Ending i)
after_answer (WritingBody i l b v) a = if_done a (SyncingBody i l v) (Ready i l b)
after_answer (SyncingBody i l v) a = if_done a (OpeningGate i l v) (Unsure i l)
after_answer (OpeningGate i l v) a = if_done a (SyncingGate i l v) (Unsure i l)
after_answer (SyncingGate i l v) a = if_done a (Ready i l true) (Unsure i l)
after_answer (Unsure i l) a = Unsure i l
after_answer (SyncingFirst i v) a = if_done a (Making i 0 v Save) (Bare i false)
after_answer (Making i l v why) a = looks_after i l why a
after_answer (Looking i l g why) a = if_same a i (Renaming i l g why) (Ending i)
after_answer (Renaming i l g why) a = if_done a (SyncingRename i l g why) (CheckingRename i l g why)
after_answer (CheckingRename i l g why) a = placed_after i l g why a
after_answer (Discarding i l g why) a = at_rest i l why
after_answer (SyncingRename i l g why) a = if_done a (Unlocking i l g why) (Unsynced i l g why)
after_answer (Unsynced i l g why) a = Unsynced i l g why
after_answer (Unlocking i l g why) a = replaced g l why
after_answer (RemovingLog g l why) a = if_done a (emptied g why) (Holding g)
after_answer (SyncingEnd g) a = if_done a (Bare g true) (Holding g)
after_answer (Closing i l) a = Ending i
after_answer (Ending i) a = Ended
after_answer Ended a = Ended

-- ---- requests
abbrev pub asked_bare : ℕ → Bool → SessionRequest → Session
asked_bare i b Begin = MakingLog i
asked_bare i b (AskedToSave v) = cond b (Making i 0 v Save) (SyncingFirst i v)
asked_bare i b AskedToClose = Ending i
asked_bare i b r = Bare i b

abbrev pub asked_left : ℕ → ℕ → SessionRequest → Session
asked_left i l Begin = CopyingLog i l
asked_left i l AskedToClose = Ending i
asked_left i l r = Left i l

abbrev pub asked_ready : ℕ → ℕ → Bool → SessionRequest → Session
asked_ready i l b (Commit v) = CheckingFile i l b v
asked_ready i l b AskedForCheckpoint = cond b (Making i l 0 Checkpoint) (RemovingEmpty i l)
asked_ready i l b AskedToClose = cond b (Ending i) (Closing i l)
asked_ready i l b r = Ready i l b

abbrev pub asked_unsure : ℕ → ℕ → SessionRequest → Session
asked_unsure i l AskedToMend = Making i l 0 Mend
asked_unsure i l AskedToClose = Ending i
asked_unsure i l r = Unsure i l

abbrev pub asked_unsynced : ℕ → ℕ → ℕ → Purpose → SessionRequest → Session
asked_unsynced i l g why SyncAgain = SyncingRename i l g why
asked_unsynced i l g why AskedToClose = Ending g
asked_unsynced i l g why r = Unsynced i l g why

-- the session after a request: each state that is not at rest stays
abbrev pub after_request : Session → SessionRequest → Session
after_request (Bare i b) r = asked_bare i b r
after_request (Left i l) r = asked_left i l r
after_request (Ready i l b) r = asked_ready i l b r
after_request (Unsure i l) r = asked_unsure i l r
after_request (Unsynced i l g why) r = asked_unsynced i l g why r
after_request s r = s
