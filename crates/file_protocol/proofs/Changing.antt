-- Who changes anything holds FILE, and takes no file but a log from the log's name.
use Rattle.std.proofs.Common.{◌≡◌, inl, inr, ℕ, Bool, true, false, List, Option, Some, sym, refl}
use Rattle.file_protocol.specs.Sessions.{call_of}
use Rattle.file_protocol.specs.Worlds.{Shared, changes, is_writer, run, start, HoldsFile, TakesLog}
use Rattle.file_protocol.specs.Worlds.{NothingOfOthersChanges}
use Rattle.file_protocol.specs.declared.session.Session.{Session}
use Rattle.file_protocol.specs.declared.session.Session.TheVariants.{Seeking, Opened, Locked, Retrying, Absent}
use Rattle.file_protocol.specs.declared.session.Session.TheVariants.{Creating, Created}
use Rattle.file_protocol.specs.declared.session.Session.TheVariants.{CheckingName, ClearingLog, RemovingEmpty}
use Rattle.file_protocol.specs.declared.session.Session.TheVariants.{CopyingLog}
use Rattle.file_protocol.specs.declared.session.Session.TheVariants.{RemovingLog, Closing, Ending, Ended}
use Rattle.file_protocol.proofs.Parts.{true_false}
use Rattle.file_protocol.proofs.Relies.{On, Fits}
use Rattle.file_protocol.proofs.Runs.{holder, always, at_start}

writes : (x : Session) → changes (call_of x) ≡ true → is_writer x ≡ true
writes Seeking is = true_false (sym is)
writes (Opened i) is = true_false (sym is)
writes (Locked i) is = true_false (sym is)
writes (Retrying i) is = true_false (sym is)
writes Absent is = true_false (sym is)
writes Creating is = true_false (sym is)
writes (Created i) is = true_false (sym is)
writes (CheckingName i) is = true_false (sym is)
writes (Ending i) is = true_false (sym is)
writes Ended is = true_false (sym is)
writes x is = refl

takes : (p : ℕ) (s : Shared) (x : Session) → On s.disk x → TakesLog (call_of x) s.disk
takes p s (ClearingLog i l) h = (h.2, h.3)
takes p s (RemovingEmpty i l) h = (h.0.log, h.0.is_log)
takes p s (CopyingLog i l) h = (h.log, h.is_log)
takes p s (RemovingLog g l why) h = (h.0.has.log, h.0.has.is_log)
takes p s (Closing i l) h = (h.0.log, h.0.is_log)
takes p s x h = tt

-- who changes anything holds FILE
pub nothing_of_others_changes : NothingOfOthersChanges
nothing_of_others_changes log image is_log content es p is =
    let h = always es (start log image is_log content) (at_start log image is_log content) in
    let w = run es (start log image is_log content) in (
      holder p w.shared (w.sessions p) (h.fits p) (writes (w.sessions p) is),
      takes p w.shared (w.sessions p) (h.fits p).knows,
    )
