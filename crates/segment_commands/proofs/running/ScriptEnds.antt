-- The end that the reader of a script met in a run.
use Rattle.std.proofs.Common.{◌≡◌, ℕ, inl, inr, refl, sym, ap, subst, Result, Ok, Err}
use Rattle.raw_region.specs.Device.{ReaderHistory}
use Rattle.segment_manager.specs.State.{SegmentState}
use Rattle.image_check.specs.declared.errors.OpenError.TheVariants.{Image as RefusedImage, OutOfMemory as NoMemory}
use Rattle.image_check.specs.declared.errors.OpenError.TheVariants.{ReadFault as NotRead, RegionTooSmall as NoRoom}
use Rattle.segment_scripts.specs.declared.ends.End.{End}
use Rattle.segment_scripts.specs.declared.ends.End.TheVariants.{Complete, Refused}
use Rattle.segment_scripts.specs.declared.faults.RunFault.{RunFault}
use Rattle.segment_scripts.specs.declared.faults.RunFault.TheVariants.{ReadFault as ScriptNotRead}
use Rattle.segment_scripts.specs.declared.faults.RunFault.TheVariants.{WriteFault as AnswerNotWritten}
use Rattle.segment_scripts.specs.declared.faults.RunFault.TheVariants.{ScriptTooLong as TooLong}
use Rattle.segment_scripts.specs.RunOutcome.{MeetsEndOnce}
use Rattle.segment_cli.specs.declared.faults.SessionFault.{SessionFault}
use Rattle.segment_cli.specs.declared.faults.SessionFault.TheVariants.{BadSize, Image, OutOfMemory, ReadFault}
use Rattle.segment_cli.specs.declared.faults.SessionFault.TheVariants.{RegionTooSmall, ScriptTooLong, WriteFault}
use Rattle.segment_cli.specs.Beginning.{run_fault}
use Rattle.segment_cli.specs.Session.{MeetsScriptEnd}
use Rattle.segment_file.specs.declared.file_errors.FileError.{FileError}
use Rattle.segment_file.specs.declared.file_errors.FileError.TheVariants as file
use Rattle.segment_commands.specs.Commands.{MakesSegment}
use Rattle.segment_commands.specs.Opening.{as_session, session_fault}
use Rattle.segment_commands.specs.Running.{MeetsRunEnd, as_program, as_saved}

-- a run that ended with a fault
abbrev pub failed : SessionFault → Result End SessionFault
failed fault = Err fault

-- the program answers as the run did, whose reader met the same end
pub end_answered : (answer : Result End SessionFault) (old new : ReaderHistory) → MeetsScriptEnd answer old new
    → MeetsRunEnd (as_program answer) old new
end_answered (Ok Complete) old new met = met
end_answered (Ok Refused) old new met = met
end_answered (Err (Image c)) old new met = met
end_answered (Err BadSize) old new met = met
end_answered (Err RegionTooSmall) old new met = met
end_answered (Err (OutOfMemory refusal)) old new met = met
end_answered (Err ReadFault) old new (inl same) = inl (ap (λ (h : ReaderHistory). h.ends) same)
end_answered (Err ReadFault) old new (inr met) = inr met
end_answered (Err WriteFault) old new met = met
end_answered (Err ScriptTooLong) old new met = met

-- a script that was run to a fault was read at most to its end
pub end_at_fault : (stop : RunFault) (old new : ReaderHistory) → MeetsEndOnce old new
    → MeetsScriptEnd (failed (run_fault stop)) old new
end_at_fault ScriptNotRead old new met = inr met
end_at_fault AnswerNotWritten old new met = met
end_at_fault TooLong old new met = met

-- the reader of a script that was run to its end met it, however the save ended
pub end_saved : {E : Type 0} (answer : Result (Unit {0}) E) (old new : ReaderHistory) → MeetsEndOnce old new
    → MeetsScriptEnd (as_saved answer) old new
end_saved (Ok done) old new met = met
end_saved (Err why) old new met = met

same_fault : (a b : SessionFault) → ◌≡◌ {A = Result SegmentState SessionFault} (Err a) (Err b) → b ≡ a
same_fault a b e = cc

no_fault : (s : SegmentState) (fault : SessionFault) → ◌≡◌ {A = Result SegmentState SessionFault} (Err fault) (Ok s) → ⊥
no_fault s fault e = cc

module _ (gave : ReaderHistory) where
  unread_for : (error : FileError) → MeetsScriptEnd (failed (session_fault error)) gave gave
  unread_for (file.Open (RefusedImage v)) = refl
  unread_for (file.Open (NoMemory refusal)) = refl
  unread_for (file.Open NoRoom) = inl refl
  unread_for (file.Open NotRead) = inl refl
  unread_for file.Exists = inl refl
  unread_for file.BadSize = inl refl
  unread_for (file.OutOfMemory refusal) = inl refl
  unread_for file.WriteFault = inl refl
  unread_for file.ForeignLog = inl refl
  unread_for file.InUse = inl refl
  unread_for (file.Growth why) = inl refl

  -- no script is read where no segment was opened
  pub unread_unopened : (x : Result SegmentState FileError) (fault : SessionFault) → Err fault ≡ as_session x
      → MeetsScriptEnd (failed fault) gave gave
  unread_unopened (Ok s) fault e = absurd (no_fault s fault e)
  unread_unopened (Err error) fault e =
      subst (λ (f : SessionFault). MeetsScriptEnd (failed f) gave gave) (same_fault fault (session_fault error) e)
      (unread_for error)

  -- no script is read where no segment was made
  pub unread_unmade : (size : ℕ) (fault : SessionFault) → MakesSegment size (Err fault)
      → MeetsScriptEnd (failed fault) gave gave
  unread_unmade size fault (inl w) =
      subst (λ (f : SessionFault). MeetsScriptEnd (failed f) gave gave) (same_fault fault BadSize w.refused) refl
  unread_unmade size fault (inr m) =
      subst (λ (f : SessionFault). MeetsScriptEnd (failed f) gave gave) (sym m.answers) refl
