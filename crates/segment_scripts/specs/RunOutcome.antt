-- The outcome of a run, for any machine that answers lines: `respond state line` is the output for the line in a state
-- of the machine, and the next state.
use Rattle.std.specs.Prelude.{◌≡◌, ◌<◌, ◌≤◌, ℕ, ◌+◌, true, false, List, [], ◌∷◌, ◌++◌, length, take, Result, Ok, Err}
use Rattle.std.specs.Prelude.{if◌then◌else◌}
use Rattle.raw_region.specs.Device.{ReaderHistory, ReadDelta, WriterHistory, WriteDelta, ReadsSource}
use Rattle.raw_region.specs.Device.{IsProperPrefix}
use Rattle.segment_scripts.specs.declared.faults.RunFault.{RunFault}
use Rattle.segment_scripts.specs.declared.faults.RunFault.TheVariants.{ReadFault, WriteFault, ScriptTooLong}
use Rattle.segment_scripts.specs.Run.{lines}
use Rattle.segment_scripts.specs.Lines.{ended_lines, script_limit, executable}

-- what lines print from a place, and where they lead
abbrev pub answer_all : {P : Type 0} → (P → List ℕ → List ℕ × P) → P → List (List ℕ) → List ℕ × P
answer_all respond state [] = ([], state)
answer_all respond state (l ∷ ls) =
    let first = respond state l in
    let rest = answer_all respond first.1 ls in
    (first.0 ++ rest.0, rest.1)

-- a run answered these lines and printed nothing else, and the machine stands where they lead
pub record AnswersLines {P : Type 0} (respond : P → List ℕ
    → List ℕ × P) (start : P) (answered : List (List ℕ)) (printed : List ℕ) (Stands : P → Type 0) : Type 0 where
  pub prints : printed ≡ (answer_all respond start answered).0
  pub stands : Stands (answer_all respond start answered).1

-- a run answered some of these lines and executed the next one, and a proper prefix of its answer went out
pub record AnswersPart {P : Type 0} (respond : P → List ℕ
    → List ℕ × P) (start : P) (all : List (List ℕ)) (printed : List ℕ) (Stands : P → Type 0) : Type 0 where
  pub answered : List (List ℕ)
  pub next : List ℕ
  pub rest : List (List ℕ)
  pub parts : all ≡ answered ++ next ∷ rest
  pub prefix : List ℕ
  pub prints : printed ≡ (answer_all respond start answered).0 ++ prefix
  pub part : IsProperPrefix prefix (respond (answer_all respond start answered).1 next).0
  pub stands : Stands (respond (answer_all respond start answered).1 next).1

-- the script ended within its limit, and all its lines were answered
pub record RunsWhole {P : Type 0} (respond : P → List ℕ
    → List ℕ × P) (start : P) (script : ReadDelta) (out : WriteDelta) (Stands : P → Type 0) : Type 0 where
  pub whole : script.ended ≡ true
  pub within : length script.bytes ≤ script_limit
  pub answers : AnswersLines respond start (lines script.bytes) out.bytes Stands
  pub read : script.failed ≡ false
  pub written : out.failed ≡ false

-- the script's reader failed; the lines that ended before were answered
pub record IsCutByReader {P : Type 0} (respond : P → List ℕ
    → List ℕ × P) (start : P) (script : ReadDelta) (out : WriteDelta) (Stands : P → Type 0) : Type 0 where
  pub within : length script.bytes ≤ script_limit
  pub answers : AnswersLines respond start (ended_lines script.bytes) out.bytes Stands
  pub read : script.failed ≡ true
  pub written : out.failed ≡ false

-- the writer failed in the answer to a line
pub record IsCutByWriter {P : Type 0} (respond : P → List ℕ
    → List ℕ × P) (start : P) (script : ReadDelta) (out : WriteDelta) (Stands : P → Type 0) : Type 0 where
  pub answers : AnswersPart respond start (executable script) out.bytes Stands
  pub read : script.failed ≡ false
  pub written : out.failed ≡ true

-- the script has more bytes than it may have; the lines that ended within its limit were answered
pub record IsCutAtLimit {P : Type 0} (respond : P → List ℕ
    → List ℕ × P) (start : P) (script : ReadDelta) (out : WriteDelta) (Stands : P → Type 0) : Type 0 where
  pub beyond : script_limit < length script.bytes
  pub answers : AnswersLines respond start (ended_lines (take script_limit script.bytes)) out.bytes Stands
  pub read : script.failed ≡ false
  pub written : out.failed ≡ false

-- the outcome of a run at each fault
abbrev pub LeavesFault : {P : Type 0} → (P → List ℕ → List ℕ × P) → P → ReadDelta → WriteDelta → RunFault
    → (P → Type 0) → Type 0
LeavesFault respond start script out ReadFault Stands = IsCutByReader respond start script out Stands
LeavesFault respond start script out WriteFault Stands = IsCutByWriter respond start script out Stands
LeavesFault respond start script out ScriptTooLong Stands = IsCutAtLimit respond start script out Stands

-- The outcome of a run from a state: `IsContainer` holds for the states in which the machine can be afterwards.
abbrev pub ExecutesScript : {P : Type 0} → (P → List ℕ → List ℕ × P) → P → ReadDelta → WriteDelta
    → Result (Unit {0}) RunFault → (P → Type 0) → Type 0
ExecutesScript respond start script out (Ok u) Stands = RunsWhole respond start script out Stands
ExecutesScript respond start script out (Err fault) Stands = LeavesFault respond start script out fault Stands

-- by how much a run raises the count of failed reads, and of failed writes
abbrev pub failed_reads : {A : Type 0} → Result A RunFault → ℕ
failed_reads (Err ReadFault) = 1
failed_reads (Err WriteFault) = 0
failed_reads (Err ScriptTooLong) = 0
failed_reads (Ok x) = 0

abbrev pub failed_writes : {A : Type 0} → Result A RunFault → ℕ
failed_writes (Err ReadFault) = 0
failed_writes (Err WriteFault) = 1
failed_writes (Err ScriptTooLong) = 0
failed_writes (Ok x) = 0

-- if the reader has ended, the last read of the call met the end; no other read met it
abbrev pub MeetsEndOnce : ReaderHistory → ReaderHistory → Type 0
MeetsEndOnce old new = new.ends ≡ old.ends + (if new.ended then 1 else 0)

-- the use of the devices in a run, wherever it began: the script was read at most to one byte past its limit; if it has
-- ended, one read of the run met the end, and no read followed; and each failure is the one that the run returned
pub record UsesDevices {A : Type 0} (given given' : ReaderHistory) (taken taken' : WriterHistory)
    (result : Result A RunFault) : Type 0 where
  pub reads : ReadsSource given given' (failed_reads result)
  pub reads_no_further : length given'.bytes ≤ length given.bytes + script_limit + 1
  pub ends : MeetsEndOnce given given'
  pub writes_counted : taken'.failures ≡ taken.failures + failed_writes result
