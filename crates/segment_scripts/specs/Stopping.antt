-- The outcome of a run that ends with the first refused line, for any machine that answers lines: `stops state line`
-- says whether the run ends after a line.
use Rattle.std.specs.Prelude.{◌≡◌, ◌&&◌, ℕ, Bool, true, false, not, List, [], ◌∷◌, ◌++◌, take, Result, Ok, Err}
use Rattle.raw_region.specs.Device.{ReadDelta, WriteDelta}
use Rattle.segment_scripts.specs.declared.answered.Answered.{Answered}
use Rattle.segment_scripts.specs.declared.ends.End.{End}
use Rattle.segment_scripts.specs.declared.ends.End.TheVariants.{Complete, Refused}
use Rattle.segment_scripts.specs.declared.ends.Until.{Until}
use Rattle.segment_scripts.specs.declared.ends.Until.TheVariants.{End as ToTheEnd, Refusal}
use Rattle.segment_scripts.specs.declared.faults.RunFault.{RunFault}
use Rattle.segment_scripts.specs.declared.faults.RunFault.TheVariants.{ReadFault, WriteFault, ScriptTooLong}
use Rattle.segment_scripts.specs.RunOutcome.{AnswersLines, LeavesFault, RunsWhole, answer_all}
use Rattle.segment_scripts.specs.Lines.{ended_lines, executable, script_limit}
use Rattle.segment_scripts.specs.Refusing.{was_refused}
use Rattle.segment_scripts.specs.Run.{lines}

-- a run may end before its script does
abbrev pub may_stop : Until → Bool
may_stop ToTheEnd = false
may_stop Refusal = true

-- a run ends after this answer
abbrev pub is_stop : Until → Answered → Bool
is_stop until answered = may_stop until && was_refused answered

-- after which lines a run ends, if these are refused
abbrev pub stops_at : {P : Type 0} → Until → (P → List ℕ → Bool) → P → List ℕ → Bool
stops_at until refuses state line = may_stop until && refuses state line

-- none of these lines ends the run
abbrev pub goes_on : {P : Type 0} → (P → List ℕ → List ℕ × P) → (P → List ℕ → Bool) → P → List (List ℕ) → Bool
goes_on respond stops state [] = true
goes_on respond stops state (l ∷ ls) = not (stops state l) && goes_on respond stops (respond state l).1 ls

module _ {P : Type 0} (respond : P → List ℕ → List ℕ × P) (stops : P → List ℕ
    → Bool) (start : P) (script : ReadDelta) (out : WriteDelta) (Stands : P → Type 0) where
  -- all lines of the script were answered, and none of them ended the run
  pub record RunsToTheEnd : Type 0 where
    pub ran : RunsWhole respond start script out Stands
    pub on : goes_on respond stops start (lines script.bytes) ≡ true

  -- the first line after which the run was to end was answered, and none after it was executed
  pub record IsStoppedAt : Type 0 where
    pub before : List (List ℕ)
    pub last : List ℕ
    pub rest : List (List ℕ)
    pub parts : executable script ≡ before ++ last ∷ rest
    pub on : goes_on respond stops start before ≡ true
    pub stop : stops (answer_all respond start before).1 last ≡ true
    pub answers : AnswersLines respond start (before ++ last ∷ []) out.bytes Stands
    pub read : script.failed ≡ false
    pub written : out.failed ≡ false

  -- the lines that were answered before a fault
  abbrev pub answered_before : (fault : RunFault) → LeavesFault respond start script out fault Stands → List (List ℕ)
  answered_before ReadFault left = ended_lines script.bytes
  answered_before WriteFault left = left.answers.answered
  answered_before ScriptTooLong left = ended_lines (take script_limit script.bytes)

  -- the run failed, and none of the lines before ended it
  pub record FailsOnTheWay (fault : RunFault) : Type 0 where
    pub left : LeavesFault respond start script out fault Stands
    pub on : goes_on respond stops start (answered_before fault left) ≡ true

  -- the outcome of a run that can end before its script does
  abbrev pub LeavesUntil : Result End RunFault → Type 0
  LeavesUntil (Ok Complete) = RunsToTheEnd
  LeavesUntil (Ok Refused) = IsStoppedAt
  LeavesUntil (Err fault) = FailsOnTheWay fault
