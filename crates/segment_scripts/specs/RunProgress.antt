-- Where a run stands in the middle of a script.
use Rattle.std.specs.Prelude.{◌≡◌, ◌≤◌, ℕ, Bool, true, List, [], ◌∷◌, ◌++◌, length, take}
use Rattle.raw_region.specs.Device.{ReadDelta, WriteDelta}
use Rattle.raw_region.specs.Answers.{AppendsProperPrefix}
use Rattle.segment_scripts.specs.declared.ends.End.{End}
use Rattle.segment_scripts.specs.declared.ends.End.TheVariants.{Complete, Refused}
use Rattle.segment_scripts.specs.Run.{lines}
use Rattle.segment_scripts.specs.RunOutcome.{answer_all}
use Rattle.segment_scripts.specs.Lines.{ended_lines, open_line, script_limit}
use Rattle.segment_scripts.specs.Stopping.{IsStoppedAt, goes_on}

-- how much is kept of a line that has not ended
abbrev pub kept : ℕ
kept = 4098

-- a run has answered these lines after what went out before
pub record HasAnswered {P : Type 0} (respond : P → List ℕ
    → List ℕ × P) (start : P) (before : List ℕ) (answered : List (List ℕ)) (Stands : P
    → Type 0) (taken : List ℕ) : Type 0 where
  pub prints : taken ≡ before ++ (answer_all respond start answered).0
  pub stands : Stands (answer_all respond start answered).1

-- a run has answered these lines and executed the next one, whose answer was cut
pub record HasStopped {P : Type 0} (respond : P → List ℕ
    → List ℕ × P) (start : P) (before : List ℕ) (answered : List (List ℕ)) (next : List ℕ) (Stands : P
    → Type 0) (taken : List ℕ) : Type 0 where
  pub prints : AppendsProperPrefix (before ++ (answer_all respond start answered).0) taken
      (respond (answer_all respond start answered).1 next).0
  pub stands : Stands (respond (answer_all respond start answered).1 next).1

-- the lines that ended in the bytes read were answered, and the open line is kept as far as it matters
pub record HasRunTo {P : Type 0} (respond : P → List ℕ → List ℕ × P) (start : P) (before read : List ℕ) (Stands : P
    → Type 0) (line taken : List ℕ) : Type 0 where
  pub answered : HasAnswered respond start before (ended_lines read) Stands taken
  pub line_kept : line ≡ take kept (open_line read)

-- the script ended within its limit, and the lines that ended in it were answered
pub record IsAtEnd {P : Type 0} (respond : P → List ℕ
    → List ℕ × P) (start : P) (before : List ℕ) (script : ReadDelta) (Stands : P
    → Type 0) (line taken : List ℕ) : Type 0 where
  pub whole : script.ended ≡ true
  pub within : length script.bytes ≤ script_limit
  pub behind : HasRunTo respond start before script.bytes Stands line taken

-- the writer failed in the answer to the last line, which has no end
pub record IsStoppedAtLast {P : Type 0} (respond : P → List ℕ
    → List ℕ × P) (start : P) (before read : List ℕ) (Stands : P → Type 0) (taken : List ℕ) : Type 0 where
  pub parts : lines read ≡ ended_lines read ++ open_line read ∷ []
  pub stopped : HasStopped respond start before (ended_lines read) (open_line read) Stands taken

-- ---- where a run may end after a line

module _ {P : Type 0} (respond : P → List ℕ → List ℕ × P) (stops : P → List ℕ
    → Bool) (start : P) (before : List ℕ) where
  -- the run was not to end after one of the lines that ended
  pub record IsOn (read : List ℕ) (Stands : P → Type 0) (line taken : List ℕ) : Type 0 where
    pub behind : HasRunTo respond start before read Stands line taken
    pub on : goes_on respond stops start (ended_lines read) ≡ true

  -- a run has answered these lines and the next one, after which it was to end
  pub record EndsBehind (ended : List (List ℕ)) (next : List ℕ) (Stands : P → Type 0) (taken : List ℕ) : Type 0 where
    pub on : goes_on respond stops start ended ≡ true
    pub stop : stops (answer_all respond start ended).1 next ≡ true
    pub answered : HasAnswered respond start before (ended ++ next ∷ []) Stands taken

  -- the run ended at a line end of the piece
  pub record EndsIn (read piece : List ℕ) (Stands : P → Type 0) (taken : List ℕ) : Type 0 where
    pub prefix : List ℕ
    pub more : List ℕ
    pub parts : piece ≡ prefix ++ 0x0A ∷ more
    pub ends : EndsBehind (ended_lines (read ++ prefix)) (open_line (read ++ prefix)) Stands taken

  -- the writer failed at a line end of the piece
  pub record FailsIn (read piece : List ℕ) (Stands : P → Type 0) (taken : List ℕ) : Type 0 where
    pub prefix : List ℕ
    pub more : List ℕ
    pub parts : piece ≡ prefix ++ 0x0A ∷ more
    pub on : goes_on respond stops start (ended_lines (read ++ prefix)) ≡ true
    pub stopped : HasStopped respond start before (ended_lines (read ++ prefix)) (open_line (read ++ prefix))
        Stands taken

  -- the outcome of a piece: it was read to its end, or the run ended in it
  abbrev pub LeavesPiece : List ℕ → List ℕ → (P → Type 0) → List ℕ → List ℕ → End → Type 0
  LeavesPiece read piece Stands line taken Complete = IsOn (read ++ piece) Stands line taken
  LeavesPiece read piece Stands line taken Refused = EndsIn read piece Stands taken

  -- all lines were answered, and none of them ended the run
  pub record IsThrough (read : List ℕ) (Stands : P → Type 0) (taken : List ℕ) : Type 0 where
    pub answered : HasAnswered respond start before (lines read) Stands taken
    pub on : goes_on respond stops start (lines read) ≡ true

  -- the run ended at the last line, which has no end
  pub record EndsAtLast (read : List ℕ) (Stands : P → Type 0) (taken : List ℕ) : Type 0 where
    pub parts : lines read ≡ ended_lines read ++ open_line read ∷ []
    pub ends : EndsBehind (ended_lines read) (open_line read) Stands taken

  -- the outcome of the last line
  abbrev pub LeavesLast : List ℕ → (P → Type 0) → List ℕ → End → Type 0
  LeavesLast read Stands taken Complete = IsThrough read Stands taken
  LeavesLast read Stands taken Refused = EndsAtLast read Stands taken

-- the script ended within its limit, and the run was not to end after a line that ended in it
pub record IsOnAtEnd {P : Type 0} (respond : P → List ℕ → List ℕ × P) (stops : P → List ℕ
    → Bool) (start : P) (before : List ℕ) (script : ReadDelta) (Stands : P
    → Type 0) (line taken : List ℕ) : Type 0 where
  pub end : IsAtEnd respond start before script Stands line taken
  pub on : goes_on respond stops start (ended_lines script.bytes) ≡ true

-- the outcome of the lines that end in a script: it was read to its end, or one of them ended the run
abbrev pub LeavesEnded : {P : Type 0} → (P → List ℕ → List ℕ × P) → (P → List ℕ → Bool) → P → List ℕ → ReadDelta
    → (P → Type 0) → List ℕ → List ℕ → WriteDelta → End → Type 0
LeavesEnded respond stops start before script Stands line taken out Complete =
    IsOnAtEnd respond stops start before script Stands line taken
LeavesEnded respond stops start before script Stands line taken out Refused =
    IsStoppedAt respond stops start script out Stands
