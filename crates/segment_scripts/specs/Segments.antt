-- A segment as what answers the lines of a script.
use Rattle.std.specs.Prelude.{◌≡◌, ℕ, Bool, true, List, Result}
use Rattle.seg_types.specs.Commands.{Reading}
use Rattle.raw_region.specs.Device.{WriterHistory}
use Rattle.raw_region.specs.Format.{current}
use Rattle.segment_lang.specs.Language.{whole_language}
use Rattle.segment_lang.specs.Reading.{reading}
use Rattle.segment_manager.specs.declared.modes.Mode.{Mode}
use Rattle.segment_manager.specs.Directory.{Directory}
use Rattle.segment_manager.specs.State.{SegmentState, DenotesCurrent}
use Rattle.segment_manager.specs.Calls.{HasZeroGaps}
use Rattle.segment_scripts.specs.Answer.{line}
use Rattle.segment_scripts.specs.declared.answered.Answered.{Answered}
use Rattle.segment_scripts.specs.Refusing.{Tells, refuses}
use Rattle.segment_scripts.specs.Run.{respond}
use Rattle.segment_scripts.specs.Writing.{WritesFor}
use Rattle.segment_scripts.specs.ZeroGaps.{is_idle, zeros_after}

-- the state of a segment between two lines
pub record MachineState : Type 0 where
  pub mode : Mode
  pub directory : Directory
  -- its gaps are zero; if this is false they may be anything
  pub zeros : Bool

-- a segment has this mode, denotes this directory, and has zero gaps if that is known
pub record IsMachineAt (s : SegmentState) (at : MachineState) : Type 0 where
  pub mode : s.mode ≡ at.mode
  pub denotes : DenotesCurrent s.cut.bytes at.directory
  pub zeros : at.zeros ≡ true → HasZeroGaps s

-- where a reading leads: the mode stays
abbrev pub state_after : MachineState → Reading → MachineState
state_after at asked = record {
  mode = at.mode;
  directory = (respond at.mode at.directory asked).1;
  zeros = zeros_after at.mode at.directory asked at.zeros;
}

-- the output of a line in a state, and the next state
abbrev pub answer_line : MachineState → List ℕ → List ℕ × MachineState
answer_line at line = let asked = reading (whole_language current) line
    in ((respond at.mode at.directory asked).0, state_after at asked)

-- whether a line is refused at a place
abbrev pub refuses_line : MachineState → List ℕ → Bool
refuses_line at line = refuses at.mode at.directory (reading (whole_language current) line)

-- whether a line changes nothing at a place
abbrev pub is_idle_line : MachineState → List ℕ → Bool
is_idle_line at line = is_idle at.mode at.directory (reading (whole_language current) line)

-- for every directory of the segment: a line has the next directory of the machine, its output is written, and the
-- result says whether it was refused
pub record Responds {E : Type 0} (old new : SegmentState) (took took' : WriterHistory) (result : Result Answered E)
    (asked : Reading) : Type 0 where
  pub leads : (at : MachineState) → IsMachineAt old at → IsMachineAt new (state_after at asked)
  pub writes : WritesFor took took' result (IsMachineAt old) (λ at. (respond at.mode at.directory asked).0)
  pub tells : (at : MachineState) → IsMachineAt old at → Tells result (refuses at.mode at.directory asked)
  -- and where that changes nothing, nothing changes
  pub idles : (at : MachineState) → IsMachineAt old at → is_idle at.mode at.directory asked ≡ true → new ≡ old
