-- What a script leaves that is run on a segment.
use Rattle.std.specs.Prelude.{◌≡◌, Result, Ok, MatchResult}
use Rattle.raw_region.specs.Device.{ReadDelta, WriteDelta}
use Rattle.segment_manager.specs.State.{SegmentState}
use Rattle.segment_scripts.specs.declared.ends.End.{End}
use Rattle.segment_scripts.specs.declared.ends.Until.{Until}
use Rattle.segment_scripts.specs.declared.faults.RunFault.{RunFault}
use Rattle.segment_scripts.specs.Segments.{MachineState, IsMachineAt, answer_line, refuses_line}
use Rattle.segment_scripts.specs.Stopping.{FailsOnTheWay, LeavesUntil, stops_at}
use Rattle.segment_cli.specs.declared.faults.SessionFault.{SessionFault}
use Rattle.segment_cli.specs.Beginning.{run_fault}

module _ (until : Until) (old new : SegmentState) (script : ReadDelta) (out : WriteDelta) where
  -- from wherever the segment stood, the run came to this end
  pub record ServesOk (end : End) : Type 0 where
    pub left : (at : MachineState) → IsMachineAt old at
        → LeavesUntil answer_line (stops_at until refuses_line) at script out (IsMachineAt new) (Ok end)

  -- the run failed, and this is its fault by its name in a session
  pub record ServesErr (fault : SessionFault) : Type 0 where
    pub stop : RunFault
    pub why : fault ≡ run_fault stop
    pub left : (at : MachineState) → IsMachineAt old at
        → FailsOnTheWay answer_line (stops_at until refuses_line) at script out (IsMachineAt new) stop

  -- a script on a segment: to its end or the first refusal, or its fault
  abbrev pub Serves : Result End SessionFault → Type 0
  Serves result = MatchResult result ServesOk ServesErr
