use Rattle.std.proofs.Common.{◌≡◌, ◌+◌, length, drop}
use Rattle.raw_region.specs.Device.{AppendsBytes}
use Rattle.segment_scripts.specs.Lines.{script_limit}
use Rattle.segment_scripts.specs.RunProgress.{IsOn}
use Rattle.segment_scripts.specs.Stopping.{stops_at}
use Rattle.segment_scripts.proofs.scripts.read_lines.Given as goal

abbrev pub invariant-pieces : goal.invariant-pieces
invariant-pieces g l =
    let old = (g.S.Source.history l.initial.script).bytes in
    let new = (g.S.Source.history l.script).bytes in
    record {
      buffer : length l.piece ≡ 65536;
      grows : AppendsBytes old new;
      limit : length (drop (length old) new) + l.left ≡ script_limit;
      passed : length new + l.left ≡ length old + script_limit;
      behind : (start : g.M.Machine.RunState) → g.M.Machine.stands l.initial.machine start
          → IsOn g.M.Machine.respond (stops_at l.until g.M.Machine.refuses) start
          (g.W.Sink.history l.initial.out).bytes (drop (length old) new) (g.M.Machine.stands l.machine) l.line
          (g.W.Sink.history l.out).bytes;
      ends : (g.S.Source.history l.script).ends ≡ (g.S.Source.history l.initial.script).ends;
      reads : (g.S.Source.history l.script).failures ≡ (g.S.Source.history l.initial.script).failures;
      writes : (g.W.Sink.history l.out).failures ≡ (g.W.Sink.history l.initial.out).failures;
    }

abbrev pub decreases-pieces : goal.decreases-pieces
decreases-pieces g l = l.left
