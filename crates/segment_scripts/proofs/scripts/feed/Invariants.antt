use Rattle.std.proofs.Common.{◌≡◌, ℕ, List, ◌++◌, length}
use Rattle.segment_scripts.specs.RunProgress.{IsOn}
use Rattle.segment_scripts.specs.Stopping.{stops_at}
use Rattle.segment_scripts.proofs.scripts.feed.Given as goal

abbrev pub invariant-lines : goal.invariant-lines
invariant-lines g l = record {
  done : List ℕ;
  parts : l.piece ≡ done ++ l.rest;
  behind : (start : g.M.Machine.RunState) (before read : List ℕ)
      → IsOn g.M.Machine.respond (stops_at l.until g.M.Machine.refuses) start before read
      (g.M.Machine.stands l.initial.machine) l.initial.line (g.W.Sink.history l.initial.out).bytes
      → IsOn g.M.Machine.respond (stops_at l.until g.M.Machine.refuses) start before (read ++ done)
      (g.M.Machine.stands l.machine) l.line (g.W.Sink.history l.out).bytes;
  failures : (g.W.Sink.history l.out).failures ≡ (g.W.Sink.history l.initial.out).failures;
}

abbrev pub decreases-lines : goal.decreases-lines
decreases-lines g l = length l.rest
