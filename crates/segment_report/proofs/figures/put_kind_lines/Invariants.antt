use Rattle.std.proofs.Common.{◌≡◌, ◌++◌, take}
use Rattle.std.specs.List.{flat_map}
use Rattle.segment_report.specs.Stat.{counted_line}
use Rattle.segment_report.proofs.figures.put_kind_lines.Given as goal

abbrev pub invariant-kinds : goal.invariant-kinds
invariant-kinds g l = record {
  taken : (g.W.Sink.history l.out).bytes ≡ (g.W.Sink.history l.initial.out).bytes
      ++ flat_map (counted_line l.objects.kinds) (take l.kind-index l.kinds);
  failures : (g.W.Sink.history l.out).failures ≡ (g.W.Sink.history l.initial.out).failures;
}
