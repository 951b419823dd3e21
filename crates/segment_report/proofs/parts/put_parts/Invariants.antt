use Rattle.std.proofs.Common.{◌≡◌, ◌++◌, take}
use Rattle.std.specs.List.{flat_map}
use Rattle.segment_report.specs.Parts.{part_text}
use Rattle.segment_report.proofs.parts.put_parts.Given as goal

abbrev pub invariant-parts : goal.invariant-parts
invariant-parts g l = record {
  taken : (g.W.Sink.history l.out).bytes ≡ (g.W.Sink.history l.initial.out).bytes
      ++ flat_map part_text (take l.part-index l.parts);
  failures : (g.W.Sink.history l.out).failures ≡ (g.W.Sink.history l.initial.out).failures;
}
