use Rattle.std.proofs.Common.{◌≡◌, ◌++◌, take}
use Rattle.std.specs.List.{flat_map}
use Rattle.segment_report.specs.Parts.{slice_text}
use Rattle.segment_report.proofs.parts.put_slices.Given as goal

abbrev pub invariant-slices : goal.invariant-slices
invariant-slices g l = record {
  taken : (g.W.Sink.history l.out).bytes ≡ (g.W.Sink.history l.initial.out).bytes
      ++ flat_map slice_text (take l.slice-index l.slices);
  failures : (g.W.Sink.history l.out).failures ≡ (g.W.Sink.history l.initial.out).failures;
}
