use Rattle.std.proofs.Common.{drop}
use Rattle.segment_report.specs.Parts.{xml_text}
use Rattle.segment_report.proofs.picture.Escapes.{IsWritten}
use Rattle.segment_report.proofs.parts.put_escaped.Given as goal

abbrev pub invariant-bytes : goal.invariant-bytes
invariant-bytes g l = record {
  written : IsWritten (g.W.Sink.history l.initial.out) (g.W.Sink.history l.out)
      l.before l.last (drop l.byte-index l.text) (xml_text l.text);
}
