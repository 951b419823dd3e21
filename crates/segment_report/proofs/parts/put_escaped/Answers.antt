use Rattle.segment_report.specs.Parts.{xml_text}
use Rattle.segment_report.proofs.picture.Escapes.{cut-written}
use Rattle.segment_report.proofs.parts.put_escaped.Goals as goal

pub returns-in_err-put_byte : goal.returns-in_err-put_byte
returns-in_err-put_byte g c =
    cut-written (g.W.Sink.history c.args.out.now) (g.W.Sink.history c.bytes.out)
    (g.W.Sink.history c.put_byte.new.out) c.bytes.before c.bytes.last c.bytes.byte-index c.args.text.now
    (xml_text c.args.text.now) c.bytes.invariant.written c.bytes-test.true
    _ c.from_residual.result c.from_residual.ensures.0 c.in_err-put_byte.ensures
