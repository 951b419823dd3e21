use Rattle.raw_region.proofs.Laws.{writes-element}
use Rattle.segment_dump.specs.Json.{string_byte}
use Rattle.segment_dump.proofs.json_texts.put_string_bytes.Goals as goal

pub returns-in_err-put_string_byte : goal.returns-in_err-put_string_byte
returns-in_err-put_string_byte g c =
    writes-element string_byte c.args.text.now c.bytes.byte-index 0 (g.W.Sink.history c.args.out.now)
    (g.W.Sink.history c.bytes.out) (g.W.Sink.history c.put_string_byte.new.out) _ c.from_residual.result
    c.bytes-test.true c.bytes.invariant.taken c.bytes.invariant.failures c.from_residual.ensures.0
    c.in_err-put_string_byte.ensures
