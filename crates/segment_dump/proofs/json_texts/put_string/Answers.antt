use Rattle.segment_dump.proofs.Common.{[], ◌∷◌, ◌++◌, flat_map, writes-cut, writes-then}
use Rattle.segment_dump.specs.Json.{string_byte}
use Rattle.segment_dump.proofs.json_texts.put_string.Goals as goal

pub returns-in_err-put_string_bytes : goal.returns-in_err-put_string_bytes
returns-in_err-put_string_bytes g c =
    let text = flat_map string_byte c.args.text.now in
    let start = g.W.Sink.history c.args.out.now in
    let opened = g.W.Sink.history c.write_all.new.sink in
    let ended = g.W.Sink.history c.put_string_bytes.new.out in
    writes-then start opened ended _ c.from_residual-in_err-put_string_bytes.result (34 ∷ []) (text ++ 34 ∷ [])
    c.in_ok-write_all.ensures (writes-cut opened ended _ c.from_residual-in_err-put_string_bytes.result text (34 ∷ [])
    c.from_residual-in_err-put_string_bytes.ensures.0 c.in_err-put_string_bytes.ensures)

pub returns : goal.returns
returns g c =
    let text = flat_map string_byte c.args.text.now in
    let start = g.W.Sink.history c.args.out.now in
    let opened = g.W.Sink.history c.write_all.new.sink in
    let filled = g.W.Sink.history c.put_string_bytes.new.out in
    let closed = g.W.Sink.history c.write_all-2.new.sink in
    writes-then start opened closed _ c.write_all-2.result (34 ∷ []) (text ++ 34 ∷ []) c.in_ok-write_all.ensures
    (writes-then opened filled closed _ c.write_all-2.result text (34 ∷ []) c.in_ok-put_string_bytes.ensures
    c.write_all-2.ensures)
