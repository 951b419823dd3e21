use Rattle.segment_dump.proofs.Common.{◌++◌, codes, writes-cut, writes-then}
use Rattle.segment_dump.specs.Json.{base64_text}
use Rattle.segment_dump.proofs.json_texts.put_coded.Goals as goal

pub returns-in_err-write_all : goal.returns-in_err-write_all
returns-in_err-write_all g c =
    writes-cut (g.W.Sink.history c.args.out.now) (g.W.Sink.history c.write_all.new.sink) _ c.from_residual.result
    (codes "{\"base64\":\"") (base64_text c.args.bytes.now ++ codes "\"}") c.from_residual.ensures.0
    c.in_err-write_all.ensures

pub returns-in_err-put_base64 : goal.returns-in_err-put_base64
returns-in_err-put_base64 g c =
    let text = base64_text c.args.bytes.now in
    let start = g.W.Sink.history c.args.out.now in
    let opened = g.W.Sink.history c.write_all.new.sink in
    let ended = g.W.Sink.history c.put_base64.new.out in
    let failed = c.from_residual-in_err-put_base64.result in
    writes-then start opened ended _ failed (codes "{\"base64\":\"") (text ++ codes "\"}") c.in_ok-write_all.ensures
    (writes-cut opened ended _ failed text (codes "\"}") c.from_residual-in_err-put_base64.ensures.0
    c.in_err-put_base64.ensures)

pub returns : goal.returns
returns g c =
    let text = base64_text c.args.bytes.now in
    let start = g.W.Sink.history c.args.out.now in
    let opened = g.W.Sink.history c.write_all.new.sink in
    let filled = g.W.Sink.history c.put_base64.new.out in
    let closed = g.W.Sink.history c.write_all-2.new.sink in
    writes-then start opened closed _ c.write_all-2.result (codes "{\"base64\":\"") (text ++ codes "\"}")
    c.in_ok-write_all.ensures
    (writes-then opened filled closed _ c.write_all-2.result text (codes "\"}") c.in_ok-put_base64.ensures
    c.write_all-2.ensures)
