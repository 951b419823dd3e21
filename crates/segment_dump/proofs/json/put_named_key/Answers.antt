use Rattle.segment_dump.proofs.Common.{codes, writes-cut, writes-then}
use Rattle.segment_dump.specs.Json.{json_string}
use Rattle.segment_dump.proofs.json.put_named_key.Goals as goal

pub returns-in_err-write_all : goal.returns-in_err-write_all
returns-in_err-write_all g c =
    writes-cut (g.W.Sink.history c.args.out.now) (g.W.Sink.history c.write_all.new.sink) _ c.from_residual.result
    (codes "{\"class\":\"named\",\"name\":") (json_string c.args.name.now) c.from_residual.ensures.0
    c.in_err-write_all.ensures

pub returns : goal.returns
returns g c =
    writes-then (g.W.Sink.history c.args.out.now) (g.W.Sink.history c.write_all.new.sink)
    (g.W.Sink.history c.put_string.new.out) _ c.put_string.result (codes "{\"class\":\"named\",\"name\":")
    (json_string c.args.name.now) c.in_ok-write_all.ensures c.put_string.ensures
