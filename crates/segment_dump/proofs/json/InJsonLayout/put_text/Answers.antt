use Rattle.segment_dump.proofs.Common.{subst, ◌++◌, Writes, writes-cut, writes-then}
use Rattle.segment_dump.specs.Json.{comma_before, json_bytes}
use Rattle.segment_dump.proofs.json.InJsonLayout.put_text.Goals as goal

pub returns-in_err-write_all : goal.returns-in_err-write_all
returns-in_err-write_all g c =
    let start = g.W.Sink.history c.args.out.now in
    let ended = g.W.Sink.history c.write_all.new.sink in
    subst (λ l. Writes start ended c.from_residual.result (l ++ json_bytes c.args.text.now)) c.comma_before.ensures
    (writes-cut start ended _ c.from_residual.result c.comma_before.result.now (json_bytes c.args.text.now)
    c.from_residual.ensures.0 c.in_err-write_all.ensures)

pub returns : goal.returns
returns g c =
    let start = g.W.Sink.history c.args.out.now in
    let mid = g.W.Sink.history c.write_all.new.sink in
    let ended = g.W.Sink.history c.put_bytes.new.out in
    subst (λ l. Writes start ended c.put_bytes.result (l ++ json_bytes c.args.text.now)) c.comma_before.ensures
    (writes-then start mid ended _ c.put_bytes.result c.comma_before.result.now (json_bytes c.args.text.now)
    c.in_ok-write_all.ensures c.put_bytes.ensures)
