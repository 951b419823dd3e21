use Rattle.segment_dump.proofs.Common.{sym, subst, Writes}
use Rattle.segment_dump.specs.Json.{json_key}
use Rattle.segment_dump.proofs.json.put_key.Goals as goal

pub returns-in-Unique : goal.returns-in-Unique
returns-in-Unique g c =
    subst (λ k. Writes (g.W.Sink.history c.args.out.now) (g.W.Sink.history c.put_pieces.new.out) c.put_pieces.result
    (json_key k c.args.said.name.now)) (sym c.in-Unique.is) c.put_pieces.ensures
