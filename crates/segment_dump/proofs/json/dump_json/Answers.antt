use Rattle.segment_dump.proofs.json.dump_json.Goals as goal
use Rattle.segment_dump.proofs.{dumping.Json.json-parts, dumping.Output.of-cut, dumping.Output.of-same}
use Rattle.segment_dump.proofs.{dumping.Output.of-then}

pub returns-in_err-put_named : goal.returns-in_err-put_named
returns-in_err-put_named g c = of-same (of-cut _ c.from_residual.ensures.0 c.in_err-put_named.ensures)
    (λ d st. json-parts d)

pub returns-in_err-put_unique : goal.returns-in_err-put_unique
returns-in_err-put_unique g c =
    of-same (of-then c.in_ok-put_named.ensures
    (of-cut _ c.from_residual-in_err-put_unique.ensures.0 c.in_err-put_unique.ensures)) (λ d st. json-parts d)

pub returns : goal.returns
returns g c =
    of-same (of-then c.in_ok-put_named.ensures (of-then c.in_ok-put_unique.ensures c.put_anonymous.ensures))
    (λ d st. json-parts d)
