use Rattle.segment_dump.proofs.capacities.put_capacities.Goals as goal
use Rattle.segment_dump.proofs.{Common.all_notes, dumping.Capacities.capacity-parts, dumping.Output.of-cut}
use Rattle.segment_dump.proofs.{dumping.Output.of-same, dumping.Output.of-then}

pub returns-in_err-put_indexes : goal.returns-in_err-put_indexes
returns-in_err-put_indexes g c = of-same (of-cut (λ d. all_notes d) c.from_residual.ensures.0
    c.in_err-put_indexes.ensures) (λ d st. capacity-parts d)

pub returns-in_err-put_named : goal.returns-in_err-put_named
returns-in_err-put_named g c = of-same (of-then c.in_ok-put_indexes.ensures
    (of-cut _ c.from_residual-in_err-put_named.ensures.0 c.in_err-put_named.ensures)) (λ d st. capacity-parts d)

pub returns-in_err-put_unique : goal.returns-in_err-put_unique
returns-in_err-put_unique g c =
    of-same (of-then c.in_ok-put_indexes.ensures (of-then c.in_ok-put_named.ensures
    (of-cut _ c.from_residual-in_err-put_unique.ensures.0 c.in_err-put_unique.ensures))) (λ d st. capacity-parts d)

pub returns : goal.returns
returns g c =
    of-same (of-then c.in_ok-put_indexes.ensures (of-then c.in_ok-put_named.ensures
    (of-then c.in_ok-put_unique.ensures c.put_anonymous.ensures))) (λ d st. capacity-parts d)
