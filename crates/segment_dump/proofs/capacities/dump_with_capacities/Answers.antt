use Rattle.segment_dump.proofs.dumping.Output.{of-cut, of-then}
use Rattle.segment_dump.proofs.capacities.dump_with_capacities.Goals as goal

pub returns-in_err-dump : goal.returns-in_err-dump
returns-in_err-dump g c = of-cut _ c.from_residual.ensures.0 c.in_err-dump.ensures

pub returns : goal.returns
returns g c = of-then c.in_ok-dump.ensures c.put_capacities.ensures
