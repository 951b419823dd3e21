use Rattle.segment_dump.proofs.compare_sink.common.Goals as goal
use Rattle.segment_dump.proofs.{Common.arith, comparing.Comparison.unlike-at}

pub returns-then-some-index-clause-difference : goal.returns-then-some-index-clause-difference
returns-then-some-index-clause-difference c =
    unlike-at c.args.some.now c.args.other.now c.bytes.index (omega arith) (omega arith) c.if-some-index.true
