-- A block is allocated, or nothing changes.
use Rattle.seg_index.proofs.{keeps-sorted, taken-stays}
use Rattle.seg_index.proofs.index.Index.prepare.Goals as goal

pub returns-clause-order : goal.returns-clause-order
returns-clause-order c = keeps-sorted (taken-stays c.in_ok-block.ensures.answer)
