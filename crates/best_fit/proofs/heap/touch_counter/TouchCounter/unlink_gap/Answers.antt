-- The root is no further than at the root.
use Rattle.best_fit.proofs.heap.touch_counter.TouchCounter.unlink_gap.Goals as goal

pub take_out_at-requires-clause-exit : goal.take_out_at-requires-clause-exit
take_out_at-requires-clause-exit c = record { begins = λ hs h. tt }
