-- The link lies in a block.
use Rattle.best_fit.proofs.Common.{arith}
use Rattle.best_fit.proofs.heap.BlockLinks.{spot}
use Rattle.best_fit.proofs.heap.Heap.link.Goals as goal

pub overflow_add-handle : goal.overflow_add-handle
overflow_add-handle c = let s = spot c.args.self.now c.self.inside.gaps.window c.args.handle c.args.at 8 (cc)
    c.self.invariant.heap c.requires.room in let i = s.inside in let z = s.size in omega arith

pub load-requires-clause-aligned : goal.load-requires-clause-aligned
load-requires-clause-aligned c = let s = spot c.args.self.now c.self.inside.gaps.window c.args.handle c.args.at 8 (cc)
    c.self.invariant.heap c.requires.room in let a = s.aligned in omega arith

pub load-requires-clause-in_bounds : goal.load-requires-clause-in_bounds
load-requires-clause-in_bounds c =
    (spot c.args.self.now c.self.inside.gaps.window c.args.handle c.args.at 8 (cc)
    c.self.invariant.heap c.requires.room).inside
