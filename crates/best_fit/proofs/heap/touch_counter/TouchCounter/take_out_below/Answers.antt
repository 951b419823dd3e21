-- The search finds the gap, in few steps.
use Rattle.best_fit.proofs.Common.{◌≡◌, subst, ◌∙◌, ℕ, arith, Option, Some, IfSome, CanBeginRemoval}
use Rattle.best_fit.proofs.free_tree.ExitPoint.{found_itself}
use Rattle.best_fit.proofs.free_tree.LinkAndUnlink.{few_bits, node_of_tree}
use Rattle.best_fit.proofs.heap.touch_counter.TouchCounter.take_out_below.Goals as goal

pub probe_of-sought-requires : goal.probe_of-sought-requires
probe_of-sought-requires c =
    node_of_tree c.args.self.now.gaps.now.window c.requires.tree.0 c.args.node c.requires.tree.1 c.requires.tree.2

pub overflow_add-self : goal.overflow_add-self
overflow_add-self c =
    let w = c.args.self.now.gaps.now.window in let hs = c.requires.tree.0 in let h = c.requires.tree.1 in
    let steps = c.way_to-way.ensures.steps hs h in let few = few_bits w hs h in let room = c.requires.no_overflow in
    omega arith

pub overflow_add-self-2 : goal.overflow_add-self-2
overflow_add-self-2 c =
    let w = c.args.self.now.gaps.now.window in let hs = c.requires.tree.0 in let h = c.requires.tree.1 in
    let steps = c.way_to-way.ensures.steps hs h in let few = few_bits w hs h in let room = c.requires.no_overflow in
    omega arith

pub take_out_at-requires-clause-exit : goal.take_out_at-requires-clause-exit
take_out_at-requires-clause-exit c =
    let w = c.args.self.now.gaps.now.window in let hs = c.requires.tree.0 in let h = c.requires.tree.1 in
    let way = c.way_to-way in
    let found : way.result.node ≡ Some c.args.node = way.ensures.first hs h
    ∙ found_itself w hs h c.args.node c.probe_of-sought.result c.requires.tree.2 c.probe_of-sought.ensures in
    subst (λ (o : Option ℕ). IfSome o (λ n. CanBeginRemoval w n way.result.exit)) found way.ensures.exit

pub take_out_at-requires-clause-no_overflow : goal.take_out_at-requires-clause-no_overflow
take_out_at-requires-clause-no_overflow c =
    let w = c.args.self.now.gaps.now.window in let hs = c.requires.tree.0 in let h = c.requires.tree.1 in
    let steps = c.way_to-way.ensures.steps hs h in let few = few_bits w hs h in let room = c.requires.no_overflow in
    omega arith
