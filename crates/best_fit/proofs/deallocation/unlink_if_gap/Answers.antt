-- There is a gap, or the tree stays.
use Rattle.best_fit.proofs.Common.{sym, ◌∙◌, arith}
use Rattle.best_fit.proofs.free_tree.UnlinkIfGap.{one_gap, one_listed, one_small}
use Rattle.best_fit.proofs.free_tree.LinkAndUnlink.{few_bits}
use Rattle.best_fit.proofs.deallocation.unlink_if_gap.Goals as goal

pub overflow_add-at : goal.overflow_add-at
overflow_add-at c =
    let t = c.requires.tree in let o = one_gap t.1 c.in-Some.at (sym c.in-Some.is ∙ t.3) t.4 in
    let small = one_small c.args.touches.now.gaps.now.window t.0 t.1 t.2 c.in-Some.at o t.5 in omega arith

pub unlink_gap-requires-clause-tree : goal.unlink_gap-requires-clause-tree
unlink_gap-requires-clause-tree c =
    let t = c.requires.tree in let o = one_gap t.1 c.in-Some.at (sym c.in-Some.is ∙ t.3) t.4 in
    (_, t.5, one_listed c.args.touches.now.gaps.now.window t.0 t.1 t.2 c.in-Some.at o t.5)

pub returns-in-Some-clause-steps_upper : goal.returns-in-Some-clause-steps_upper
returns-in-Some-clause-steps_upper c =
    let t = c.requires.tree in let few = few_bits c.args.touches.now.gaps.now.window _ t.5 in
    let steps = c.unlink_gap.ensures.steps _ t.5 in omega arith
