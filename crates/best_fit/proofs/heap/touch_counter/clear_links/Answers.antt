-- The two links of a gap that is in no tree are outside all other nodes.
use Rattle.best_fit.proofs.Common.{arith}
use Rattle.best_fit.proofs.free_tree.LinkAndUnlink.{cleared_kept, cleared_node, cleared_tree, lacking_node}
use Rattle.best_fit.proofs.heap.touch_counter.clear_links.Goals as goal

pub set_link-requires-clause-aligned : goal.set_link-requires-clause-aligned
set_link-requires-clause-aligned c = let t = c.requires.gap in let d = lacking_node c.args.gaps.now.window t.0 t.1 t.2
    c.args.node t.3 t.4 in let whole = d.whole in omega arith

pub set_link-requires-clause-in_bounds : goal.set_link-requires-clause-in_bounds
set_link-requires-clause-in_bounds c = let t = c.requires.gap in let d = lacking_node c.args.gaps.now.window t.0 t.1 t.2
    c.args.node t.3 t.4 in let long = d.long in let ends = d.ends in omega arith

pub overflow_add-node : goal.overflow_add-node
overflow_add-node c = let t = c.requires.gap in let d = lacking_node c.args.gaps.now.window t.0 t.1 t.2 c.args.node
    t.3 t.4 in let long = d.long in let ends = d.ends in let size = d.size in omega arith

pub set_link-requires-2-clause-aligned : goal.set_link-requires-2-clause-aligned
set_link-requires-2-clause-aligned c = let t = c.requires.gap in let d = lacking_node c.args.gaps.now.window t.0 t.1
    t.2 c.args.node t.3 t.4 in let whole = d.whole in omega arith

pub set_link-requires-2-clause-in_bounds : goal.set_link-requires-2-clause-in_bounds
set_link-requires-2-clause-in_bounds c = let t = c.requires.gap in let d = lacking_node c.args.gaps.now.window t.0 t.1
    t.2 c.args.node t.3 t.4 in let long = d.long in let ends = d.ends in let len = c.set_link.ensures.len in omega arith

pub returns-clause-tree : goal.returns-clause-tree
returns-clause-tree c = λ xs g ys is l.
    cleared_tree c.args.gaps.now.window c.set_link.new.window c.set_link-2.new.window xs g ys c.args.node is l
    c.set_link.ensures.link_target c.set_link.ensures.len c.set_link.ensures.place c.set_link.ensures.frame
    c.set_link-2.ensures.link_target c.set_link-2.ensures.len c.set_link-2.ensures.place c.set_link-2.ensures.frame

pub returns-clause-node : goal.returns-clause-node
returns-clause-node c =
    let t = c.requires.gap in
    cleared_node c.args.gaps.now.window c.set_link.new.window c.set_link-2.new.window t.0 t.1 t.2 c.args.node t.3 t.4
    c.set_link.ensures.link_target c.set_link.ensures.len c.set_link.ensures.place c.set_link.ensures.frame
    c.set_link-2.ensures.link_target c.set_link-2.ensures.len c.set_link-2.ensures.place c.set_link-2.ensures.frame

pub returns-clause-unchanged : goal.returns-clause-unchanged
returns-clause-unchanged c =
    let t = c.requires.gap in
    cleared_kept c.args.gaps.now.window c.set_link.new.window c.set_link-2.new.window t.0 t.1 t.2 c.args.node t.3 t.4
    c.set_link.ensures.link_target c.set_link.ensures.len c.set_link.ensures.place c.set_link.ensures.frame
    c.set_link-2.ensures.link_target c.set_link-2.ensures.len c.set_link-2.ensures.place c.set_link-2.ensures.frame
