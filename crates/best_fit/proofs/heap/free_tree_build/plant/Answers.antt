-- `insert` puts the node in, and the new root is stored.
use Rattle.best_fit.proofs.Common.{ap, ◌∙◌, ℕ, Bool}
use Rattle.best_fit.proofs.free_tree.Trees.{root_leads, search_tree}
use Rattle.best_fit.proofs.gaps.Setters.{target_whole}
use Rattle.best_fit.proofs.free_tree.Rebuild.{is_a_node, next_place, next_tree}
use Rattle.best_fit.proofs.free_tree.LinkAndUnlink.{node_inside, taken_rest}
use Rattle.best_fit.proofs.heap.free_tree_build.plant.Goals as goal

pub insert-changed-requires-clause-root : goal.insert-changed-requires-clause-root
insert-changed-requires-clause-root c =
    let r = c.requires in rw c.load-root.ensures (root_leads c.args.gaps.now.window r.0 r.3.tree)

pub insert-changed-requires-clause-node : goal.insert-changed-requires-clause-node
insert-changed-requires-clause-node c = let r = c.requires in
    is_a_node c.args.gaps.now.window r.0 r.1 c.args.node r.2 r.3

pub insert-changed-requires-clause-tree : goal.insert-changed-requires-clause-tree
insert-changed-requires-clause-tree c =
    let r = c.requires in let w = c.args.gaps.now.window in
    (r.3.tree.tree.tree, rw c.load-root.ensures (search_tree w r.0 r.3.tree), next_place w r.0 r.1 c.args.node r.2 r.3)

pub set_link-requires-clause-in_bounds : goal.set_link-requires-clause-in_bounds
set_link-requires-clause-in_bounds c =
    let r = c.requires in
    node_inside c.insert-changed.new.nodes.window c.args.node
    (ap (λ (p : ℕ → Bool). p c.args.node) c.insert-changed.ensures.keeper.nodes
    ∙ is_a_node c.args.gaps.now.window r.0 r.1 c.args.node r.2 r.3)

pub set_link-requires-clause-target : goal.set_link-requires-clause-target
set_link-requires-clause-target c = target_whole c.insert-changed.new.nodes.window c.insert-changed.result.root
    c.insert-changed.ensures.root

pub returns-clause-tree : goal.returns-clause-tree
returns-clause-tree c = λ xs g is n.
    let w = c.args.gaps.now.window in let d = c.insert-changed.new.nodes.window in let e = c.set_link.new.window in
    next_tree w xs g c.args.node is n d e c.insert-changed.result.root
    (λ t s. c.insert-changed.ensures.tree t (rw c.load-root.ensures s))
    c.insert-changed.ensures.keeper.nodes c.insert-changed.ensures.keeper.kept c.set_link.ensures.link_target
    c.set_link.ensures.len c.set_link.ensures.frame

pub returns-clause-frame : goal.returns-clause-frame
returns-clause-frame c =
    let r = c.requires in let w = c.args.gaps.now.window in let d = c.insert-changed.new.nodes.window in
    let e = c.set_link.new.window in
    taken_rest w d e c.args.node (ap (λ (p : ℕ → Bool). p c.args.node) c.insert-changed.ensures.keeper.nodes
    ∙ is_a_node w r.0 r.1 c.args.node r.2 r.3)
    c.insert-changed.ensures.keeper.kept c.set_link.ensures.place c.set_link.ensures.len c.set_link.ensures.frame
