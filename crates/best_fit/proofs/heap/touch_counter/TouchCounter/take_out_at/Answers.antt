-- `remove_at` takes the node out, and the new root is stored.
use Rattle.best_fit.proofs.Common.{ap, ◌∙◌, ℕ, Bool, arith, IsSearchTree, comes_before, gap_cells, gaps_in}
use Rattle.best_fit.proofs.free_tree.Trees.{root_leads, search_tree, tree_size}
use Rattle.best_fit.proofs.gaps.Setters.{target_whole}
use Rattle.best_fit.proofs.free_tree.LinkAndUnlink.{few_bits, in_tree_of, node_inside, node_of_tree, taken_rest}
use Rattle.best_fit.proofs.free_tree.LinkAndUnlink.{taken_tree}
use Rattle.best_fit.proofs.heap.touch_counter.TouchCounter.take_out_at.Goals as goal

pub remove_at-changed-requires-clause-root : goal.remove_at-changed-requires-clause-root
remove_at-changed-requires-clause-root c = let w = c.args.self.now.gaps.now.window in
    rw c.requires.root (root_leads w c.requires.tree.0 c.requires.tree.1)

pub remove_at-changed-requires-clause-tree : goal.remove_at-changed-requires-clause-tree
remove_at-changed-requires-clause-tree c =
    let w = c.args.self.now.gaps.now.window in let hs = c.requires.tree.0 in let h = c.requires.tree.1 in (
      h.tree.tree,
      rw c.requires.root (search_tree w hs h),
      in_tree_of w hs c.args.node h c.requires.tree.2,
      c.requires.exit.begins hs h,
    )

pub overflow_add-self : goal.overflow_add-self
overflow_add-self c =
    let w = c.args.self.now.gaps.now.window in let hs = c.requires.tree.0 in let h = c.requires.tree.1 in
    let s : IsSearchTree (comes_before (gaps_in w)) (gap_cells w) c.args.root h.tree.tree =
    rw c.requires.root (search_tree w hs h) in
    let steps = rw (tree_size w hs h) at (c.remove_at-changed.ensures.steps h.tree.tree s) in
    let few = few_bits w hs h in let room = c.requires.no_overflow in
    omega arith

pub set_link-requires-clause-in_bounds : goal.set_link-requires-clause-in_bounds
set_link-requires-clause-in_bounds c =
    let w = c.args.self.now.gaps.now.window in let d = c.remove_at-changed.new.nodes.window in
    node_inside d c.args.node (ap (λ (p : ℕ → Bool). p c.args.node) c.remove_at-changed.ensures.keeper.nodes
    ∙ node_of_tree w c.requires.tree.0 c.args.node c.requires.tree.1 c.requires.tree.2)

pub set_link-requires-clause-target : goal.set_link-requires-clause-target
set_link-requires-clause-target c = target_whole c.remove_at-changed.new.nodes.window c.remove_at-changed.result.root
    c.remove_at-changed.ensures.root

pub returns-clause-tree : goal.returns-clause-tree
returns-clause-tree c = λ xs g ys is h.
    let w = c.args.self.now.gaps.now.window in let d = c.remove_at-changed.new.nodes.window in
    let e = c.set_link.new.window in
    taken_tree w d e xs g ys c.args.node is h c.remove_at-changed.result.root
    (λ t s. c.remove_at-changed.ensures.tree t (rw c.requires.root s))
    c.remove_at-changed.ensures.keeper.nodes c.remove_at-changed.ensures.keeper.kept c.set_link.ensures.link_target
    c.set_link.ensures.len c.set_link.ensures.frame

pub returns-clause-frame : goal.returns-clause-frame
returns-clause-frame c =
    let w = c.args.self.now.gaps.now.window in let d = c.remove_at-changed.new.nodes.window in
    let e = c.set_link.new.window in
    taken_rest w d e c.args.node (ap (λ (p : ℕ → Bool). p c.args.node) c.remove_at-changed.ensures.keeper.nodes
    ∙ node_of_tree w c.requires.tree.0 c.args.node c.requires.tree.1 c.requires.tree.2)
    c.remove_at-changed.ensures.keeper.kept c.set_link.ensures.place c.set_link.ensures.len c.set_link.ensures.frame

pub returns-clause-steps : goal.returns-clause-steps
returns-clause-steps c = λ hs h.
    let w = c.args.self.now.gaps.now.window in
    let s : IsSearchTree (comes_before (gaps_in w)) (gap_cells w) c.args.root h.tree.tree =
    rw c.requires.root (search_tree w hs h) in
    let steps = rw (tree_size w hs h) at (c.remove_at-changed.ensures.steps h.tree.tree s) in
    omega arith
