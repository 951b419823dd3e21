-- The links are made null, `insert` puts the node in, and the new root is stored.
use Rattle.best_fit.proofs.Common.{ap, ◌∙◌, ℕ, Bool, ◌++◌, arith, IsSearchTree, comes_before, gap_cells, gaps_in}
use Rattle.best_fit.proofs.Common.{HasGapTree}
use Rattle.best_fit.proofs.free_tree.Trees.{root_leads, search_tree, tree_size}
use Rattle.best_fit.proofs.gaps.Setters.{target_whole}
use Rattle.best_fit.proofs.free_tree.LinkAndUnlink.{few_bits, node_inside, put_place, put_tree, taken_rest}
use Rattle.best_fit.proofs.heap.touch_counter.TouchCounter.link_gap.Goals as goal

pub insert-changed-requires-clause-root : goal.insert-changed-requires-clause-root
insert-changed-requires-clause-root c =
    let t = c.requires.tree in let b = c.clear_links.new.gaps.window in
    let h : HasGapTree b (t.0 ++ t.2) = c.clear_links.ensures.tree t.0 t.1 t.2 t.3 t.4 in
    rw c.load-root.ensures (root_leads b (t.0 ++ t.2) h)

pub insert-changed-requires-clause-tree : goal.insert-changed-requires-clause-tree
insert-changed-requires-clause-tree c =
    let t = c.requires.tree in let w = c.args.self.now.gaps.now.window in let b = c.clear_links.new.gaps.window in
    let h : HasGapTree b (t.0 ++ t.2) = c.clear_links.ensures.tree t.0 t.1 t.2 t.3 t.4 in (
      h.tree.tree,
      rw c.load-root.ensures (search_tree b (t.0 ++ t.2) h),
      put_place w b b b t.0 t.1 t.2 c.args.node t.3
          t.4 h c.clear_links.ensures.unchanged,
    )

pub overflow_add-self-2 : goal.overflow_add-self-2
overflow_add-self-2 c =
    let t = c.requires.tree in let b = c.clear_links.new.gaps.window in let hs = t.0 ++ t.2 in
    let h : HasGapTree b (t.0 ++ t.2) = c.clear_links.ensures.tree t.0 t.1 t.2 t.3 t.4 in
    let s : IsSearchTree (comes_before (gaps_in b)) (gap_cells b) c.load-root.result h.tree.tree =
    rw c.load-root.ensures (search_tree b hs h) in
    let steps = rw (tree_size b hs h) at (c.insert-changed.ensures.steps h.tree.tree s) in
    let few = few_bits b hs h in let room = c.requires.no_overflow in
    omega arith

pub set_link-requires-clause-in_bounds : goal.set_link-requires-clause-in_bounds
set_link-requires-clause-in_bounds c =
    node_inside c.insert-changed.new.nodes.window c.args.node
    (ap (λ (p : ℕ → Bool). p c.args.node) c.insert-changed.ensures.keeper.nodes ∙ c.clear_links.ensures.node)

pub set_link-requires-clause-target : goal.set_link-requires-clause-target
set_link-requires-clause-target c = target_whole c.insert-changed.new.nodes.window c.insert-changed.result.root
    c.insert-changed.ensures.root

pub returns-clause-tree : goal.returns-clause-tree
returns-clause-tree c = λ xs g ys is l.
    let w = c.args.self.now.gaps.now.window in let b = c.clear_links.new.gaps.window in
    let d = c.insert-changed.new.nodes.window in let e = c.set_link.new.window in
    put_tree w b d e xs g ys c.args.node is l (c.clear_links.ensures.tree xs g ys is l) c.clear_links.ensures.unchanged
    c.insert-changed.result.root
    (λ t s. c.insert-changed.ensures.tree t (rw c.load-root.ensures s))
    c.clear_links.ensures.node c.insert-changed.ensures.keeper.nodes c.insert-changed.ensures.keeper.kept
    c.set_link.ensures.link_target c.set_link.ensures.len c.set_link.ensures.frame

pub returns-clause-frame : goal.returns-clause-frame
returns-clause-frame c =
    let w = c.args.self.now.gaps.now.window in let d = c.insert-changed.new.nodes.window in
    let e = c.set_link.new.window in
    taken_rest w d e c.args.node (ap (λ (p : ℕ → Bool). p c.args.node) c.insert-changed.ensures.keeper.nodes
    ∙ c.clear_links.ensures.node)
    (c.insert-changed.ensures.keeper.kept ∙ c.clear_links.ensures.unchanged) c.set_link.ensures.place
    c.set_link.ensures.len c.set_link.ensures.frame

pub returns-clause-steps : goal.returns-clause-steps
returns-clause-steps c = λ xs g ys is l.
    let b = c.clear_links.new.gaps.window in
    let h : HasGapTree b (xs ++ ys) = c.clear_links.ensures.tree xs g ys is l in
    let s : IsSearchTree (comes_before (gaps_in b)) (gap_cells b) c.load-root.result h.tree.tree =
    rw c.load-root.ensures (search_tree b (xs ++ ys) h) in
    let steps = rw (tree_size b (xs ++ ys) h) at (c.insert-changed.ensures.steps h.tree.tree s) in
    omega arith
