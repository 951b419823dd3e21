-- The tree of the gaps is a search tree.
use Rattle.best_fit.proofs.Common.{ap, ◌∙◌, arith, IsSearchTree, first_not_before, comes_before, gap_cells, gaps_in}
use Rattle.best_fit.proofs.Common.{stands_before}
use Rattle.best_fit.proofs.free_tree.ExitPoint.{may_begin}
use Rattle.best_fit.proofs.free_tree.Trees.{root_leads, search_tree, tree_size}
use Rattle.best_fit.proofs.heap.touch_counter.way_to.Goals as goal

pub find_remove_point-requires-clause-root : goal.find_remove_point-requires-clause-root
find_remove_point-requires-clause-root c = let w = c.args.gaps.now.window in
    rw c.requires.root (root_leads w c.requires.tree.0 c.requires.tree.1)

pub find_remove_point-requires-clause-tree : goal.find_remove_point-requires-clause-tree
find_remove_point-requires-clause-tree c =
    let w = c.args.gaps.now.window in let h = c.requires.tree.1 in
    (h.tree.tree, rw c.requires.root (search_tree w c.requires.tree.0 h))

pub returns-clause-first : goal.returns-clause-first
returns-clause-first c = λ hs h.
    let w = c.args.gaps.now.window in
    let s : IsSearchTree (comes_before (gaps_in w)) (gap_cells w) c.args.root h.tree.tree =
    rw c.requires.root (search_tree w hs h) in
    c.find_remove_point.ensures.first h.tree.tree s
    ∙ ap (first_not_before (stands_before (gaps_in w) c.args.sought.now)) h.tree.lists

pub returns-clause-exit : goal.returns-clause-exit
returns-clause-exit c =
    let way = c.find_remove_point in
    may_begin c.args.gaps.now.window way.result.node way.result.exit
    (λ t k. way.ensures.exit t (rw c.requires.root k))

pub returns-clause-steps : goal.returns-clause-steps
returns-clause-steps c = λ hs h.
    let w = c.args.gaps.now.window in
    let s : IsSearchTree (comes_before (gaps_in w)) (gap_cells w) c.args.root h.tree.tree =
    rw c.requires.root (search_tree w hs h) in
    let steps = rw (tree_size w hs h) at (c.find_remove_point.ensures.steps h.tree.tree s) in
    omega arith

pub returns-clause-steps_exact : goal.returns-clause-steps_exact
returns-clause-steps_exact c = λ hs h.
    let w = c.args.gaps.now.window in
    let s : IsSearchTree (comes_before (gaps_in w)) (gap_cells w) c.args.root h.tree.tree =
    rw c.requires.root (search_tree w hs h) in
    c.find_remove_point.ensures.steps_exact h.tree.tree s
