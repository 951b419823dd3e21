-- The walk visits each gap once.
use Rattle.best_fit.proofs.Common.{◌≡◌, refl, sym, ◌∙◌, arith, zero-add, nodes_of, free_bytes, live_of, gaps_in}
use Rattle.best_fit.proofs.Common.{is_gap_node, len_in}
use Rattle.std.proofs.Common.{rules}
use Rattle.best_fit.proofs.allocation.LeastGap.{heap_tree}
use Rattle.best_fit.proofs.free_tree.Trees.{root_leads, search_tree, tree_nodes}
use Rattle.best_fit.proofs.gaps.Sums.{adds_up, tree_summed}
use Rattle.best_fit.proofs.heap.summing.free_bytes.Goals as goal

pub walk-requires-clause-root : goal.walk-requires-clause-root
walk-requires-clause-root c = let w = c.args.gaps.now.window in
    rw c.load-root.ensures (root_leads w (gaps_in w) (heap_tree w c.requires))

pub walk-requires-clause-tree : goal.walk-requires-clause-tree
walk-requires-clause-tree c =
    let w = c.args.gaps.now.window in let h = heap_tree w c.requires in
    (h.tree.tree, rw c.load-root.ensures (search_tree w (gaps_in w) h))

pub returns : goal.returns
returns c =
    let w = c.args.gaps.now.window in let h = heap_tree w c.requires in
    let summed = tree_summed w c.requires h in
    let walked = c.walk.ensures.walk h.tree.tree (rw c.load-root.ensures (search_tree w (gaps_in w) h)) in
    let few = summed.few in
    let added = adds_up _ (λ p. p.1.now.window ≡ w) (λ p. p.0.ghost_name) (λ p. p.0.now)
    (len_in (gaps_in w)) (is_gap_node w)
    (λ p x q sees good room step. search rules) (nodes_of h.tree.tree) _ _ (tree_nodes w (gaps_in w) h)
    refl (omega arith) walked in
    let name = sym added.0 in let all : _ ≡ free_bytes (live_of w.bytes) = added.1 ∙ zero-add _
    ∙ summed.all in search rules
