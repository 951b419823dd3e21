-- The point at which the removal of a gap from the tree begins, by a search for it.
use Rattle.best_fit.proofs.Common.{◌≡◌, sym, ap, ◌∙◌, ℕ, true, List, Option, Some, None, IfSome, WindowState, bytes_of}
use Rattle.best_fit.proofs.Common.{Tree, IsSearchTree, nodes_of, first_not_before, is_in, link_at, Gap, payloads}
use Rattle.best_fit.proofs.Common.{sorted_gaps, comes_before, gap_cells, gaps_in, own_probe, stands_before, HasGapTree}
use Rattle.best_fit.proofs.Common.{CanBeginRemoval}
use Rattle.link_tree.specs.Ways.{remove_point_of}
use Rattle.link_tree.proofs.Laws.{first_itself}
use Rattle.best_fit.specs.GapLaws.{comes_irreflexive}
use Rattle.best_fit.specs.declared.heap.nodes.GapProbe.{GapProbe}
use Rattle.best_fit.proofs.free_tree.Trees.{search_tree}
use Rattle.best_fit.proofs.free_tree.LinkAndUnlink.{in_tree_of}

at_exit : (exit o : Option ℕ) → exit ≡ o → IfSome exit (λ n. o ≡ Some n)
at_exit None o e = tt
at_exit (Some n) o e = sym e

-- a property of each search tree of the gaps holds for the tree of a heap
pub may_begin : (c : WindowState) (found exit : Option ℕ)
    → ((t : Tree) → IsSearchTree (comes_before (gaps_in c)) (gap_cells c) (link_at (bytes_of c.bytes) 24) t
    → IfSome found (λ n. exit ≡ remove_point_of (comes_before (gaps_in c)) n t))
    → IfSome found (λ n. CanBeginRemoval c n exit)
may_begin c None exit says = tt
may_begin c (Some n) exit says = record {
  begins = λ hs h. at_exit exit (remove_point_of (comes_before (gaps_in c)) n h.tree.tree)
      (says h.tree.tree (search_tree c hs h));
}

-- a search for a gap of the tree finds this gap
pub found_itself : (c : WindowState) (hs : List Gap) (h : HasGapTree c hs) (node : ℕ) (sought : GapProbe)
    → is_in node (payloads hs) ≡ true → sought ≡ own_probe (gaps_in c) node
    → first_not_before (stands_before (gaps_in c) sought) (payloads (sorted_gaps hs)) ≡ Some node
found_itself c hs h node sought i e =
    ap (λ (p : GapProbe). first_not_before (stands_before (gaps_in c) p) (payloads (sorted_gaps hs))) e
    ∙ ap (first_not_before (stands_before (gaps_in c) (own_probe (gaps_in c) node))) (sym h.tree.lists)
    ∙ first_itself (comes_before (gaps_in c)) (comes_irreflexive (gaps_in c)) (nodes_of h.tree.tree) node
    (search_tree c hs h).ordered (in_tree_of c hs node h i)
