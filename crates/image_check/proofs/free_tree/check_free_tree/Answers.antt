-- The tree that the check finds over places is that of the free tiles.
use Rattle.image_check.proofs.Common.{HasTiles, IsLinkClosed, IsSearchTree, List, Option, Spends, WindowState, ap}
use Rattle.image_check.proofs.Common.{both_ways, bytes_of, is_bad, is_in, is_target, is_some, leads, length, link_at}
use Rattle.image_check.proofs.Common.{nodes_of, planting_rates, refl, some_same, stands_before, subst, sym, tree_rates}
use Rattle.image_check.proofs.Common.{true, ℕ, ◌*◌, ◌+◌, ◌∙◌, ◌≡◌, ◌≤◌}
use Rattle.image_check.specs.FreeNodes.{target_cells}
use Rattle.image_check.proofs.budget.Visits.{check-short, tree-planted, tree-steps}
use Rattle.image_check.proofs.walks.Counts.{not-given}
use Rattle.image_check.proofs.free_tree.NodeCount.{nodes-few}
use Rattle.image_check.proofs.free_tree.Places.{good-leads}
use Rattle.image_check.proofs.free_tree.Meaning.{planted, tagged, tree-false, tree-true, unplanted}
use Rattle.image_check.proofs.free_tree.check_free_tree.Goals as goal

pub returns-in_default-clause-value : goal.returns-in_default-clause-value
returns-in_default-clause-value c =
    let w = c.args.window.now in
    sym (tree-false w (λ t.
    both_ways (is_bad (length w.bytes) (link_at (bytes_of w.bytes) 24))
    (planted w (tagged w c.requires.size c.requires.tags) t).root (sym c.in_default.ensures.on_error)))

pub check_targets-tree-requires : goal.check_targets-tree-requires
check_targets-tree-requires c =
    let w = c.args.window.now in
    good-leads w c.in-Ok.root c.requires.size (ap (is_bad (length w.bytes)) c.in-Ok.ensures.on_ok
    ∙ sym c.in-Ok.ensures.on_error)

pub returns-in_default-nodes-clause-value : goal.returns-in_default-nodes-clause-value
returns-in_default-nodes-clause-value c =
    let w = c.args.window.now in
    let m = bytes_of w.bytes in
    sym (tree-false w (λ t.
    let p = planted w (tagged w c.requires.size c.requires.tags) t in
    let s = subst (λ (o : Option ℕ).
    IsSearchTree (stands_before m) (target_cells w) o p.tree) (sym c.in-Ok.ensures.on_ok)
    p.search in
    c.in_default-nodes.not-Some (length (nodes_of p.tree))
    ((c.check_targets-tree.ensures.count (length (nodes_of p.tree))).1 (p.tree, s, refl))))

pub count_planted-requires-clause-root : goal.count_planted-requires-clause-root
count_planted-requires-clause-root c =
    let w = c.args.window.now in
    good-leads w c.in-Ok.root c.requires.size (ap (is_bad (length w.bytes)) c.in-Ok.ensures.on_ok
    ∙ sym c.in-Ok.ensures.on_error)

pub count_planted-requires-clause-tree : goal.count_planted-requires-clause-tree
count_planted-requires-clause-tree c =
    let w = c.args.window.now in
    let good = good-leads w c.in-Ok.root c.requires.size (ap (is_bad (length w.bytes)) c.in-Ok.ensures.on_ok
    ∙ sym c.in-Ok.ensures.on_error) in
    let x = (c.check_targets-tree.ensures.count c.in-Some.nodes).0 c.in-Some.is in
    (x.0, x.1, nodes-few w c.in-Ok.root x.0 c.requires.size good x.1)

-- not all free tiles are planted
pub returns-in_default-count_planted-clause-value : goal.returns-in_default-count_planted-clause-value
returns-in_default-count_planted-clause-value c =
    let w = c.args.window.now in
    let m = bytes_of w.bytes in
    sym (tree-false w (λ t.
    let p = planted w (tagged w c.requires.size c.requires.tags) t in
    let s = subst (λ (o : Option ℕ).
    IsSearchTree (stands_before m) (target_cells w) o p.tree) (sym c.in-Ok.ensures.on_ok)
    p.search in
    both_ways (is_some c.count_planted.result) (not-given c.count_planted.result c.in_default-count_planted.not-Some)
    (c.count_planted.ensures.value p.tree s ∙ p.all)))

-- they are fewer than the nodes
pub returns-then-counts-nodes-clause-value : goal.returns-then-counts-nodes-clause-value
returns-then-counts-nodes-clause-value c =
    let w = c.args.window.now in
    let m = bytes_of w.bytes in
    sym (tree-false w (λ t.
    let p = planted w (tagged w c.requires.size c.requires.tags) t in
    let s = subst (λ (o : Option ℕ).
    IsSearchTree (stands_before m) (target_cells w) o p.tree) (sym c.in-Ok.ensures.on_ok)
    p.search in
    let n = some_same c.in-Some.nodes (length (nodes_of p.tree)) (sym c.in-Some.is
    ∙ (c.check_targets-tree.ensures.count (length (nodes_of p.tree))).1 (p.tree, s, refl)) in
    c.if-counts-nodes.true (c.in-Some-count_planted.ensures.steps_lower.free ∙ sym p.few ∙ sym n)))

-- they are the nodes
pub returns-clause-value : goal.returns-clause-value
returns-clause-value c =
    let w = c.args.window.now in
    let m = bytes_of w.bytes in
    let g = tagged w c.requires.size c.requires.tags in
    let x = (c.check_targets-tree.ensures.count c.in-Some.nodes).0 c.in-Some.is in
    sym (tree-true w
    (unplanted w x.0 g (subst (λ (o : Option ℕ). IsSearchTree (stands_before m) (target_cells w) o x.0)
    c.in-Ok.ensures.on_ok x.1)
    (x.2 ∙ sym c.if-counts-nodes.false ∙ c.in-Some-count_planted.ensures.steps_lower.free)
    (sym (c.count_planted.ensures.value x.0 x.1) ∙ ap is_some c.in-Some-count_planted.is)))

pub returns-in_default-nodes-clause-visits : goal.returns-in_default-nodes-clause-visits
returns-in_default-nodes-clause-visits c =
    let w = c.args.window.now in
    let good = good-leads w c.in-Ok.root c.requires.size (ap (is_bad (length w.bytes)) c.in-Ok.ensures.on_ok
    ∙ sym c.in-Ok.ensures.on_error) in
    let steps = check-short w c.in-Ok.root _ c.check_targets-tree.result.steps c.check_targets-tree.new.visits
    (record { size = c.requires.size; tags = c.requires.tags }) good c.check_targets-tree.ensures.steps
    c.check_targets-tree.ensures.visits in
    tree-steps w _ c.check_targets-tree.new.visits steps

-- the search for the free tiles is counted too
planted-spends : (w : WindowState) (root : Option ℕ) (old steps stepped new : ℕ) → HasTiles w.bytes
    → leads (is_target w) root ≡ true
    → ((ns : List ℕ) → IsLinkClosed (target_cells w) ns → leads (λ n. is_in n ns) root ≡ true
    → steps ≤ 5 * length ns + 5)
    → stepped ≡ old + steps
    → Spends planting_rates 0 w.bytes stepped new → Spends tree_rates 50 w.bytes old new
planted-spends w root old steps stepped new h good most e x = tree-planted w old stepped new
    (check-short w root old steps stepped h good most e) x

pub returns-in_default-count_planted-clause-visits : goal.returns-in_default-count_planted-clause-visits
returns-in_default-count_planted-clause-visits c =
    let w = c.args.window.now in
    let good = good-leads w c.in-Ok.root c.requires.size (ap (is_bad (length w.bytes)) c.in-Ok.ensures.on_ok
    ∙ sym c.in-Ok.ensures.on_error) in
    planted-spends w c.in-Ok.root _ c.check_targets-tree.result.steps c.check_targets-tree.new.visits _
    (record { size = c.requires.size; tags = c.requires.tags }) good c.check_targets-tree.ensures.steps
    c.check_targets-tree.ensures.visits c.count_planted.ensures.visits

pub returns-then-counts-nodes-clause-visits : goal.returns-then-counts-nodes-clause-visits
returns-then-counts-nodes-clause-visits c =
    let w = c.args.window.now in
    let good = good-leads w c.in-Ok.root c.requires.size (ap (is_bad (length w.bytes)) c.in-Ok.ensures.on_ok
    ∙ sym c.in-Ok.ensures.on_error) in
    planted-spends w c.in-Ok.root _ c.check_targets-tree.result.steps c.check_targets-tree.new.visits _
    (record { size = c.requires.size; tags = c.requires.tags }) good c.check_targets-tree.ensures.steps
    c.check_targets-tree.ensures.visits c.count_planted.ensures.visits

pub returns-clause-visits : goal.returns-clause-visits
returns-clause-visits c =
    let w = c.args.window.now in
    let good = good-leads w c.in-Ok.root c.requires.size (ap (is_bad (length w.bytes)) c.in-Ok.ensures.on_ok
    ∙ sym c.in-Ok.ensures.on_error) in
    planted-spends w c.in-Ok.root _ c.check_targets-tree.result.steps c.check_targets-tree.new.visits _
    (record { size = c.requires.size; tags = c.requires.tags }) good c.check_targets-tree.ensures.steps
    c.check_targets-tree.ensures.visits c.count_planted.ensures.visits
