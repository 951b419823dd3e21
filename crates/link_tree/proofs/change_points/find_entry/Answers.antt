-- The root has one tree, so the conditions of the call hold for each tree of the root.
use Rattle.std.proofs.Common.{◌≡◌, ℕ, Bool, Option, Some, None, false, arith, subst, sym, ◌∙◌}
use Rattle.link_tree.specs.Tree.{Cell, Tree, IsSearchTree}
use Rattle.link_tree.specs.Ways.{EndsPath, insert_point_of}
use Rattle.link_tree.proofs.searching.PathEnd.{path_low}
use Rattle.link_tree.proofs.trees.Heights.{height_bits}
use Rattle.link_tree.proofs.trees.Linked.{one_tree}
use Rattle.link_tree.proofs.trees.NodeLaws.{low_tree}
use Rattle.link_tree.proofs.change_points.find_entry.Goals as goal
use Rattle.link_tree.proofs.change_points.find_entry.Given.{Over}

-- the end of the path in each tree of the root
ends : (g : Over) (s : g.row.N.Denot) (before : ℕ → Bool) (root last : Option ℕ)
    → ((t : Tree) × IsSearchTree (g.N.Nodes.order s) (g.N.Nodes.cells s) root t
    × EndsPath (g.N.Nodes.is_node s) (g.N.Nodes.cells s) before t last) → (t : Tree)
    → IsSearchTree (g.N.Nodes.order s) (g.N.Nodes.cells s) root t
    → EndsPath (g.N.Nodes.is_node s) (g.N.Nodes.cells s) before t last
ends g s before root last asked t k =
    subst (λ v. EndsPath (g.N.Nodes.is_node s) (g.N.Nodes.cells s) before v last)
    (one_tree (g.N.Nodes.cells s) root asked.0 t asked.1.tree k.tree) asked.2

-- an insertion into an empty tree begins at the root
none_there : (good : ℕ → Bool) (cells : ℕ → Cell) (before : ℕ → Bool) (t : Tree) (last : Option ℕ) → last ≡ None
    → EndsPath good cells before t last → None ≡ insert_point_of before t
none_there good cells before t None e is = sym is
none_there good cells before t (Some n) e is = absurd (cc)

pub returns-in_default-clause-entry : goal.returns-in_default-clause-entry
returns-in_default-clause-entry g c = λ t k.
    let s = c.args.nodes.now in
    none_there _ _ _ t c.args.last c.in_default.is
    (ends g s (g.N.Nodes.before s c.args.probe.now) c.args.root c.args.last c.requires.tree t k)

pub returns-then-not-red-clause-entry : goal.returns-then-not-red-clause-entry
returns-then-not-red-clause-entry g c = λ t k.
    let s = c.args.nodes.now in
    let e = ends g s (g.N.Nodes.before s c.args.probe.now) c.args.root (Some c.in-Some.node)
    (rw c.in-Some.is at c.requires.tree) t k in
    let red = rw c.count_steps-counted.ensures.nodes at c.red.ensures.value in
    let black : (g.N.Nodes.cells s c.in-Some.node).red ≡ false = sym red ∙ c.if-not-red.true in
    sym (e.black black)

pub returns-then-not-red-clause-steps : goal.returns-then-not-red-clause-steps
returns-then-not-red-clause-steps g c = λ t k.
    omega (arith, c.red.ensures.steps_upper, c.count_steps-counted.ensures.steps, height_bits t k.red_black)

pub overflow_add-result : goal.overflow_add-result
overflow_add-result g c =
    let s = c.args.nodes.now in
    let t = c.requires.tree in
    let low = low_tree g.met.N.Nodes s t.1 c.requires.root in
    let path = path_low (g.N.Nodes.before s c.args.probe.now) t.0 in
    let exact = c.find_insert_point-way.ensures.steps_exact t.0 t.1 in
    omega (arith, c.red.ensures.steps_upper, c.count_steps-counted.ensures.steps)

pub returns-clause-steps : goal.returns-clause-steps
returns-clause-steps g c = λ t k.
    let s = c.args.nodes.now in
    let path = path_low (g.N.Nodes.before s c.args.probe.now) t in
    let exact = c.find_insert_point-way.ensures.steps_exact t k in
    omega (arith, c.red.ensures.steps_upper, c.count_steps-counted.ensures.steps, height_bits t k.red_black)
