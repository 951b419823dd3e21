use Rattle.std.proofs.Common.{◌≡◌, ℕ, Bool, List, Option, Some, arith, subst, ◌∙◌}
use Rattle.std.specs.Prelude.{IfSome}
use Rattle.link_tree.specs.Tree.{Cell, Tree, IsSearchTree, nodes_of}
use Rattle.link_tree.specs.Nodes.{without}
use Rattle.link_tree.specs.Shrinking.{IsOrderedTree}
use Rattle.link_tree.specs.Ways.{remove_point_of}
use Rattle.link_tree.proofs.trees.Linked.{IsChanged, one_tree, root_in}
use Rattle.link_tree.proofs.inserting.ChangePoint.{Begins}
use Rattle.link_tree.proofs.removing.ExitPoint.{IsTurned, left, turned}
use Rattle.link_tree.proofs.trees.Heights.{height_bits}
use Rattle.link_tree.proofs.trees.NodeLaws.{low_tree, node_of, strict}
use Rattle.link_tree.proofs.removing.RootRemoval.{removed}
use Rattle.link_tree.proofs.removing.remove_from.Goals as goal
use Rattle.link_tree.proofs.removing.remove_from.Goals.{After-cut, After-paint}
use Rattle.link_tree.proofs.removing.remove_from.Given.{Over}

shrinks : (g : Over) (s : g.row.N.Denot) (link : Option ℕ) (t : Tree)
    → IsSearchTree (g.N.Nodes.order s) (g.N.Nodes.cells s) link t
    → IsOrderedTree (g.N.Nodes.order s) (g.N.Nodes.cells s) link t
shrinks g s link t k = record { tree = k.tree; ordered = k.ordered }

below_of : {lt : ℕ → ℕ → Bool} {h : ℕ → Cell} {xs : List ℕ} {change : Tree → Tree} {link : Option ℕ} {t : Tree}
    (b : Begins lt h xs change link t) → IsOrderedTree lt h link b.below
below_of b = record { tree = b.is_tree; ordered = b.ordered }

-- the removal begins at a node of each tree of the root
begins : (g : Over) (s : g.row.N.Denot) (root exit : Option ℕ) (x p : ℕ) (t u : Tree)
    → IsSearchTree (g.N.Nodes.order s) (g.N.Nodes.cells s) root t
    → IfSome exit (λ n. remove_point_of (g.N.Nodes.order s) x t ≡ Some n) → exit ≡ Some p
    → IsSearchTree (g.N.Nodes.order s) (g.N.Nodes.cells s) root u
    → IsTurned (g.N.Nodes.order s) (g.N.Nodes.cells s) x u p
begins g s root exit x p t u k way is m =
    let e = one_tree (g.N.Nodes.cells s) root t u k.tree m.tree in
    let at : remove_point_of (g.N.Nodes.order s) x t ≡ Some p = rw is at way in
    subst (λ v. IsTurned (g.N.Nodes.order s) (g.N.Nodes.cells s) x v p) e
    (turned (strict g.met.N.Nodes s) (g.N.Nodes.cells s) x t p k.tree.holds k.ordered at)

pub cut-requires-clause-link : goal.cut-requires-clause-link
cut-requires-clause-link g c =
    let t = c.requires.tree in
    let s = c.args.nodes.now in
    let b = begins g s c.args.root c.args.exit c.args.node _ t.0 t.0 t.1 t.3 c.in-Some.is t.1 in
    (node_of g.met.N.Nodes s t.1.tree c.requires.root c.in-Some.start
    (b.begins.inside c.in-Some.start (root_in (g.N.Nodes.cells s) c.in-Some.start b.begins.below b.begins.is_tree)))

pub cut-requires-clause-node : goal.cut-requires-clause-node
cut-requires-clause-node g c =
    let t = c.requires.tree in
    (node_of g.met.N.Nodes c.args.nodes.now t.1.tree c.requires.root c.args.node t.2)

pub cut-requires-clause-tree : goal.cut-requires-clause-tree
cut-requires-clause-tree g c =
    let t = c.requires.tree in
    let s = c.args.nodes.now in
    let low = low_tree g.met.N.Nodes s t.1 c.requires.root in
    let zero = c.requires.steps in
    let b = begins g s c.args.root c.args.exit c.args.node _ t.0 t.0 t.1 t.3 c.in-Some.is t.1 in
    let lower = b.begins.lower in
    (b.begins.below, (below_of b.begins), omega arith)

-- the result of a removal below a node of the tree
left_at : (g : Over) (c : After-cut g) (u : Tree)
    → IsSearchTree (g.N.Nodes.order c.args.nodes.now) (g.N.Nodes.cells c.args.nodes.now) c.args.root u
    → IsChanged (g.N.Nodes.order c.cut.new.nodes) (g.N.Nodes.cells c.args.nodes.now) (g.N.Nodes.cells c.cut.new.nodes)
    c.args.root (nodes_of u) (without c.args.node (nodes_of u))
left_at g c u k =
    let t = c.requires.tree in
    let s = c.args.nodes.now in
    let b = begins g s c.args.root c.args.exit c.args.node _ t.0 u t.1 t.3 c.in-Some.is k in
    rw c.cut.ensures.keeper.order (left (strict g.met.N.Nodes s) (g.N.Nodes.cells s) c.args.node
    (g.N.Nodes.cells c.cut.new.nodes) c.args.root c.cut.result.root c.cut.result.fell u c.in-Some.start k b
    (c.cut.ensures.rest b.begins.below (below_of b.begins)))

pub returns-in-Some-clause-tree : goal.returns-in-Some-clause-tree
returns-in-Some-clause-tree g c = λ u k. (left_at g (goal.at.returns-in-Some-clause-tree g c).After-cut u k).tree

pub returns-in-Some-clause-frame : goal.returns-in-Some-clause-frame
returns-in-Some-clause-frame g c = λ u k. (left_at g (goal.at.returns-in-Some-clause-frame g c).After-cut u k).frame

pub returns-in-Some-clause-steps : goal.returns-in-Some-clause-steps
returns-in-Some-clause-steps g c = λ u k.
    let t = c.requires.tree in
    let s = c.args.nodes.now in
    let b = begins g s c.args.root c.args.exit c.args.node _ t.0 u t.1 t.3 c.in-Some.is k in
    let steps = c.cut.ensures.steps in
    omega (
      arith,
      steps b.begins.below (below_of b.begins),
      b.begins.lower,
      c.requires.steps,
      height_bits u k.red_black,
    )

pub cut-rest-requires-clause-node : goal.cut-rest-requires-clause-node
cut-rest-requires-clause-node g c =
    let t = c.requires.tree in
    (node_of g.met.N.Nodes c.args.nodes.now t.1.tree c.requires.root c.args.node t.2)

pub cut-rest-requires-clause-tree : goal.cut-rest-requires-clause-tree
cut-rest-requires-clause-tree g c =
    let t = c.requires.tree in
    let s = c.args.nodes.now in
    let low = low_tree g.met.N.Nodes s t.1 c.requires.root in
    let zero = c.requires.steps in
    (t.0, (shrinks g s c.args.root t.0 t.1), omega arith)

pub paint-requires-clause-no_overflow : goal.paint-requires-clause-no_overflow
paint-requires-clause-no_overflow g c =
    let t = c.requires.tree in
    let s = c.args.nodes.now in
    let low = low_tree g.met.N.Nodes s t.1 c.requires.root in
    let zero = c.requires.steps in
    let steps = c.cut-rest.ensures.steps in
    omega (arith, steps t.0 (shrinks g s c.args.root t.0 t.1))

-- the result of a removal from the root
removed_at : (g : Over) (c : After-paint g) (u : Tree)
    → IsSearchTree (g.N.Nodes.order c.args.nodes.now) (g.N.Nodes.cells c.args.nodes.now) c.args.root u
    → IsChanged (g.N.Nodes.order c.paint.new.nodes) (g.N.Nodes.cells c.args.nodes.now)
    (g.N.Nodes.cells c.paint.new.nodes) c.cut-rest.result.root (nodes_of u) (without c.args.node (nodes_of u))
removed_at g c u k =
    let s = c.args.nodes.now in
    let eo = c.cut-rest.ensures.keeper.order in
    let black = rw eo at c.paint.ensures.colour in
    rw (c.paint.ensures.keeper.order ∙ eo) (removed (strict g.met.N.Nodes s) (g.N.Nodes.cells s)
    (g.N.Nodes.cells c.cut-rest.new.nodes) (g.N.Nodes.cells c.paint.new.nodes) c.args.root c.cut-rest.result.root
    c.cut-rest.result.fell c.args.node u k (c.cut-rest.ensures.rest u (shrinks g s c.args.root u k)) black)

pub returns-clause-tree : goal.returns-clause-tree
returns-clause-tree g c = λ u k. (removed_at g (goal.at.returns-clause-tree g c).After-paint u k).tree

pub returns-clause-frame : goal.returns-clause-frame
returns-clause-frame g c = λ u k. (removed_at g (goal.at.returns-clause-frame g c).After-paint u k).frame

pub returns-clause-steps : goal.returns-clause-steps
returns-clause-steps g c = λ u k.
    let s = c.args.nodes.now in
    let steps = c.cut-rest.ensures.steps in
    omega (arith, steps u (shrinks g s c.args.root u k), height_bits u k.red_black)
