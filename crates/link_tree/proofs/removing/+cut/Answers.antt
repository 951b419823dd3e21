use Rattle.std.proofs.Common.{ℕ, ◌+◌, ◌*◌, ◌<◌, ◌^◌, Some, refl, arith, rules}
use Rattle.link_tree.specs.Tree.{Tree, height}
use Rattle.link_tree.specs.Sides.{side_of}
use Rattle.link_tree.specs.Shrinking.{IsOrderedTree}
use Rattle.link_tree.proofs.trees.NodeLaws.{strict}
use Rattle.link_tree.proofs.removing.RootRemoval.{cut_step}
use Rattle.link_tree.proofs.removing.LeastRemoval.{shrinks_below, ShrinksBelow}
use Rattle.link_tree.proofs.removing.+cut.Goals as goal
use Rattle.link_tree.proofs.removing.+cut.Given.{Over}

-- the tree below, on the side that the node goes to
below : (g : Over) (s : g.row.N.Denot) (x at : ℕ) (t : Tree)
    → IsOrderedTree (g.N.Nodes.order s) (g.N.Nodes.cells s) (Some at) t
    → ShrinksBelow (strict g.met.N.Nodes s) (g.N.Nodes.cells s) (side_of (g.N.Nodes.order s x at)) at t
below g s x at t w =
    shrinks_below (strict g.met.N.Nodes s) (side_of (g.N.Nodes.order s x at)) (g.N.Nodes.cells s) at t w

pub cut-below-requires : goal.cut-below-requires
cut-below-requires g t c =
    let s = c.args.nodes.now in
    let way = c.toward-way in
    let b = below g s c.args.node _ c.requires.tree.0 (rw c.in-Some.is at c.requires.tree.1) in
    let tree : (u : Tree) × IsOrderedTree (g.N.Nodes.order s) (g.N.Nodes.cells s) way.result.link u
    × (way.new.self.steps + 15 * height u + 60 < 2 ^ 64) = (b.tree, rw way.ensures.link b.shrinks, omega arith) in
    λ κs lives. (omega (arith, c.decreases), (search rules, (search rules, (search rules, (search rules, tree)))))

pub settle-requires-clause-no_overflow : goal.settle-requires-clause-no_overflow
settle-requires-clause-no_overflow g t c =
    let b = below g _ c.args.node _ c.requires.tree.0 (rw c.in-Some.is at c.requires.tree.1) in
    let steps = rw c.toward-way.ensures.link at c.cut-below.ensures.steps in
    omega (arith, steps b.tree b.shrinks)

pub returns-clause-steps : goal.returns-clause-steps
returns-clause-steps g t c = λ u w.
    let b = below g _ c.args.node _ u (rw c.in-Some.is at w) in
    let steps = rw c.toward-way.ensures.link at c.cut-below.ensures.steps in
    omega (arith, steps b.tree b.shrinks)

pub returns-clause-rest : goal.returns-clause-rest
returns-clause-rest g t c = λ u w.
    let s = c.args.nodes.now in
    let n = c.in-Some.at in
    let x = c.args.node in
    let way = c.toward-way.ensures in
    let cut = rw way.link at c.cut-below.ensures.rest in
    let settle = rw (c.cut-below.ensures.keeper.order, way.side) at c.settle.ensures.settled in
    cut_step (strict g.met.N.Nodes s) (side_of (g.N.Nodes.order s x n)) (g.N.Nodes.cells s)
    (g.N.Nodes.cells c.cut-below.new.nodes) (g.N.Nodes.cells c.settle.new.nodes)
    x n c.cut-below.result.root c.settle.result.root c.cut-below.result.fell c.settle.result.fell u c.if-at-node.false
    refl (rw c.in-Some.is at w) cut settle
