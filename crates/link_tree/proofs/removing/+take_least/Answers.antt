use Rattle.std.proofs.Common.{refl, ◌≡◌, ◌≢◌, ℕ, ◌+◌, ◌*◌, ◌<◌, ◌^◌, Some, sym, ◌∙◌, arith, rules}
use Rattle.link_tree.specs.Tree.{Tree, height}
use Rattle.link_tree.specs.Shrinking.{IsOrderedTree, without_least}
use Rattle.link_tree.proofs.trees.Linked.{some_same}
use Rattle.link_tree.proofs.removing.LeastRemoval.{sink_far, take_more, child_tree, HasChild, least_below}
use Rattle.link_tree.specs.declared.cursor.Side.TheVariants.{Left}
use Rattle.link_tree.proofs.trees.NodeLaws.{strict}
use Rattle.link_tree.proofs.removing.+take_least.Goals as goal
use Rattle.link_tree.proofs.removing.+take_least.Given.{Over}

below : (g : Over) (s : g.row.N.Denot) (at left : ℕ) (t : Tree)
    → IsOrderedTree (g.N.Nodes.order s) (g.N.Nodes.cells s) (Some at) t → (g.N.Nodes.cells s at).left ≡ Some left
    → HasChild (strict g.met.N.Nodes s) (g.N.Nodes.cells s) Left at left t
below g s at left t w e = child_tree (strict g.met.N.Nodes s) Left (g.N.Nodes.cells s) at left t w e

pub returns-in_default-clause-rest : goal.returns-in_default-clause-rest
returns-in_default-clause-rest g t c = λ u w.
    let s = c.args.nodes.now in
    let sink = rw (c.child-right.ensures.value, c.red-red.ensures.value) at c.sink.ensures.descent in
    sink_far (strict g.met.N.Nodes s) Left without_least (g.N.Nodes.cells s) (g.N.Nodes.cells c.sink.new.nodes)
    c.args.at c.sink.result.root c.sink.result.fell u w (sym c.child.ensures.value ∙ c.in_default.is) (λ r x. refl) sink

pub take_least-below-requires : goal.take_least-below-requires
take_least-below-requires g t c =
    let s = c.args.nodes.now in
    let left = c.in-Some.left in
    let b = below g s c.args.at left c.requires.tree.0 c.requires.tree.1 (sym c.child.ensures.value ∙ c.in-Some.is) in
    let tree : (u : Tree) × IsOrderedTree (g.N.Nodes.order s) (g.N.Nodes.cells s) (Some left) u
    × (c.child.new.self.steps + 14 * height u + 40 < 2 ^ 64) = (b.tree, b.shrinks, omega arith) in
    let away : c.child.new.self.at ≢ Some left =
    λ k. b.apart (some_same left c.args.at (sym k ∙ c.child.ensures.position)) in
    λ κs lives. (omega (arith, c.decreases), (search rules, (search rules, (search rules, (away, tree)))))

pub settle-requires-clause-no_overflow : goal.settle-requires-clause-no_overflow
settle-requires-clause-no_overflow g t c =
    let b = below g _ c.args.at _ c.requires.tree.0 c.requires.tree.1 (sym c.child.ensures.value ∙ c.in-Some.is) in
    omega (arith, c.take_least-below.ensures.steps b.tree b.shrinks)

pub returns-clause-node : goal.returns-clause-node
returns-clause-node g t c = λ u w.
    let s = c.args.nodes.now in
    let left = c.in-Some.left in
    let b = below g s c.args.at left u w (sym c.child.ensures.value ∙ c.in-Some.is) in
    c.take_least-below.ensures.node b.tree b.shrinks
    ∙ sym (least_below (strict g.met.N.Nodes s) (g.N.Nodes.cells s) c.args.at left u b)

pub returns-clause-rest : goal.returns-clause-rest
returns-clause-rest g t c = λ u w.
    let s = c.args.nodes.now in
    let settle = rw c.take_least-below.ensures.keeper.order at c.settle.ensures.settled in
    take_more (strict g.met.N.Nodes s) (g.N.Nodes.cells s)
    (g.N.Nodes.cells c.take_least-below.new.nodes) (g.N.Nodes.cells c.settle.new.nodes)
    c.args.at c.in-Some.left c.take_least-below.result.rest.root c.settle.result.root
    c.take_least-below.result.rest.fell c.settle.result.fell u w.tree w.ordered
    (sym c.child.ensures.value ∙ c.in-Some.is) c.take_least-below.ensures.rest settle

pub returns-clause-steps : goal.returns-clause-steps
returns-clause-steps g t c = λ u w.
    let b = below g _ c.args.at _ u w (sym c.child.ensures.value ∙ c.in-Some.is) in
    omega (arith, c.take_least-below.ensures.steps b.tree b.shrinks)
