use Rattle.std.proofs.Common.{refl, ◌≡◌, Bool, ℕ, ◌+◌, ◌<◌, ◌^◌, Option, Some, sym, ap, ◌∙◌, arith}
use Rattle.link_tree.specs.Tree.{Tree}
use Rattle.link_tree.specs.Nodes.{with_left, with_red}
use Rattle.link_tree.specs.Shrinking.{IsOrderedTree, uprooted}
use Rattle.link_tree.proofs.trees.Linked.{some_same}
use Rattle.link_tree.proofs.removing.RootRemoval.{uproot_more}
use Rattle.link_tree.proofs.removing.LeastRemoval.{child_tree, HasChild, sink_far}
use Rattle.link_tree.specs.declared.cursor.Side.TheVariants.{Right}
use Rattle.link_tree.proofs.trees.NodeLaws.{strict}
use Rattle.link_tree.proofs.removing.uproot.Goals as goal
use Rattle.link_tree.proofs.removing.uproot.Goals.{After-take_least-next}
use Rattle.link_tree.proofs.removing.uproot.Given.{Over}

right_tree : (g : Over) (s : g.row.N.Denot) (at right : ℕ) (t : Tree)
    → IsOrderedTree (g.N.Nodes.order s) (g.N.Nodes.cells s) (Some at) t → (g.N.Nodes.cells s at).right ≡ Some right
    → HasChild (strict g.met.N.Nodes s) (g.N.Nodes.cells s) Right at right t
right_tree g s at right t w e = child_tree (strict g.met.N.Nodes s) Right (g.N.Nodes.cells s) at right t w e

pub returns-in_default-clause-rest : goal.returns-in_default-clause-rest
returns-in_default-clause-rest g c = λ u w.
    let s = c.args.nodes.now in
    let sink = rw (c.child-left.ensures.value, c.red-red.ensures.value) at c.sink.ensures.descent in
    sink_far (strict g.met.N.Nodes s) Right uprooted (g.N.Nodes.cells s) (g.N.Nodes.cells c.sink.new.nodes) c.args.at
    c.sink.result.root c.sink.result.fell u w (sym c.child.ensures.value ∙ c.in_default.is) (λ r x. refl) sink

pub take_least-next-requires-clause-exclusive : goal.take_least-next-requires-clause-exclusive
take_least-next-requires-clause-exclusive g c = λ k.
    let right = c.in-Some.right in
    let b = right_tree g c.args.nodes.now c.args.at right c.requires.tree.0 c.requires.tree.1
    (sym c.child.ensures.value ∙ c.in-Some.is) in
    b.apart (some_same right c.args.at (sym k ∙ c.child.ensures.position))

pub take_least-next-requires-clause-tree : goal.take_least-next-requires-clause-tree
take_least-next-requires-clause-tree g c =
    let b = right_tree g c.args.nodes.now c.args.at c.in-Some.right c.requires.tree.0 c.requires.tree.1
    (sym c.child.ensures.value ∙ c.in-Some.is) in
    (b.tree, b.shrinks, omega arith)

-- the steps of `take_least`
few : (g : Over) (c : After-take_least-next g) → c.take_least-next.new.visits.steps + 48 < 2 ^ 64
few g c =
    let b = right_tree g c.args.nodes.now c.args.at c.in-Some.right c.requires.tree.0 c.requires.tree.1
    (sym c.child.ensures.value ∙ c.in-Some.is) in
    let room = c.requires.tree.2 in
    omega (arith, c.take_least-next.ensures.steps b.tree b.shrinks)

pub set_child-requires-clause-no_overflow : goal.set_child-requires-clause-no_overflow
set_child-requires-clause-no_overflow g c =
    omega (arith, few g (goal.at.set_child-requires-clause-no_overflow g c).After-take_least-next)

pub set_red-requires-clause-no_overflow : goal.set_red-requires-clause-no_overflow
set_red-requires-clause-no_overflow g c =
    omega (arith, few g (goal.at.set_red-requires-clause-no_overflow g c).After-take_least-next)

pub settle-requires-clause-no_overflow : goal.settle-requires-clause-no_overflow
settle-requires-clause-no_overflow g c =
    omega (arith, few g (goal.at.settle-requires-clause-no_overflow g c).After-take_least-next)

pub returns-clause-rest : goal.returns-clause-rest
returns-clause-rest g c = λ u w.
    let s = c.args.nodes.now in
    let h1 = g.N.Nodes.cells c.take_least-next.new.nodes in
    let h2 = g.N.Nodes.cells c.set_child.new.nodes in
    let next = c.take_least-next.result in
    let eo = c.set_red.ensures.keeper.order ∙ c.set_child.ensures.keeper.order ∙ c.take_least-next.ensures.keeper.order
    in
    let settle = rw eo at c.settle.ensures.settled in
    let set_left = c.set_child.ensures.cells
    ∙ ap (λ (o : Option ℕ). with_left h1 next.node o) c.child-left.ensures.value in
    let set_red = c.set_red.ensures.cells ∙ ap (λ (o : Bool). with_red h2 next.node o) c.red-red.ensures.value in
    uproot_more (strict g.met.N.Nodes s) (g.N.Nodes.cells s) h1 h2
    (g.N.Nodes.cells c.set_red.new.nodes) (g.N.Nodes.cells c.settle.new.nodes)
    c.args.at c.in-Some.right next.node next.rest.root c.settle.result.root next.rest.fell c.settle.result.fell
    u w.tree w.ordered (sym c.child.ensures.value ∙ c.in-Some.is) c.take_least-next.ensures.node
    c.take_least-next.ensures.rest set_left set_red settle

pub returns-clause-steps : goal.returns-clause-steps
returns-clause-steps g c = λ u w.
    let b = right_tree g c.args.nodes.now c.args.at c.in-Some.right u w (sym c.child.ensures.value ∙ c.in-Some.is) in
    omega (arith, c.take_least-next.ensures.steps b.tree b.shrinks)
