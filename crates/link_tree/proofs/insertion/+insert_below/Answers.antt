use Rattle.std.proofs.Common.{◌≡◌, ℕ, ◌+◌, ◌*◌, ◌<◌, ◌≤◌, ◌^◌, None, Option, Some, refl, sym, ap, ◌∙◌, arith, rules}
use Rattle.link_tree.specs.Tree.{Tree, height}
use Rattle.link_tree.specs.Sides.{child_of, joined_at, side_of, with_child}
use Rattle.link_tree.specs.Growing.{CanInsert, after_insert}
use Rattle.link_tree.specs.declared.cursor.Side.{Side}
use Rattle.link_tree.proofs.inserting.EntryPoint.{steady}
use Rattle.link_tree.proofs.inserting.Insertion.{grow_step, GrowsBelow, grows_below, leaf_even, leaf_grown}
use Rattle.link_tree.proofs.trees.NodeLaws.{strict}
use Rattle.link_tree.proofs.insertion.+insert_below.Goals as goal
use Rattle.link_tree.proofs.insertion.+insert_below.Given.{Over}

-- the tree below, on the side that the node goes to
below : (g : Over) (s : g.row.N.Denot) (x at : ℕ) (t : Tree)
    → CanInsert (g.N.Nodes.order s) (g.N.Nodes.cells s) (Some at) x t
    → GrowsBelow (g.N.Nodes.order s) (g.N.Nodes.cells s) (side_of (g.N.Nodes.order s x at)) at x t
below g s x at t w =
    grows_below (strict g.met.N.Nodes s) (side_of (g.N.Nodes.order s x at)) (g.N.Nodes.cells s) x at t w

pub insert_below-child-requires : goal.insert_below-child-requires
insert_below-child-requires g t c =
    let s = c.args.nodes.now in
    let way = c.toward-way in
    let b = below g s c.args.node c.args.at c.requires.tree.0 c.requires.tree.1 in
    let tree : (u : Tree) × CanInsert (g.N.Nodes.order s) (g.N.Nodes.cells s) (Some c.in-Some.next) c.args.node u
    × (way.new.self.steps + 13 * height u + 16 < 2 ^ 64) =
    (b.tree, rw (sym c.in-Some.is, way.ensures.link) b.grows, omega arith) in
    λ κs lives. (omega (arith, c.decreases), (search rules, (search rules, (search rules, (search rules, tree)))))

-- the steps of the nested call
spent : (g : Over) (s : g.row.N.Denot) (x at : ℕ) (link : Option ℕ) (t : Tree) (steps steps' : ℕ)
    → CanInsert (g.N.Nodes.order s) (g.N.Nodes.cells s) (Some at) x t
    → link ≡ child_of (side_of (g.N.Nodes.order s x at)) (g.N.Nodes.cells s at)
    → ((u : Tree) → CanInsert (g.N.Nodes.order s) (g.N.Nodes.cells s) link x u → steps' ≤ steps + 13 * height u + 3)
    → steps' + 10 ≤ steps + 13 * height t
spent g s x at link t steps steps' w k told =
    let b = below g s x at t w in
    omega (arith, told b.tree (rw k b.grows))

pub set_child-requires-2-clause-no_overflow : goal.set_child-requires-2-clause-no_overflow
set_child-requires-2-clause-no_overflow g t c =
    let few = spent g _ _ _ _ c.requires.tree.0 _ _ c.requires.tree.1
    (sym c.in-Some.is ∙ c.toward-way.ensures.link) c.insert_below-child.ensures.steps in
    let room = c.requires.tree.2 in
    omega arith

pub fix_double_red-requires-clause-no_overflow : goal.fix_double_red-requires-clause-no_overflow
fix_double_red-requires-clause-no_overflow g t c =
    let few = spent g _ _ _ _ c.requires.tree.0 _ _ c.requires.tree.1
    (sym c.in-Some.is ∙ c.toward-way.ensures.link) c.insert_below-child.ensures.steps in
    let room = c.requires.tree.2 in
    omega arith

pub returns-clause-steps : goal.returns-clause-steps
returns-clause-steps g t c = λ u w.
    let few = spent g _ _ _ _ u _ _ w (sym c.in-Some.is ∙ c.toward-way.ensures.link) c.insert_below-child.ensures.steps
    in
    let last = c.fix_double_red.ensures.unchanged c.set_child-2.ensures.position in
    omega arith

pub returns-in_default-clause-growth : goal.returns-in_default-clause-growth
returns-in_default-clause-growth g t c = λ u w.
    let s = c.args.nodes.now in
    let n = c.args.at in
    let x = c.args.node in
    let h = g.N.Nodes.cells s in
    let h1 = g.N.Nodes.cells c.make_leaf.new.nodes in
    let h2 = g.N.Nodes.cells c.set_child.new.nodes in
    let lt = g.N.Nodes.order s in
    let side = side_of (lt x n) in
    let all = strict g.met.N.Nodes s in
    let none : child_of side (h n) ≡ None = sym c.toward-way.ensures.link ∙ c.in_default.is in
    let low = leaf_grown lt h h1 x (child_of side (h n)) none c.make_leaf.ensures.layout in
    let set = c.set_child.ensures.cells ∙ ap (λ (o : Side). with_child o h1 n (Some x)) c.toward-way.ensures.side in
    grow_step all side h h1 h2 h2 x n x n u refl w low set
    (steady all h x side h2 n (leaf_even lt h x (child_of side (h n)) none))

pub returns-clause-growth : goal.returns-clause-growth
returns-clause-growth g t c = λ u w.
    let s = c.args.nodes.now in
    let n = c.args.at in
    let x = c.args.node in
    let lt = g.N.Nodes.order s in
    let h1 = g.N.Nodes.cells c.insert_below-child.new.nodes in
    let child = c.insert_below-child.result in
    let way = c.toward-way.ensures in
    let eo = c.set_child-2.ensures.keeper.order ∙ c.insert_below-child.ensures.keeper.order in
    let low = rw (sym c.in-Some.is ∙ way.link) at c.insert_below-child.ensures.growth in
    let set = c.set_child-2.ensures.cells ∙ ap (λ (o : Side). with_child o h1 n (Some child)) way.side in
    let balanced = rw (eo, way.side) at c.fix_double_red.ensures.balanced in
    grow_step (strict g.met.N.Nodes s) (side_of (lt x n)) (g.N.Nodes.cells s) h1
    (g.N.Nodes.cells c.set_child-2.new.nodes) (g.N.Nodes.cells c.fix_double_red.new.nodes)
    x n child c.fix_double_red.result u refl w low set
    (λ v far red k j o. balanced (joined_at (side_of (lt x n)) red (after_insert lt x v) n far) j o)
