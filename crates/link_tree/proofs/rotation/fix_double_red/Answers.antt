use Rattle.std.proofs.Common.{◌≡◌, Bool, true, false, ℕ, Option, Some, refl, sym, ◌∙◌, arith}
use Rattle.std.proofs.lemmas.Bool.{or_left, or_right}
use Rattle.link_tree.specs.Tree.{Cell, Tree, IsTree}
use Rattle.link_tree.specs.Sides.{opposite, child_of}
use Rattle.link_tree.specs.Turning.{is_red_tree}
use Rattle.link_tree.specs.declared.cursor.Side.{Side}
use Rattle.link_tree.proofs.inserting.Rotations.{balance_flipped, balance_outer, balance_inner, balance_none}
use Rattle.link_tree.proofs.trees.NodeLaws.{strict}
use Rattle.link_tree.proofs.rotation.fix_double_red.Goals as goal
use Rattle.link_tree.proofs.rotation.fix_double_red.Goals.{After-child-inner}
use Rattle.link_tree.proofs.rotation.fix_double_red.Given.{Over}

-- the fields of the top node and of its child that were read
record IsRead (h : ℕ → Cell) (top near : ℕ) (side : Side) (far outer inner : Option ℕ) : Type 0 where
  near_is : child_of side (h top) ≡ Some near
  far_is : child_of (opposite side) (h top) ≡ far
  top_black : (h top).red ≡ false
  near_red : (h near).red ≡ true
  outer_is : child_of side (h near) ≡ outer
  inner_is : child_of (opposite side) (h near) ≡ inner

read : (g : Over) (c : After-child-inner g) → IsRead (g.N.Nodes.cells c.args.nodes.now) c.args.top c.in-Some.near
    c.args.side c.child-far.result c.child-outer.result c.child-inner.result
read g c = record {
  near_is = sym c.child.ensures.value ∙ c.in-Some.is;
  far_is = rw (← c.other.ensures) (sym c.child-far.ensures.value);
  top_black = sym c.red.ensures.value ∙ c.if-red.false;
  near_red = sym c.red-2.ensures.value ∙ c.if-not-red.false;
  outer_is = sym c.child-outer.ensures.value;
  inner_is = rw (← c.other-2.ensures) (sym c.child-inner.ensures.value);
}

-- the result of `is_red`
tells : (h : ℕ → Cell) (link link' : Option ℕ) (red is : Bool)
    → ((u : Tree) → IsTree h link' u → red ≡ is_red_tree u) → link ≡ link' → red ≡ is
    → (u : Tree) → IsTree h link u → is ≡ is_red_tree u
tells h link link' red is told k f = rw (← k, f) at told

pub returns-then-is_red-2-clause-balanced : goal.returns-then-is_red-2-clause-balanced
returns-then-is_red-2-clause-balanced g c = λ t w o.
    let r = read g (goal.at.returns-then-is_red-2-clause-balanced g c).After-child-inner in
    let s = c.args.nodes.now in
    let red = tells _ _ _ _ true c.is_red.ensures.value r.outer_is c.if-is_red.true in
    let far = tells _ _ _ _ true c.is_red-then-is_red.ensures.value r.far_is c.if-is_red-2.true in
    balance_flipped (strict g.met.N.Nodes s) c.args.side (g.N.Nodes.cells s)
    (g.N.Nodes.cells c.flip_colours.new.nodes) c.args.top c.in-Some.near t w r.near_is r.top_black r.near_red
    (λ u v a b. or_left (is_red_tree u) (is_red_tree v) (sym (red u a))) far
    (c.flip_colours.ensures.colour c.args.side t w o r.near_is r.far_is)

pub returns-then-is_red-clause-balanced : goal.returns-then-is_red-clause-balanced
returns-then-is_red-clause-balanced g c = λ t w o.
    let r = read g (goal.at.returns-then-is_red-clause-balanced g c).After-child-inner in
    let s = c.args.nodes.now in
    let red = tells _ c.child-outer.result _ _ true c.is_red.ensures.value refl c.if-is_red.true in
    let far = tells _ _ _ _ false c.is_red-then-is_red.ensures.value r.far_is c.if-is_red-2.false in
    let black = rw c.rotate-risen.ensures.keeper.order at c.paint.ensures.colour in
    balance_outer (strict g.met.N.Nodes s) c.args.side
    (g.N.Nodes.cells s) (g.N.Nodes.cells c.rotate-risen.new.nodes)
    (g.N.Nodes.cells c.paint.new.nodes) c.args.top c.in-Some.near c.rotate-risen.result c.child-outer.result
    t w o r.near_is r.top_black r.near_red r.outer_is red far c.rotate-risen.ensures.rotation black

pub returns-then-is_red-4-clause-balanced : goal.returns-then-is_red-4-clause-balanced
returns-then-is_red-4-clause-balanced g c = λ t w o.
    let r = read g (goal.at.returns-then-is_red-4-clause-balanced g c).After-child-inner in
    let s = c.args.nodes.now in
    let red = tells _ _ _ _ true c.is_red-2.ensures.value r.inner_is c.if-is_red-3.true in
    let far = tells _ _ _ _ true c.is_red-then-is_red-3.ensures.value r.far_is c.if-is_red-4.true in
    balance_flipped (strict g.met.N.Nodes s) c.args.side (g.N.Nodes.cells s)
    (g.N.Nodes.cells c.flip_colours-then-is_red-4.new.nodes) c.args.top c.in-Some.near t w r.near_is
    r.top_black r.near_red (λ u v a b. or_right (is_red_tree u) (is_red_tree v) (sym (red v b))) far
    (c.flip_colours-then-is_red-4.ensures.colour c.args.side t w o r.near_is r.far_is)

pub rotate-requires-clause-no_overflow : goal.rotate-requires-clause-no_overflow
rotate-requires-clause-no_overflow g c =
    let red = c.red.ensures.unchanged c.child.ensures.position in
    let far = c.child-far.ensures.unchanged c.red.ensures.position in
    let outer = c.child-outer.ensures.unchanged c.red-2.ensures.position in
    let inner = c.child-inner.ensures.unchanged c.child-outer.ensures.position in
    let black = c.set_red.ensures.unchanged c.rotate-lower.ensures.position in
    omega arith

pub returns-then-is_red-3-clause-balanced : goal.returns-then-is_red-3-clause-balanced
returns-then-is_red-3-clause-balanced g c = λ t w o.
    let r = read g (goal.at.returns-then-is_red-3-clause-balanced g c).After-child-inner in
    let s = c.args.nodes.now in
    let eo = c.set_child.ensures.keeper.order ∙ c.set_red.ensures.keeper.order ∙ c.rotate-lower.ensures.keeper.order in
    let black = tells _ _ _ _ false c.is_red.ensures.value r.outer_is c.if-is_red.false in
    let red = tells _ c.child-inner.result _ _ true c.is_red-2.ensures.value refl c.if-is_red-3.true in
    let far = tells _ _ _ _ false c.is_red-then-is_red-3.ensures.value r.far_is c.if-is_red-4.false in
    let lift1 = rw c.other-then-is_red-3.ensures at c.rotate-lower.ensures.rotation in
    let lift2 = rw eo at c.rotate.ensures.rotation in
    balance_inner (strict g.met.N.Nodes s) c.args.side
    (g.N.Nodes.cells s) (g.N.Nodes.cells c.rotate-lower.new.nodes)
    (g.N.Nodes.cells c.set_red.new.nodes) (g.N.Nodes.cells c.set_child.new.nodes) (g.N.Nodes.cells c.rotate.new.nodes)
    c.args.top c.in-Some.near c.rotate-lower.result c.rotate.result c.child-inner.result t w o
    r.near_is r.top_black r.near_red r.inner_is black red far lift1 c.set_red.ensures.cells c.set_child.ensures.cells
    lift2

pub returns-clause-balanced : goal.returns-clause-balanced
returns-clause-balanced g c = λ t w o.
    let r = read g (goal.at.returns-clause-balanced g c).After-child-inner in
    let s = c.args.nodes.now in
    let black = tells _ _ _ _ false c.is_red.ensures.value r.outer_is c.if-is_red.false in
    let black2 = tells _ _ _ _ false c.is_red-2.ensures.value r.inner_is c.if-is_red-3.false in
    balance_none (strict g.met.N.Nodes s) c.args.side
    (g.N.Nodes.cells s) c.args.top c.in-Some.near t w o r.near_is r.top_black r.near_red black black2
