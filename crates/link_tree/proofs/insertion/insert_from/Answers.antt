use Rattle.std.proofs.Common.{◌≡◌, ℕ, true, not, ◌∷◌, Option, Some, arith, refl, sym, ap, ◌∙◌, subst}
use Rattle.std.specs.Prelude.{IfSome, IsTrue}
use Rattle.link_tree.specs.Tree.{Tree, IsSearchTree, nodes_of}
use Rattle.link_tree.specs.Nodes.{is_ordered_with, insert_in_order, leads}
use Rattle.link_tree.specs.Sides.{side_of, with_child}
use Rattle.link_tree.specs.declared.cursor.Side.{Side}
use Rattle.link_tree.specs.Growing.{CanInsert}
use Rattle.link_tree.specs.Ways.{insert_point_of}
use Rattle.link_tree.proofs.trees.Linked.{IsChanged, one_tree, root_in}
use Rattle.link_tree.proofs.trees.Heights.{height_bits}
use Rattle.link_tree.proofs.trees.NodeLaws.{low_tree, node_of, strict}
use Rattle.link_tree.proofs.inserting.Insertion.{frame_beside, grow_step, GrowsBelow, grows_below, inserted, laid}
use Rattle.link_tree.proofs.inserting.EntryPoint.{IsBegun, begun_whole, entered, grows_begun, steady}
use Rattle.link_tree.proofs.insertion.insert_from.Goals as goal
use Rattle.link_tree.proofs.insertion.insert_from.Goals.{After-set_child, After-paint}
use Rattle.link_tree.proofs.insertion.insert_from.Given.{Over}

-- the conditions of the call
abbrev Asked : (g : Over) → g.row.N.Denot → (root entry : Option ℕ) → ℕ → Type 0
Asked g s root entry x = (t : Tree) × IsSearchTree (g.N.Nodes.order s) (g.N.Nodes.cells s) root t
    × IsTrue (is_ordered_with (g.N.Nodes.order s) x (nodes_of t))
    × IfSome entry (λ n. insert_point_of (λ m. not (g.N.Nodes.order s x m)) t ≡ Some n)

module _ (g : Over) (s : g.row.N.Denot) (root entry : Option ℕ) (x : ℕ) (asked : Asked g s root entry x) (u : Tree)
    (k : IsSearchTree (g.N.Nodes.order s) (g.N.Nodes.cells s) root u) where
  -- the node has its place in each tree of the root, since there is but one
  grows : CanInsert (g.N.Nodes.order s) (g.N.Nodes.cells s) root x u
  grows =
      let e = one_tree (g.N.Nodes.cells s) root asked.0 u asked.1.tree k.tree in
      record {
        tree = k.tree;
        ordered = k.ordered;
        placed = subst (λ v. is_ordered_with (g.N.Nodes.order s) x (nodes_of v) ≡ true) e asked.2;
      }

  -- the insertion begins at a node of it
  begins : (p : ℕ) → entry ≡ Some p → IsBegun (g.N.Nodes.order s) (g.N.Nodes.cells s) x u p
  begins p is =
      let e = one_tree (g.N.Nodes.cells s) root asked.0 u asked.1.tree k.tree in
      let at : insert_point_of (λ m. not (g.N.Nodes.order s x m)) asked.0 ≡ Some p = rw is at asked.3 in
      subst (λ v. IsBegun (g.N.Nodes.order s) (g.N.Nodes.cells s) x v p) e
      (begun_whole (strict g.met.N.Nodes s) (g.N.Nodes.cells s) x root asked.0 p asked.1 asked.2 at)

  -- the tree below that node, where the new node goes
  further : (p : ℕ) (is : entry ≡ Some p) → GrowsBelow (g.N.Nodes.order s) (g.N.Nodes.cells s)
      (side_of (g.N.Nodes.order s x p)) p x (begins p is).begins.below
  further p is =
      let all = strict g.met.N.Nodes s in
      grows_below all (side_of (g.N.Nodes.order s x p)) (g.N.Nodes.cells s) x p (begins p is).begins.below
      (grows_begun all (g.N.Nodes.cells s) x u p grows.placed (begins p is))

  -- that node is one of the nodes
  entry_node : (p : ℕ) → entry ≡ Some p → IsTrue (leads (g.N.Nodes.is_node s) root) → g.N.Nodes.is_node s p ≡ true
  entry_node p is r =
      let b = begins p is in
      node_of g.met.N.Nodes s k.tree r p
      (b.begins.inside p (root_in (g.N.Nodes.cells s) p b.begins.below b.begins.is_tree))

pub toward-way-requires-clause-position : goal.toward-way-requires-clause-position
toward-way-requires-clause-position g c =
    let t = c.requires.tree in
    entry_node g c.args.nodes.now c.args.root c.args.entry c.args.node t t.0 t.1 _ c.in-Some.is c.requires.root

pub set_child-requires-clause-node : goal.set_child-requires-clause-node
set_child-requires-clause-node g c =
    let t = c.requires.tree in
    rw c.insert_behind-child.ensures.keeper.nodes
    (entry_node g c.args.nodes.now c.args.root c.args.entry c.args.node t t.0 t.1 _ c.in-Some.is c.requires.root)

pub insert_behind-child-requires-clause-tree : goal.insert_behind-child-requires-clause-tree
insert_behind-child-requires-clause-tree g c =
    let t = c.requires.tree in
    let s = c.args.nodes.now in
    let way = c.toward-way.ensures in
    let low = low_tree g.met.N.Nodes s t.1 c.requires.root in
    let zero = c.requires.steps in
    let b = begins g s c.args.root c.args.entry c.args.node t t.0 t.1 _ c.in-Some.is in
    let f = further g s c.args.root c.args.entry c.args.node t t.0 t.1 _ c.in-Some.is in
    let few = way.steps_upper in
    let lower = b.begins.lower in
    let lower' = f.lower in
    (f.tree, rw way.link f.grows, omega arith)

pub set_child-requires-clause-no_overflow : goal.set_child-requires-clause-no_overflow
set_child-requires-clause-no_overflow g c =
    let t = c.requires.tree in
    let s = c.args.nodes.now in
    let way = c.toward-way.ensures in
    let low = low_tree g.met.N.Nodes s t.1 c.requires.root in
    let zero = c.requires.steps in
    let b = begins g s c.args.root c.args.entry c.args.node t t.0 t.1 _ c.in-Some.is in
    let f = further g s c.args.root c.args.entry c.args.node t t.0 t.1 _ c.in-Some.is in
    let few = way.steps_upper in
    let lower = b.begins.lower in
    let lower' = f.lower in
    let steps = rw way.link at c.insert_behind-child.ensures.steps in
    omega (arith, steps f.tree f.grows)

-- the result of an insertion below a node of the tree
entered_at : (g : Over) (c : After-set_child g) (u : Tree)
    → IsSearchTree (g.N.Nodes.order c.args.nodes.now) (g.N.Nodes.cells c.args.nodes.now) c.args.root u
    → IsChanged (g.N.Nodes.order c.set_child.new.nodes) (g.N.Nodes.cells c.args.nodes.now)
    (g.N.Nodes.cells c.set_child.new.nodes) c.args.root (c.args.node ∷ nodes_of u)
    (insert_in_order (g.N.Nodes.order c.args.nodes.now) c.args.node (nodes_of u))
entered_at g c u k =
    let s = c.args.nodes.now in
    let x = c.args.node in
    let p = c.in-Some.start in
    let h = g.N.Nodes.cells s in
    let h1 = g.N.Nodes.cells c.insert_behind-child.new.nodes in
    let h2 = g.N.Nodes.cells c.set_child.new.nodes in
    let child = c.insert_behind-child.result in
    let side = side_of (g.N.Nodes.order s x p) in
    let all = strict g.met.N.Nodes s in
    let way = c.toward-way.ensures in
    let grow = rw way.link at c.insert_behind-child.ensures.growth in
    let set = c.set_child.ensures.cells ∙ ap (λ (o : Side). with_child o h1 p (Some child)) way.side in
    let b = begins g s c.args.root c.args.entry x c.requires.tree u k p c.in-Some.is in
    let place = (grows g s c.args.root c.args.entry x c.requires.tree u k).placed in
    let new = grow_step all side h h1 h2 h2 x p child p b.begins.below refl
    (grows_begun all h x u p place b) grow set (steady all h x side h2 p (λ v w. b.next v w.tree)) in
    rw (c.set_child.ensures.keeper.order ∙ c.insert_behind-child.ensures.keeper.order)
    (entered all h x h2 c.args.root p u p k place b new)

pub returns-in-Some-clause-tree : goal.returns-in-Some-clause-tree
returns-in-Some-clause-tree g c = λ u k.
    (entered_at g (goal.at.returns-in-Some-clause-tree g c).After-set_child u k).tree

pub returns-in-Some-clause-frame : goal.returns-in-Some-clause-frame
returns-in-Some-clause-frame g c = λ u k.
    frame_beside (entered_at g (goal.at.returns-in-Some-clause-frame g c).After-set_child u k)

pub returns-in-Some-clause-steps : goal.returns-in-Some-clause-steps
returns-in-Some-clause-steps g c = λ u k.
    let s = c.args.nodes.now in
    let way = c.toward-way.ensures in
    let b = begins g s c.args.root c.args.entry c.args.node c.requires.tree u k _ c.in-Some.is in
    let f = further g s c.args.root c.args.entry c.args.node c.requires.tree u k _ c.in-Some.is in
    let steps = rw way.link at c.insert_behind-child.ensures.steps in
    let few = way.steps_upper in
    let last = c.set_child.ensures.steps_upper in
    let lower = b.begins.lower in
    let lower' = f.lower in
    omega (arith, steps f.tree f.grows, c.requires.steps, height_bits u k.red_black)

pub returns-in_default-root-clause-tree : goal.returns-in_default-root-clause-tree
returns-in_default-root-clause-tree g c = λ u k.
    (laid _ (g.N.Nodes.cells c.args.nodes.now) (g.N.Nodes.cells c.make_leaf.new.nodes) c.args.root c.args.node u
    c.in_default-root.is k c.make_leaf.ensures.layout).tree

pub insert_below-risen-requires-clause-tree : goal.insert_below-risen-requires-clause-tree
insert_below-risen-requires-clause-tree g c =
    let t = c.requires.tree in
    let s = c.args.nodes.now in
    let low = low_tree g.met.N.Nodes s t.1 c.requires.root in
    let zero = c.requires.steps in
    let there = grows g s c.args.root c.args.entry c.args.node t t.0 t.1 in
    (t.0, rw (sym c.in-Some-root.is) there, omega arith)

pub paint-requires-clause-no_overflow : goal.paint-requires-clause-no_overflow
paint-requires-clause-no_overflow g c =
    let t = c.requires.tree in
    let s = c.args.nodes.now in
    let low = low_tree g.met.N.Nodes s t.1 c.requires.root in
    let zero = c.requires.steps in
    let steps = rw (sym c.in-Some-root.is) at c.insert_below-risen.ensures.steps in
    omega (arith, steps t.0 (grows g s c.args.root c.args.entry c.args.node t t.0 t.1))

-- the result of an insertion below the root
inserted_at : (g : Over) (c : After-paint g) (u : Tree)
    → IsSearchTree (g.N.Nodes.order c.args.nodes.now) (g.N.Nodes.cells c.args.nodes.now) c.args.root u
    → IsChanged (g.N.Nodes.order c.paint.new.nodes) (g.N.Nodes.cells c.args.nodes.now)
    (g.N.Nodes.cells c.paint.new.nodes) (Some c.insert_below-risen.result) (c.args.node ∷ nodes_of u)
    (insert_in_order (g.N.Nodes.order c.args.nodes.now) c.args.node (nodes_of u))
inserted_at g c u k =
    let s = c.args.nodes.now in
    let w = grows g s c.args.root c.args.entry c.args.node c.requires.tree u k in
    let eo = c.insert_below-risen.ensures.keeper.order in
    let grow = rw (sym c.in-Some-root.is) at c.insert_below-risen.ensures.growth in
    let black = rw eo at c.paint.ensures.colour in
    rw (c.paint.ensures.keeper.order ∙ eo) (inserted (strict g.met.N.Nodes s) (g.N.Nodes.cells s)
    (g.N.Nodes.cells c.insert_below-risen.new.nodes) (g.N.Nodes.cells c.paint.new.nodes) c.args.root c.args.node
    c.insert_below-risen.result u k w.placed (grow u w) black)

pub returns-clause-tree : goal.returns-clause-tree
returns-clause-tree g c = λ u k. (inserted_at g (goal.at.returns-clause-tree g c).After-paint u k).tree

pub returns-clause-frame : goal.returns-clause-frame
returns-clause-frame g c = λ u k. frame_beside (inserted_at g (goal.at.returns-clause-frame g c).After-paint u k)

pub returns-clause-steps : goal.returns-clause-steps
returns-clause-steps g c = λ u k.
    let s = c.args.nodes.now in
    let steps = rw (sym c.in-Some-root.is) at c.insert_below-risen.ensures.steps in
    let few = steps u (grows g s c.args.root c.args.entry c.args.node c.requires.tree u k) in
    omega (arith, few, height_bits u k.red_black)
