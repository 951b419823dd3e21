use Rattle.std.proofs.Common.{◌≡◌, ℕ, true, Option, None, arith}
use Rattle.link_tree.specs.Tree.{Tree, IsSearchTree}
use Rattle.link_tree.specs.Nodes.{leads}
use Rattle.link_tree.specs.Walking.{IsAhead}
use Rattle.link_tree.proofs.trees.NodeLaws.{low_tree}
use Rattle.link_tree.proofs.walking.walk.Goals as goal
use Rattle.link_tree.proofs.walking.walk.Given.{Over}

-- the whole tree is ahead of a walk that stands nowhere
ahead : (g : Over) (s : g.row.N.Denot) (link here : Option ℕ) (t : Tree)
    → IsSearchTree (g.N.Nodes.order s) (g.N.Nodes.cells s) link t
    → leads (g.N.Nodes.is_node s) link ≡ true → here ≡ None
    → IsAhead (g.N.Nodes.order s) (g.N.Nodes.cells s) link 82 here t
ahead g s link here t k at_node nowhere =
    let f = low_tree g.met.N.Nodes s k at_node in
    record { tree = k.tree; ordered = k.ordered; low = omega arith; away = λ m i e. cc }

pub walk_below-requires-clause-tree : goal.walk_below-requires-clause-tree
walk_below-requires-clause-tree g c =
    let s = c.args.nodes.now in
    let t = c.requires.tree in
    let low = low_tree g.met.N.Nodes s t.1 c.requires.root in
    let zero = c.count_steps-nodes.ensures.steps in
    rw c.count_steps-nodes.ensures.nodes
    (t.0, ahead g s c.args.root _ t.0 t.1 c.requires.root c.count_steps-nodes.ensures.position, omega arith)

pub returns : goal.returns
returns g c = record {
  walk = λ u k.
      let folds = rw c.count_steps-nodes.ensures.nodes at c.walk_below.ensures.walk in
      folds u
      (ahead g c.args.nodes.now c.args.root _ u k c.requires.root c.count_steps-nodes.ensures.position);
  callable = c.walk_below.ensures.callable;
  steps = λ u k.
      let zero = c.count_steps-nodes.ensures.steps in
      let steps = rw c.count_steps-nodes.ensures.nodes at c.walk_below.ensures.steps in
      let spent = steps u
      (ahead g c.args.nodes.now c.args.root _ u k c.requires.root c.count_steps-nodes.ensures.position) in
      omega arith;
}
