use Rattle.std.proofs.Common.{ℕ, ◌+◌, ◌-◌, ◌<◌, ◌^◌, length, sym, ◌∙◌, arith, rules, of_calls}
use Rattle.link_tree.specs.Tree.{Tree, nodes_of}
use Rattle.link_tree.specs.Walking.{IsAhead}
use Rattle.link_tree.proofs.trees.OrderedLists.{outside_parts}
use Rattle.link_tree.proofs.walking.Steps.{folds_join}
use Rattle.link_tree.proofs.trees.Linked.{some_same}
use Rattle.link_tree.proofs.walking.Walks.{ahead_at, AreAhead}
use Rattle.link_tree.proofs.trees.NodeLaws.{strict}
use Rattle.link_tree.proofs.walking.+walk_below.Goals as goal
use Rattle.link_tree.proofs.walking.+walk_below.Goals.{After-child-right}
use Rattle.link_tree.proofs.walking.+walk_below.Given.{Over}

ahead : (g : Over) (t : ℕ) (c : After-child-right g t) (u : Tree)
    → IsAhead (g.N.Nodes.order c.args.nodes) (g.N.Nodes.cells c.args.nodes) c.args.link c.args.levels
    c.args.visits.now.at u
    → AreAhead (g.N.Nodes.order c.args.nodes) (g.N.Nodes.cells c.args.nodes) c.in-Some.node c.args.levels
    c.child-left.result c.child-right.result c.args.visits.now.at (nodes_of u)
ahead g t c u a =
    ahead_at (strict g.met.N.Nodes c.args.nodes) (g.N.Nodes.cells c.args.nodes) c.in-Some.node c.args.levels
    c.args.link _ _ c.args.visits.now.at u c.in-Some.is c.child-left.ensures.value c.child-right.ensures.value a

pub walk_below-requires : goal.walk_below-requires
walk_below-requires g t c =
    let s = c.args.nodes in
    let p = ahead g t (goal.at.walk_below-requires g t c).After-child-right c.requires.tree.0 c.requires.tree.1 in
    let tree : (u : Tree) × IsAhead (g.N.Nodes.order s) (g.N.Nodes.cells s) c.child-left.result (c.args.levels - 1)
    c.child-right.new.self.at u × (c.child-right.new.self.steps + length (nodes_of u) + 1 < 2 ^ 64) =
    (p.left, p.left_ahead _ c.child-right.ensures.position, omega arith) in
    λ κs lives. (
      omega (arith, c.decreases),
      (search rules, (search rules, (search rules, (c.requires.callable, (c.child-left.ensures.link_target, tree))))),
    )

pub walk_below-requires-2 : goal.walk_below-requires-2
walk_below-requires-2 g t c =
    let p = ahead g t (goal.at.walk_below-requires-2 g t c).After-child-right c.requires.tree.0 c.requires.tree.1 in
    let at_node = c.child-right.ensures.position in
    let spent = c.walk_below.ensures.steps p.left (p.left_ahead _ at_node) in
    let stays = c.child-right.ensures.unchanged c.child-left.ensures.position in
    let room = c.requires.tree.2 in
    let size = p.size in
    let positive = p.positive in
    let s = c.args.nodes in
    let good = c.child-right.ensures.link_target in
    let tree : (u : Tree) × IsAhead (g.N.Nodes.order s) (g.N.Nodes.cells s) c.child-right.result (c.args.levels - 1)
    c.walk_below.new.visits.at u × (c.walk_below.new.visits.steps + length (nodes_of u) + 1 < 2 ^ 64) =
    (p.right, p.right_ahead _ _ at_node c.walk_below.ensures.position, omega arith) in
    λ κs lives. (
      omega (arith, c.decreases),
      (
        search rules,
        (
          search rules,
          (
            search rules,
            (search (of_calls, c.walk_below.ensures.callable, c.visit.ensures), (good, tree)),
          ),
        ),
      ),
    )

pub returns-clause-walk : goal.returns-clause-walk
returns-clause-walk g t c = λ u a.
    let p = ahead g t (goal.at.returns-clause-walk g t c).After-child-right u a in
    let at_node = c.child-right.ensures.position in
    rw p.nodes (folds_join (λ x k y. goal.F-step g x k tt y) c.args.visit.now (nodes_of p.left) c.walk_below.new.visit
    c.in-Some.node c.visit.new.self (nodes_of p.right) c.walk_below-2.new.visit
    (c.walk_below.ensures.walk p.left (p.left_ahead _ at_node)) (search (rules, c.visit.ensures))
    (c.walk_below-2.ensures.walk p.right (p.right_ahead _ _ at_node c.walk_below.ensures.position)))

pub returns-clause-steps : goal.returns-clause-steps
returns-clause-steps g t c = λ u a.
    let p = ahead g t (goal.at.returns-clause-steps g t c).After-child-right u a in
    let at_node = c.child-right.ensures.position in
    let goes = c.child-left.ensures.progress_on_step p.comes in
    let stays = c.child-right.ensures.unchanged c.child-left.ensures.position in
    let spent = c.walk_below.ensures.steps p.left (p.left_ahead _ at_node) in
    let spent-2 = c.walk_below-2.ensures.steps p.right (p.right_ahead _ _ at_node c.walk_below.ensures.position) in
    let size = p.size in
    omega arith

pub returns-clause-position : goal.returns-clause-position
returns-clause-position g t c = λ u a m out here.
    let n = c.in-Some.node in
    let p = ahead g t (goal.at.returns-clause-position g t c).After-child-right u a in
    let o = outside_parts m (nodes_of p.left) n (nodes_of p.right) (rw p.nodes at out) in
    let at_node = c.child-right.ensures.position in
    c.walk_below-2.ensures.position p.right (p.right_ahead _ _ at_node c.walk_below.ensures.position) m o.right
    (c.walk_below.ensures.position p.left (p.left_ahead _ at_node) m o.left
    (λ f. o.middle (some_same m n (sym f ∙ at_node))))
