use Rattle.std.proofs.Common.{ℕ, ◌+◌, ◌*◌, ◌<◌, ◌≤◌, ◌^◌, arith, length}
use Rattle.link_tree.specs.Tree.{nodes_of, bits}
use Rattle.link_tree.proofs.trees.Heights.{bits_most}
use Rattle.link_tree.proofs.trees.NodeLaws.{low_tree}
use Rattle.link_tree.proofs.insertion.insert.Goals as goal
use Rattle.link_tree.proofs.insertion.insert.Goals.{After-insert_at-changed}
use Rattle.link_tree.proofs.insertion.insert.Given.{Over}

-- a tree with few nodes needs few steps
few : (digits search change : ℕ) → digits ≤ 41 → search ≤ 2 * digits → change ≤ 28 * digits + 32
    → 2 * search + change < 2 ^ 64
few digits search change a b c = omega arith

taken : (g : Over) (c : After-insert_at-changed g)
    → 2 * c.find_insert_point-way.result.steps + c.insert_at-changed.result.steps < 2 ^ 64
taken g c =
    let t = c.requires.tree in
    let low = low_tree g.met.N.Nodes c.args.nodes.now t.1 c.requires.root in
    few (bits (length (nodes_of t.0) + 1)) _ _ (bits_most (length (nodes_of t.0)) low.1)
    (c.find_insert_point-way.ensures.steps t.0 t.1) (c.insert_at-changed.ensures.steps t.0 t.1)

pub overflow_mul-result : goal.overflow_mul-result
overflow_mul-result g c = omega (arith, taken g (goal.at.overflow_mul-result g c).After-insert_at-changed)

pub overflow_add-result : goal.overflow_add-result
overflow_add-result g c = omega (arith, taken g (goal.at.overflow_add-result g c).After-insert_at-changed)
