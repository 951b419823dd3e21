use Rattle.std.proofs.Common.{◌≡◌, ℕ, true, Option, ◌∙◌, arith}
use Rattle.link_tree.specs.Tree.{Tree, IsSearchTree, nodes_of}
use Rattle.link_tree.specs.Nodes.{leads}
use Rattle.link_tree.specs.Listing.{IsLowSearchTree, nodes_from}
use Rattle.link_tree.proofs.trees.Heights.{bounds_height}
use Rattle.link_tree.proofs.trees.NodeLaws.{low_tree}
use Rattle.link_tree.proofs.listing.Listings.{skipped_height}
use Rattle.link_tree.proofs.listing.Rows.{filled_is}
use Rattle.link_tree.proofs.listing.list_nodes_from.Goals as goal
use Rattle.link_tree.proofs.listing.list_nodes_from.Given.{Over}

-- a whole tree is low
below : (g : Over) (s : g.row.N.Denot) (link : Option ℕ) (t : Tree)
    → IsSearchTree (g.N.Nodes.order s) (g.N.Nodes.cells s) link t
    → leads (g.N.Nodes.is_node s) link ≡ true → IsLowSearchTree (g.N.Nodes.order s) (g.N.Nodes.cells s) link 82 t
below g s link t k good =
    let f = low_tree g.met.N.Nodes s k good in
    record { tree = k.tree; ordered = k.ordered; low = omega arith }

pub list_from-count-requires-clause-tree : goal.list_from-count-requires-clause-tree
list_from-count-requires-clause-tree g c =
    let s = c.args.nodes.now in
    let k = c.requires.tree in
    let low = low_tree g.met.N.Nodes s k.1 c.requires.root in
    let zero = c.count_steps-nodes.ensures.steps in
    rw c.count_steps-nodes.ensures.nodes (k.0, below g s c.args.root k.0 k.1 c.requires.root, omega arith)

pub returns-clause-list : goal.returns-clause-list
returns-clause-list g c = λ t k.
    let s = c.args.nodes.now in
    let listing = rw c.count_steps-nodes.ensures.nodes at c.list_from-count.ensures.listing in
    let a = listing t (below g s c.args.root t k c.requires.root) in
    a.listed ∙ filled_is c.args.list.now (nodes_from (g.N.Nodes.before s c.args.probe.now) (nodes_of t))

pub returns-clause-count : goal.returns-clause-count
returns-clause-count g c = λ t k.
    let s = c.args.nodes.now in
    let listing = rw c.count_steps-nodes.ensures.nodes at c.list_from-count.ensures.listing in
    let many = (listing t (below g s c.args.root t k c.requires.root)).many in
    omega arith

pub returns-clause-steps : goal.returns-clause-steps
returns-clause-steps g c = λ t k.
    let s = c.args.nodes.now in
    let listing = rw c.count_steps-nodes.ensures.nodes at c.list_from-count.ensures.listing in
    let path = (listing t (below g s c.args.root t k c.requires.root)).path in
    let zero = c.count_steps-nodes.ensures.steps in
    let high = bounds_height t k.red_black in
    let skips = skipped_height (g.N.Nodes.before s c.args.probe.now) t in
    omega arith
