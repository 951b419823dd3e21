-- The laws of trees and of lists of nodes for other crates.
use Rattle.std.proofs.Common.{◌≡◌, ℕ, ◌≤◌, Bool, true, false, List, length}
use Rattle.link_tree.specs.Tree.{Tree, nodes_of, is_sorted}
use Rattle.link_tree.specs.Nodes.{is_in}
use Rattle.link_tree.proofs.trees.NodeCount as limits
-- trees that links lead to: when one stays where it is, and that its root is one of its nodes
pub use Rattle.link_tree.proofs.trees.Linked.{holds_same, none_some, root_in, some_same, tree_same}
-- the tree read from links is the tree there, and the test of red-black trees is exact
pub use Rattle.link_tree.proofs.checking.ReadOff.{reads_off}
-- lists of nodes: membership, properties of all nodes, and the order, which is transitive
pub use Rattle.link_tree.proofs.trees.OrderedLists.{above_more, all_at, all_from, in_left, in_middle, in_parts}
pub use Rattle.link_tree.proofs.trees.OrderedLists.{in_right}
pub use Rattle.link_tree.proofs.searching.Neighbours.{first_itself}
pub use Rattle.link_tree.proofs.inserting.Insertion.{rises_put}
pub use Rattle.link_tree.proofs.removing.Removal.{without_none}
-- how high a red-black tree of n nodes can be
pub use Rattle.link_tree.proofs.trees.Heights.{bits_most, bounds_height}
-- the point at which an insertion begins depends only on the nodes of the tree
pub use Rattle.link_tree.proofs.searching.ChangePoints.{entry_same}

-- an ordered tree of nodes of a list has no more nodes than the list
pub tree_limit : (lt : ℕ → ℕ → Bool) → ((a b c : ℕ) → lt a b ≡ true → lt b c ≡ true → lt a c ≡ true)
    → ((n : ℕ) → lt n n ≡ false) → (ns : List ℕ) (t : Tree) → is_sorted lt (nodes_of t) ≡ true
    → ((m : ℕ) → is_in m (nodes_of t) ≡ true → is_in m ns ≡ true) → length (nodes_of t) ≤ length ns
tree_limit lt transitive irreflexive =
    limits.tree_limit (record { transitive = transitive; irreflexive = irreflexive })
