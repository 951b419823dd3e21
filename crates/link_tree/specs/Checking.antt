-- The result of a check of links.
use Rattle.std.specs.Prelude.{◌≡◌, ℕ, Bool, true, Option, List}
use Rattle.std.specs.List.{list_all}
use Rattle.link_tree.specs.Tree.{Cell, Tree, nodes_of, IsTree, is_sorted, has_black_root, has_no_red_pair}
use Rattle.link_tree.specs.Tree.{has_black_height}
use Rattle.link_tree.specs.Nodes.{is_in, leads}
use Rattle.link_tree.specs.Between.{is_between}

-- each link of a node of the list leads to a node of the list
pub record IsLinkClosed (cells : ℕ → Cell) (ns : List ℕ) : Type 0 where
  pub left : (n : ℕ) → is_in n ns ≡ true → leads (λ m. is_in m ns) (cells n).left ≡ true
  pub right : (n : ℕ) → is_in n ns ≡ true → leads (λ m. is_in m ns) (cells n).right ≡ true

-- the link leads to an ordered tree with nodes between `low` and `high` and this many black nodes on each path; it is
-- red-black, and its root is black if the node above is red
pub record IsSound (precedes : ℕ → ℕ → Bool) (cells : ℕ → Cell) (link low high : Option ℕ) (red_above : Bool)
    (t : Tree) (blacks : ℕ) : Type 0 where
  pub tree : IsTree cells link t
  pub ordered : is_sorted precedes (nodes_of t) ≡ true
  pub between : list_all (λ m. is_between precedes low m high) (nodes_of t) ≡ true
  pub no_red_pair : has_no_red_pair t ≡ true
  pub root : red_above ≡ true → has_black_root t ≡ true
  pub black : has_black_height t blacks ≡ true
