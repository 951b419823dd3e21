-- Lists of the nodes of a tree, in order.
use Rattle.std.specs.Prelude.{◌≡◌, ℕ, suc, ◌+◌, ◌<◌, ◌≤◌, min, Bool, true, not, Option, List, [], ◌∷◌, ◌++◌}
use Rattle.std.specs.Prelude.{length, take, drop, set, filter, if◌then◌else◌}
use Rattle.link_tree.specs.Tree.{Cell, Tree, leaf, fork, nodes_of, IsTree, is_sorted, height}

-- the nodes that do not precede the probe
abbrev pub nodes_from : (ℕ → Bool) → List ℕ → List ℕ
nodes_from before ns = filter (λ n. not (before n)) ns

-- the list with these nodes in its first places, as many as it has places for
abbrev pub filled : List ℕ → List ℕ → List ℕ
filled list ns = take (length list) ns ++ drop (length ns) list

-- the list with these nodes in its places from one on, as many as it has places for
abbrev pub placed : List ℕ → ℕ → List ℕ → List ℕ
placed list at [] = list
placed list at (n ∷ ns) = placed (set list at n) (suc at) ns

-- the link leads to this ordered tree of at most this height
pub record IsLowSearchTree (precedes : ℕ → ℕ → Bool) (cells : ℕ → Cell) (link : Option ℕ) (levels : ℕ)
    (t : Tree) : Type 0 where
  pub tree : IsTree cells link t
  pub ordered : is_sorted precedes (nodes_of t) ≡ true
  pub low : height t ≤ levels

-- the number of nodes that precede the probe on the path of its search
abbrev pub skipped : (ℕ → Bool) → Tree → ℕ
skipped before leaf = 0
skipped before (fork red left n right) = if before n then suc (skipped before right) else skipped before left

-- The nodes of a tree that do not precede the probe follow those that the list has, as many as it has places for.
-- The listing visits the nodes that it lists and those that the search for the probe skips, and at most one path down
-- the tree more, or none if the list has places left.
pub record Lists (before : ℕ → Bool) (t : Tree) (list : List ℕ) (count : ℕ) (list' : List ℕ)
    (count' steps steps' : ℕ) : Type 0 where
  pub listed : list' ≡ placed list count (nodes_from before (nodes_of t))
  pub many : count' ≡ min (length list) (count + length (nodes_from before (nodes_of t)))
  pub visited : steps' ≤ steps + length (nodes_of t)
  pub path : steps' + count ≤ steps + count' + skipped before t + height t
  pub path_if_unfilled : count' < length list → steps' + count ≤ steps + count' + skipped before t
