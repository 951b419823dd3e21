-- Where the change of a tree begins when a node is inserted or removed: no node above that one changes.
use Rattle.std.specs.Prelude.{◌≡◌, ℕ, Bool, true, false, not, ◌&&◌, ◌==◌, Option, Some, None, MatchOption}
use Rattle.std.specs.Prelude.{if◌then◌else◌}
use Rattle.std.specs.Option.{option_or}
use Rattle.link_tree.specs.Tree.{Cell, Tree, leaf, fork, has_black_root}
use Rattle.link_tree.specs.declared.change_points.Passed.{Passed}
use Rattle.link_tree.specs.declared.change_points.Reached.{Reached}
use Rattle.link_tree.specs.declared.change_points.Followed.{Followed}

-- the point found below a node; if there is none, the node itself if it is black and the path continues to no red node
abbrev pub entry_over : Bool → ℕ → Tree → Option ℕ → Option ℕ
entry_over red n next below = option_or below (if not red && has_black_root next then Some n else None)

-- The lowest black node on the path of a search that has no red node after it there. If a red node is inserted at the
-- end of the path, the subtree of this node is rebalanced, and its root stays black, so nothing above it changes.
abbrev pub insert_point_of : (ℕ → Bool) → Tree → Option ℕ
insert_point_of before leaf = None
insert_point_of before (fork red left n right) =
    if before n then entry_over red n right (insert_point_of before right) else entry_over red n left
    (insert_point_of before left)

-- the last node on the path of a search; `above` if the tree is empty
abbrev pub last_on : (ℕ → Bool) → Option ℕ → Tree → Option ℕ
last_on before above leaf = above
last_on before above (fork red left n right) =
    if before n then last_on before (Some n) right else last_on before (Some n) left

-- the node is the last one on the path of a search: an insertion at the end of the path begins at it if it is black
pub record IsPathEnd (good : ℕ → Bool) (cells : ℕ → Cell) (before : ℕ → Bool) (t : Tree) (n : ℕ) : Type 0 where
  pub node : good n ≡ true
  pub black : (cells n).red ≡ false → insert_point_of before t ≡ Some n

-- the last node on the path of a search; none if the tree is empty, so that an insertion begins at the root
abbrev pub EndsPath : (ℕ → Bool) → (ℕ → Cell) → (ℕ → Bool) → Tree → Option ℕ → Type 0
EndsPath good cells before t last =
    MatchOption last (insert_point_of before t ≡ None) (IsPathEnd good cells before t)

-- the state of a search after one more node of its path
abbrev pub passed : Passed → ℕ → Bool → Bool → Passed
passed folded n red before = record {
  above = if red then None else Some n;
  entry = if red then folded.entry else option_or folded.above folded.entry;
}

-- the state of a search that notes the end of its path, after one more node
abbrev pub reached : Reached → ℕ → Bool → Bool → Reached
reached folded n red before = record {
  node = if before then folded.node else Some n;
  last = Some n;
}

-- the point found below a node; if there is none, the node itself if the path continues to a red node
abbrev pub exit_over : ℕ → Tree → Option ℕ → Option ℕ
exit_over n next below = option_or below (if has_black_root next then None else Some n)

-- The lowest node above another that has a red node after it on the path to the other. If the other is removed, each
-- path of the subtree under the red node keeps its number of black nodes, for any colour of its root. So nothing above
-- this node changes.
abbrev pub remove_point_of : (ℕ → ℕ → Bool) → ℕ → Tree → Option ℕ
remove_point_of precedes x leaf = None
remove_point_of precedes x (fork red left n right) =
    if n == x then None
    else (if precedes x n then exit_over n left (remove_point_of precedes x left) else exit_over n right
    (remove_point_of precedes x right))

-- the state of a search for a node to remove, after one more node of its path
abbrev pub followed : Followed → ℕ → Bool → Bool → Followed
followed folded n red before = record {
  node = if before then folded.node else Some n;
  above = Some n;
  exit = if red then folded.above else folded.exit;
  of_node = if before then folded.of_node else (if red then folded.above else folded.exit);
}
