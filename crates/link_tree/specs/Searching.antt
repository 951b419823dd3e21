-- The path of a search.
use Rattle.std.specs.Prelude.{ℕ, suc, Bool, true, false, if◌then◌else◌}
use Rattle.link_tree.specs.Tree.{Tree, leaf, fork}

-- the number of nodes on the path of a search from the root: it goes right at a node that precedes the probe, and left
-- at any other node
abbrev pub path_length : (ℕ → Bool) → Tree → ℕ
path_length before leaf = 0
path_length before (fork red left n right) =
    suc (if before n then path_length before right else path_length before left)

-- the value that a search folds over its path, from each node, its colour, and whether it precedes the probe
abbrev pub noted : {K : Type 0} → (K → ℕ → Bool → Bool → K) → (ℕ → Bool) → K → Tree → K
noted pass before folded leaf = folded
noted pass before folded (fork red left n right) =
    if before n then noted pass before (pass folded n red true) right
    else noted pass before (pass folded n red false) left
