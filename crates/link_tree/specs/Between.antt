-- Nodes between two bounds.
use Rattle.std.specs.Prelude.{ℕ, ◌+◌, Bool, true, ◌&&◌, Option, Some, None, List, [], ◌∷◌, if◌then◌else◌}

-- whether the node follows `low`; true if there is no `low`
abbrev pub is_above : (ℕ → ℕ → Bool) → Option ℕ → ℕ → Bool
is_above precedes None n = true
is_above precedes (Some low) n = precedes low n

-- whether the node precedes `high`; true if there is no `high`
abbrev pub is_below : (ℕ → ℕ → Bool) → ℕ → Option ℕ → Bool
is_below precedes n None = true
is_below precedes n (Some high) = precedes n high

abbrev pub is_between : (ℕ → ℕ → Bool) → Option ℕ → ℕ → Option ℕ → Bool
is_between precedes low n high = is_above precedes low n && is_below precedes n high

-- the number of nodes in the list between two bounds
abbrev pub count_between : (ℕ → ℕ → Bool) → Option ℕ → Option ℕ → List ℕ → ℕ
count_between precedes low high [] = 0
count_between precedes low high (n ∷ ns) =
    (if is_between precedes low n high then 1 else 0) + count_between precedes low high ns
