-- Several allocations, one after another.
use Rattle.std.specs.Prelude.{ℕ, Option, Some, None, List, [], ◌∷◌, option_map}
use Rattle.block_tags.specs.declared.tile.Role.{Role}
use Rattle.best_fit.specs.Extents.{Extent, LiveSet}
use Rattle.best_fit.specs.Fit.{added, place}

-- the extents of several allocations, placed one after another; none if one of them has no fit
abbrev pub place_all : LiveSet → List (ℕ × Role) → Option (List Extent)
place_all live [] = Some []
place_all live ((n, role) ∷ needs) =
    elim (place live n role) [ None ↦ None | Some x ↦ option_map (λ xs. x ∷ xs) (place_all (added live x) needs) ]

-- the live set with all of these extents
abbrev pub all_added : LiveSet → List Extent → LiveSet
all_added live [] = live
all_added live (x ∷ xs) = all_added (added live x) xs
