-- A table of 64 nodes, for the tests: three lists, in which a link of 64 or more leads nowhere.
use Rattle.std.specs.Prelude.{ℕ, zero, suc, Option, Some, None, List, [], ◌∷◌, nat_lt, nat_eq, slice_index}
use Rattle.std.specs.Prelude.{if◌then◌else◌}
use Rattle.link_tree.specs.Tree.{Cell}

-- the link that a number stands for
abbrev pub link_of : ℕ → Option ℕ
link_of value = if nat_lt value 64 then Some value else None

abbrev pub table_cells : List ℕ → List ℕ → List ℕ → ℕ → Cell
table_cells left right red n =
    record {
      left = link_of (slice_index left n);
      right = link_of (slice_index right n);
      red = nat_eq (slice_index red n) 1;
    }

abbrev pub numbers_below : ℕ → List ℕ
numbers_below zero = []
numbers_below (suc n) = n ∷ numbers_below n
