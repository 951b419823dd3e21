-- Changed cells, and lists of nodes.
use Rattle.std.specs.Prelude.{ℕ, Bool, true, false, not, ◌||◌, Option, Some, None, List, [], ◌∷◌, reverse, nat_eq}
use Rattle.std.specs.Prelude.{if◌then◌else◌}
use Rattle.std.specs.List.{find, list_all}
use Rattle.link_tree.specs.Tree.{Cell}

-- the cells, except that one node's left link is now `to`
unfoldable pub with_left : (ℕ → Cell) → ℕ → Option ℕ → ℕ → Cell
with_left cells n to m = if nat_eq m n then record (cells m) { left = to } else cells m

-- the cells, except that one node's right link is now `to`
unfoldable pub with_right : (ℕ → Cell) → ℕ → Option ℕ → ℕ → Cell
with_right cells n to m = if nat_eq m n then record (cells m) { right = to } else cells m

-- the cells, except that one node now has this colour
unfoldable pub with_red : (ℕ → Cell) → ℕ → Bool → ℕ → Cell
with_red cells n red m = if nat_eq m n then record (cells m) { red = red } else cells m

-- whether the list contains the node
abbrev pub is_in : ℕ → List ℕ → Bool
is_in m [] = false
is_in m (n ∷ ns) = nat_eq m n || is_in m ns

-- the link is none, or its node passes the test
abbrev pub leads : (ℕ → Bool) → Option ℕ → Bool
leads good None = true
leads good (Some n) = good n

-- the first node that does not precede the probe
abbrev pub first_not_before : (ℕ → Bool) → List ℕ → Option ℕ
first_not_before before ns = find (λ n. not (before n)) ns

-- the last node that precedes the probe
abbrev pub last_before : (ℕ → Bool) → List ℕ → Option ℕ
last_before before ns = find before (reverse ns)

-- whether the node precedes or follows each node of the list
abbrev pub is_ordered_with : (ℕ → ℕ → Bool) → ℕ → List ℕ → Bool
is_ordered_with precedes n ns = list_all (λ m. precedes n m || precedes m n) ns

-- the ordered list with the node inserted before the first node that it precedes
abbrev pub insert_in_order : (ℕ → ℕ → Bool) → ℕ → List ℕ → List ℕ
insert_in_order precedes n [] = n ∷ []
insert_in_order precedes n (m ∷ ms) = if precedes n m then n ∷ m ∷ ms else m ∷ insert_in_order precedes n ms

-- the list without the node
abbrev pub without : ℕ → List ℕ → List ℕ
without n [] = []
without n (m ∷ ms) = if nat_eq n m then without n ms else m ∷ without n ms
