-- What the tests' table does, and what its searches tell.
use Rattle.std.proofs.Common.{◌≡◌, ℕ, ◌<◌, Bool, if◌then◌else◌, true, ◌||◌, Option, Some, List, [], ◌∷◌, length, nat_lt}
use Rattle.std.proofs.Common.{nat_eq, get_or, set, refl, sym, ap, arith, inl, inr}
use Rattle.std.proofs.lemmas.Bool.{ltb-false, lt-ltb, eqb-true, eq-eqb, or_left, or_right, cases_Bool, eqb-false}
use Rattle.std.proofs.lemmas.Bool.{and_parts, and_from}
use Rattle.std.proofs.lemmas.List.{get_or-set_same, get_or-set_other}
use mathlib.Core.Path.{fun_ext}
use Rattle.std.specs.List.{list_all}
use Rattle.link_tree.specs.Tree.{Cell, is_sorted}
use Rattle.link_tree.specs.Nodes.{is_in, with_left, with_right, with_red, first_not_before, is_ordered_with}
use Rattle.layer_tests.specs.Table.{link_of, table_cells}
use Rattle.layer_tests.specs.TableLaws.{table_transitive}
use Rattle.link_tree.proofs.Laws.{all_at, all_from, none_some, some_same}

-- cells that are read off a list, where one number of the list changes
cells_set : (cell : ℕ → ℕ → Cell) (change : Cell → Cell) (xs : List ℕ) (n v : ℕ) → n < length xs
    → cell n v ≡ change (cell n (get_or xs n 0))
    → (m : ℕ) → cell m (get_or (set xs n v) m 0)
    ≡ (if nat_eq m n then change (cell m (get_or xs m 0)) else cell m (get_or xs m 0))
cells_set cell change xs n v h e m = elim (cases_Bool (nat_eq m n)) [
  | inl k ↦
      let same = eqb-true m n k in
      let read : get_or (set xs n v) m 0 ≡ v = rw same (get_or-set_same xs n v 0 h) in
      rw (k, read, same) e
  | inr k ↦
      let read = get_or-set_other xs n m v 0 (eqb-false m n k) in
      rw (k, read) refl
]

-- the table with a left link set
pub table_set_left : (left right red : List ℕ) (n v : ℕ) (to : Option ℕ) → n < length left → link_of v ≡ to
    → table_cells (set left n v) right red ≡ with_left (table_cells left right red) n to
unfolding with_left
table_set_left left right red n v to h e =
    fun_ext (cells_set (λ m x. record {
      left = link_of x;
      right = link_of (get_or right m 0);
      red = nat_eq (get_or red m 0) 1;
    }) (λ c. record c { left = to }) left n v h
    (ap (λ (l : Option ℕ). record { left = l; right = link_of (get_or right n 0); red = nat_eq (get_or red n 0) 1 }) e))

-- the table with a right link set
pub table_set_right : (left right red : List ℕ) (n v : ℕ) (to : Option ℕ) → n < length right → link_of v ≡ to
    → table_cells left (set right n v) red ≡ with_right (table_cells left right red) n to
unfolding with_right
table_set_right left right red n v to h e =
    fun_ext (cells_set (λ m x. record {
      left = link_of (get_or left m 0);
      right = link_of x;
      red = nat_eq (get_or red m 0) 1;
    }) (λ c. record c { right = to }) right n v h
    (ap (λ (l : Option ℕ). record { left = link_of (get_or left n 0); right = l; red = nat_eq (get_or red n 0) 1 }) e))

-- the table with a colour set
pub table_set_red : (left right red : List ℕ) (n v : ℕ) (to : Bool) → n < length red → nat_eq v 1 ≡ to
    → table_cells left right (set red n v) ≡ with_red (table_cells left right red) n to
unfolding with_red
table_set_red left right red n v to h e =
    fun_ext (cells_set (λ m x. record {
      left = link_of (get_or left m 0);
      right = link_of (get_or right m 0);
      red = nat_eq x 1;
    }) (λ c. record c { red = to }) red n v h
    (ap (λ (b : Bool). record { left = link_of (get_or left n 0); right = link_of (get_or right n 0); red = b }) e))

-- a number that is not found has its place
pub place_unless_found : (x : ℕ) (ns : List ℕ) → is_sorted nat_lt ns ≡ true
    → (first_not_before (λ m. nat_lt m x) ns ≡ Some x → ⊥) → is_ordered_with nat_lt x ns ≡ true
place_unless_found x [] o f = refl
place_unless_found x (n ∷ ns) o f =
    let p = and_parts (list_all (nat_lt n) ns) (is_sorted nat_lt ns) o in
    elim (cases_Bool (nat_lt n x)) [
      | inl k ↦
          let g : first_not_before (λ m. nat_lt m x) ns ≡ Some x → ⊥ = rw k at f in
          and_from (nat_lt x n || nat_lt n x) (is_ordered_with nat_lt x ns) (or_right (nat_lt x n) (nat_lt n x) k)
          (place_unless_found x ns p.1 g)
      | inr k ↦
          let g : Some n ≡ Some x → ⊥ = rw k at f in
          let d : n ≡ x → ⊥ = λ e. g (ap Some e) in
          let above = lt-ltb x n (omega (arith, ltb-false n x k)) in
          and_from (nat_lt x n || nat_lt n x) (is_ordered_with nat_lt x ns) (or_left (nat_lt x n) (nat_lt n x) above)
          (all_from (λ m. nat_lt x m || nat_lt m x) ns (λ m i.
          or_left (nat_lt x m) (nat_lt m x) (table_transitive x n m above (all_at (nat_lt n) ns m p.0 i))))
    ]

-- a node that is found is in the list
pub in_if_found : (x : ℕ) (ns : List ℕ) → first_not_before (λ m. nat_lt m x) ns ≡ Some x → is_in x ns ≡ true
in_if_found x [] f = absurd (none_some x f)
in_if_found x (n ∷ ns) f = elim (cases_Bool (nat_lt n x)) [
  | inl k ↦ let g : first_not_before (λ m. nat_lt m x) ns ≡ Some x = rw k at f
      in or_right (nat_eq x n) (is_in x ns) (in_if_found x ns g)
  | inr k ↦ let g : Some n ≡ Some x = rw k at f
      in or_left (nat_eq x n) (is_in x ns) (eq-eqb x n (sym (some_same n x g)))
]
