-- The laws of the tests' table.
use Rattle.std.proofs.Common.{◌≡◌, ℕ, zero, suc, ◌≤◌, ◌<◌, ◌^◌, true, false, List, length, nat_lt, nat_eq, slice_index}
use Rattle.std.proofs.Common.{refl, arith, inl, inr}
use Rattle.std.proofs.lemmas.Bool.{ltb-true, lt-ltb, le-ltb, or_left, or_right, cases_Bool, eqb-false}
use Rattle.link_tree.specs.Nodes.{is_in, leads}
use Rattle.layer_tests.specs.Table.{link_of, table_cells, numbers_below}

in_below : (k n : ℕ) → n < k → is_in n (numbers_below k) ≡ true
in_below zero n h = absurd (omega arith)
in_below (suc k) n h = elim (cases_Bool (nat_eq n k)) [
  | inl e ↦ or_left (nat_eq n k) (is_in n (numbers_below k)) e
  | inr e ↦ or_right (nat_eq n k) (is_in n (numbers_below k)) (in_below k n (let d : n ≡ k → ⊥ = eqb-false n k e
      in omega arith))
]

pub table_finite : (ns : List ℕ) × (length ns ≤ 2 ^ 40) × ((n : ℕ) → nat_lt n 64 ≡ true → is_in n ns ≡ true)
table_finite = (numbers_below 64, omega arith, λ n h. in_below 64 n (ltb-true n 64 h))

link_leads : (v : ℕ) → leads (λ n. nat_lt n 64) (link_of v) ≡ true
link_leads v = elim (cases_Bool (nat_lt v 64)) [
  | inl e ↦ rw e e
  | inr e ↦ rw e refl
]

pub table_left : (left right red : List ℕ) (n : ℕ) → nat_lt n 64 ≡ true
    → leads (λ m. nat_lt m 64) (table_cells left right red n).left ≡ true
table_left left right red n h = link_leads (slice_index left n)

pub table_right : (left right red : List ℕ) (n : ℕ) → nat_lt n 64 ≡ true
    → leads (λ m. nat_lt m 64) (table_cells left right red n).right ≡ true
table_right left right red n h = link_leads (slice_index right n)

pub table_irreflexive : (n : ℕ) → nat_lt n n ≡ false
table_irreflexive n = le-ltb n n (omega arith)

pub table_transitive : (a b c : ℕ) → nat_lt a b ≡ true → nat_lt b c ≡ true → nat_lt a c ≡ true
table_transitive a b c h k = lt-ltb a c (omega (arith, ltb-true a b h, ltb-true b c k))

pub table_agrees : (probe a b : ℕ) → nat_lt a b ≡ true → nat_lt b probe ≡ true → nat_lt a probe ≡ true
table_agrees probe a b h k = table_transitive a b probe h k
