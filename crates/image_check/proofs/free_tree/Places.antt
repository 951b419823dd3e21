-- Links of any value, and searches for nodes in an ordered list.
use Rattle.image_check.proofs.Common.{IsTrue, List, None, Option, Some, WindowState, [], all_at, all_from, and_from}
use Rattle.image_check.proofs.Common.{and_parts, ap, arith, both_ways, bytes_of, cases_Bool, cond-false, cond-true}
use Rattle.image_check.proofs.Common.{eq-eqb, eqb-true, false, false≢true, inl, inr, is_bad, is_in, is_legal_size}
use Rattle.image_check.proofs.Common.{is_target, is_target-from, is_sorted, leads, length, link_at, list_all, nat_eq}
use Rattle.image_check.proofs.Common.{ne_eqb, not, not-false, not-true, or_cases, or_left, or_right, refl, some_same}
use Rattle.image_check.proofs.Common.{subst, sym, true, ℕ, ◌+◌, ◌==◌, ◌∙◌, ◌∷◌, ◌≡◌}
use Rattle.std.proofs.Common.{Bool}
use Rattle.std.specs.List.{find}
use Rattle.offset_link.specs.Link.{is_handle_offset}
use Rattle.link_tree.specs.Nodes.{first_not_before}
use Rattle.link_tree.proofs.Laws.{none_some}
use Rattle.image_check.specs.FreeNodes.{target_cells, good_target}

-- ---- links

-- a good link is read as it is, and a bad one as null
pub good-good_target : (size : ℕ) (o : Option ℕ) → is_bad size o ≡ false → good_target size o ≡ o
unfolding good_target
good-good_target size None h = refl
good-good_target size (Some n) h = cond-true (is_handle_offset size n) (Some n) None (not-false (is_handle_offset
    size n) h)

-- a link to no such offset is read as none
pub bad-good_target : (size : ℕ) (o : Option ℕ) → is_bad size o ≡ true → good_target size o ≡ None
unfolding good_target
bad-good_target size None h = refl
bad-good_target size (Some n) h = cond-false (is_handle_offset size n) (Some n) None (not-true (is_handle_offset
    size n) h)

-- a link that is not bad is null or leads to such an offset
pub good-leads : (c : WindowState) (o : Option ℕ) → IsTrue (is_legal_size (length c.bytes))
    → is_bad (length c.bytes) o ≡ false → leads (is_target c) o ≡ true
good-leads c None size h = refl
good-leads c (Some n) size h = is_target-from c n size (not-false (is_handle_offset (length c.bytes) n) h)

-- the left link as it is read
pub left-is : (c : WindowState) (n : ℕ) (o : Option ℕ) → o ≡ good_target (length c.bytes) (link_at (bytes_of c.bytes) n)
    → o ≡ (target_cells c n).left
unfolding target_cells
left-is c n o e = e

-- the right link as it is read
pub right-is : (c : WindowState) (n : ℕ) (o : Option ℕ)
    → o ≡ good_target (length c.bytes) (link_at (bytes_of c.bytes) (n + 8)) → o ≡ (target_cells c n).right
unfolding target_cells
right-is c n o e = e

-- ---- a search

-- a node of an ordered list is the first that does not precede it
pub found-in : (lt : ℕ → ℕ → Bool) (before : ℕ → Bool) (n : ℕ) (ns : List ℕ) → ((k : ℕ) → before k ≡ lt k n)
    → lt n n ≡ false → is_sorted lt ns ≡ true → is_in n ns ≡ true → first_not_before before ns ≡ Some n
found-in lt before n [] b i r h = absurd (false≢true h)
found-in lt before n (m ∷ ms) b i r h =
    let parts = and_parts (list_all (lt m) ms) (is_sorted lt ms) r in
    elim (cases_Bool (n == m)) [
      | inl e ↦
          let same = eqb-true n m e in
          let here : not (before m) ≡ true = ap not (b m ∙ ap (λ k. lt k n) (sym same) ∙ i) in
          cond-true (not (before m)) (Some m) (find (λ k. not (before k)) ms) here ∙ ap (λ (k : ℕ). Some k) (sym same)
      | inr e ↦ elim (or_cases (n == m) (is_in n ms) h) [
        | inl f ↦ absurd (both_ways (n == m) e f)
        | inr f ↦
            let past : not (before m) ≡ false = ap not (b m ∙ all_at (lt m) ms n parts.0 f) in
            cond-false (not (before m)) (Some m) (find (λ k. not (before k)) ms) past
            ∙ found-in lt before n ms b i parts.1 f
      ]
    ]

-- the node that is found is in the list
pub found-is : (before : ℕ → Bool) (n : ℕ) (ns : List ℕ) → first_not_before before ns ≡ Some n → is_in n ns ≡ true
found-is before n [] e = absurd (none_some n e)
found-is before n (m ∷ ms) e = elim (cases_Bool (not (before m))) [
  | inl h ↦ or_left (n == m) (is_in n ms)
      (eq-eqb n m (sym (some_same m n (sym (cond-true (not (before m)) (Some m) (find (λ k. not (before k)) ms) h)
      ∙ e))))
  | inr h ↦ or_right (n == m) (is_in n ms)
      (found-is before n ms (sym (cond-false (not (before m)) (Some m) (find (λ k. not (before k)) ms) h) ∙ e))
]

-- so a search decides whether a node is in the list
pub found-tells : (lt : ℕ → ℕ → Bool) (before : ℕ → Bool) (n found : ℕ) (ns : List ℕ)
    → ((k : ℕ) → before k ≡ lt k n) → lt n n ≡ false → is_sorted lt ns ≡ true
    → Some found ≡ first_not_before before ns → nat_eq found n ≡ is_in n ns
found-tells lt before n found ns b i r e = elim (cases_Bool (is_in n ns)) [
  | inl h ↦ eq-eqb found n (some_same found n (e ∙ found-in lt before n ns b i r h)) ∙ sym h
  | inr h ↦ ne_eqb found n (λ same.
      both_ways (is_in n ns) h (subst (λ k. is_in k ns ≡ true) same (found-is before found ns (sym e)))) ∙ sym h
]

-- a node that is not in the order is found nowhere
pub nothing-tells : (lt : ℕ → ℕ → Bool) (before : ℕ → Bool) (n : ℕ) (ns : List ℕ) → ((k : ℕ) → before k ≡ lt k n)
    → lt n n ≡ false → is_sorted lt ns ≡ true
    → None ≡ first_not_before before ns → false ≡ is_in n ns
nothing-tells lt before n ns b i r e = elim (cases_Bool (is_in n ns)) [
  | inl h ↦ absurd (none_some n (e ∙ found-in lt before n ns b i r h))
  | inr h ↦ sym h
]

-- ---- two ordered lists, one among the other

among-tail : (lt : ℕ → ℕ → Bool) → ((a b c : ℕ) → lt a b ≡ true → lt b c ≡ true → lt a c ≡ true)
    → ((n : ℕ) → lt n n ≡ false) → (x : ℕ) (xs : List ℕ) (y : ℕ) (ys : List ℕ)
    → is_sorted lt (x ∷ xs) ≡ true → is_sorted lt (y ∷ ys) ≡ true
    → ((k : ℕ) → is_in k (x ∷ xs) ≡ true → is_in k (y ∷ ys) ≡ true) → (k : ℕ) → is_in k xs ≡ true → is_in k ys ≡ true
among-tail lt trans irr x xs y ys r s sub k h =
    let rx = and_parts (list_all (lt x) xs) (is_sorted lt xs) r in
    let ry = and_parts (list_all (lt y) ys) (is_sorted lt ys) s in
    let x_k = all_at (lt x) xs k rx.0 h in
    elim (or_cases (k == y) (is_in k ys) (sub k (or_right (k == x) (is_in k xs) h))) [
      | inr i ↦ i
      | inl e ↦
          let k_y = eqb-true k y e in
          absurd (elim (or_cases (x == y) (is_in x ys) (sub x (or_left (x == x) (is_in x xs) (eq-eqb x x refl)))) [
            | inl f ↦ both_ways (lt x k) (subst (λ j. lt x j ≡ false) (eqb-true x y f ∙ sym k_y) (irr x)) x_k
            | inr f ↦ both_ways (lt k k) (irr k)
                (trans k x k (subst (λ j. lt j x ≡ true) (sym k_y) (all_at (lt y) ys x ry.0 f)) x_k)
          ])
    ]

-- two ordered lists with the same members are one
pub all-of : (lt : ℕ → ℕ → Bool) → ((a b c : ℕ) → lt a b ≡ true → lt b c ≡ true → lt a c ≡ true)
    → ((n : ℕ) → lt n n ≡ false) → (xs ys : List ℕ)
    → is_sorted lt xs ≡ true → is_sorted lt ys ≡ true → ((k : ℕ) → is_in k xs ≡ true → is_in k ys ≡ true)
    → length xs ≡ length ys → xs ≡ ys
all-of lt trans irr [] [] r s sub l = refl
all-of lt trans irr [] (y ∷ ys) r s sub l = absurd (omega arith)
all-of lt trans irr (x ∷ xs) [] r s sub l = absurd (omega arith)
all-of lt trans irr (x ∷ xs) (y ∷ ys) r s sub l =
    let rx = and_parts (list_all (lt x) xs) (is_sorted lt xs) r in
    let ry = and_parts (list_all (lt y) ys) (is_sorted lt ys) s in
    let rest = among-tail lt trans irr x xs y ys r s sub in
    let tails = all-of lt trans irr xs ys rx.1 ry.1 rest (omega arith) in
    elim (or_cases (x == y) (is_in x ys) (sub x (or_left (x == x) (is_in x xs) (eq-eqb x x refl)))) [
      | inl e ↦ ap (λ (zs : List ℕ). x ∷ zs) tails ∙ ap (λ k. k ∷ ys) (eqb-true x y e)
      | inr e ↦ absurd (both_ways (lt x x) (irr x)
          (all_at (lt x) xs x rx.0 (subst (λ (zs : List ℕ). is_in x zs ≡ true) (sym tails) e)))
    ]

-- a list that rises by one order rises by another that agrees on its nodes
pub is_sorted-same : (lt lt' : ℕ → ℕ → Bool) (ns : List ℕ)
    → ((a b : ℕ) → is_in a ns ≡ true → is_in b ns ≡ true → lt' a b ≡ lt a b) → is_sorted lt ns ≡ true
    → is_sorted lt' ns ≡ true
is_sorted-same lt lt' [] same r = refl
is_sorted-same lt lt' (n ∷ ns) same r =
    let parts = and_parts (list_all (lt n) ns) (is_sorted lt ns) r in
    let first = all_from (lt' n) ns (λ m i.
    same n m (or_left (n == n) (is_in n ns) (eq-eqb n n refl)) (or_right (m == n) (is_in m ns) i)
    ∙ all_at (lt n) ns m parts.0 i) in
    and_from (list_all (lt' n) ns) (is_sorted lt' ns) first (is_sorted-same lt lt' ns (λ a b i j.
    same a b (or_right (a == n) (is_in a ns) i) (or_right (b == n) (is_in b ns) j)) parts.1)
