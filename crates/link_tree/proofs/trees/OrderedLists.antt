-- Ordered lists of nodes: how one splits at a node, and what stands in it.
use Rattle.std.proofs.Common.{◌≡◌, ℕ, Bool, true, false, ◌||◌, List, [], ◌∷◌, ◌++◌, nat_eq, refl, sym, ◌∙◌, ◌⊎◌, inl}
use Rattle.std.proofs.Common.{inr}
use Rattle.std.specs.List.{list_all}
use Rattle.std.proofs.lemmas.Bool.{and_parts, and_from, or_cases, or_parts, or_left, or_right, eqb-true, eq-eqb}
use Rattle.std.proofs.lemmas.Bool.{false≢true, true≢false, cases_Bool, false_from_ne_true, eqb-false}
use Rattle.std.proofs.lemmas.List.Folds.{list_all-append}
use Rattle.link_tree.specs.Tree.{is_sorted}
use Rattle.link_tree.specs.Nodes.{is_in}

-- a strict order of nodes: each precedes what a node precedes that it precedes, and none itself
pub record IsStrict (lt : ℕ → ℕ → Bool) : Type 0 where
  pub transitive : (a b c : ℕ) → lt a b ≡ true → lt b c ≡ true → lt a c ≡ true
  pub irreflexive : (n : ℕ) → lt n n ≡ false

-- a property of all nodes of a list holds for each
pub all_at : (p : ℕ → Bool) (ns : List ℕ) (m : ℕ) → list_all p ns ≡ true → is_in m ns ≡ true → p m ≡ true
all_at p [] m a i = absurd (false≢true i)
all_at p (n ∷ ns) m a i =
    let parts = and_parts (p n) (list_all p ns) a in
    elim (or_cases (nat_eq m n) (is_in m ns) i) [
      | inl e ↦ let e' = eqb-true m n e in rw e' parts.0
      | inr j ↦ all_at p ns m parts.1 j
    ]

-- a test that passes for each node of a list passes for the list
pub all_from : (p : ℕ → Bool) (ns : List ℕ) → ((m : ℕ) → is_in m ns ≡ true → p m ≡ true) → list_all p ns ≡ true
all_from p [] h = refl
all_from p (n ∷ ns) h =
    and_from (p n) (list_all p ns) (h n (or_left (nat_eq n n) (is_in n ns) (eq-eqb n n refl)))
    (all_from p ns (λ m i. h m (or_right (nat_eq m n) (is_in m ns) i)))

-- a node is in one of two lists, or in the other
pub is_in-append : (m : ℕ) (xs ys : List ℕ) → is_in m (xs ++ ys) ≡ (is_in m xs || is_in m ys)
is_in-append m [] ys = refl
is_in-append m (x ∷ xs) ys =
    let more = is_in-append m xs ys in
    elim (cases_Bool (nat_eq m x)) [
      | inl e ↦ rw e refl
      | inr e ↦ rw e more
    ]

-- a node of the front is in the list
pub in_left : (m : ℕ) (xs : List ℕ) (n : ℕ) (ys : List ℕ) → is_in m xs ≡ true → is_in m (xs ++ n ∷ ys) ≡ true
in_left m xs n ys i = is_in-append m xs (n ∷ ys) ∙ or_left (is_in m xs) (is_in m (n ∷ ys)) i

-- a node of the rest is in the list
pub in_right : (m : ℕ) (xs : List ℕ) (n : ℕ) (ys : List ℕ) → is_in m ys ≡ true → is_in m (xs ++ n ∷ ys) ≡ true
in_right m xs n ys i = is_in-append m xs (n ∷ ys)
    ∙ or_right (is_in m xs) (is_in m (n ∷ ys)) (or_right (nat_eq m n) (is_in m ys) i)

-- the node between front and rest is in the list
pub in_middle : (xs : List ℕ) (n : ℕ) (ys : List ℕ) → is_in n (xs ++ n ∷ ys) ≡ true
in_middle xs n ys = is_in-append n xs (n ∷ ys)
    ∙ or_right (is_in n xs) (is_in n (n ∷ ys)) (or_left (nat_eq n n) (is_in n ys) (eq-eqb n n refl))

-- a node of the whole is in one of the three parts
pub in_parts : (m : ℕ) (xs : List ℕ) (n : ℕ) (ys : List ℕ) → is_in m (xs ++ n ∷ ys) ≡ true
    → (is_in m xs ≡ true) ⊎ ((m ≡ n) ⊎ (is_in m ys ≡ true))
in_parts m xs n ys i =
    elim (or_cases (is_in m xs) (is_in m (n ∷ ys)) (sym (is_in-append m xs (n ∷ ys)) ∙ i)) [
      | inl a ↦ inl a
      | inr b ↦ elim (or_cases (nat_eq m n) (is_in m ys) b) [
        | inl e ↦ inr (inl (eqb-true m n e))
        | inr c ↦ inr (inr c)
      ]
    ]

-- a node outside the whole is outside the three parts
pub record IsOutside (m : ℕ) (xs : List ℕ) (n : ℕ) (ys : List ℕ) : Type 0 where
  pub left : is_in m xs ≡ false
  pub middle : m ≡ n → ⊥
  pub right : is_in m ys ≡ false

-- a node outside of a list is outside of its parts
pub outside_parts : (m : ℕ) (xs : List ℕ) (n : ℕ) (ys : List ℕ) → is_in m (xs ++ n ∷ ys) ≡ false → IsOutside m xs n ys
outside_parts m xs n ys o =
    let p = or_parts (is_in m xs) (is_in m (n ∷ ys)) (sym (is_in-append m xs (n ∷ ys)) ∙ o) in
    let q = or_parts (nat_eq m n) (is_in m ys) p.1 in
    record { left = p.0; middle = eqb-false m n q.0; right = q.1 }

-- an ordered list, split at a node
pub record Splits (lt : ℕ → ℕ → Bool) (xs : List ℕ) (n : ℕ) (ys : List ℕ) : Type 0 where
  pub left : is_sorted lt xs ≡ true
  pub below : list_all (λ m. lt m n) xs ≡ true
  pub above : list_all (lt n) ys ≡ true
  pub right : is_sorted lt ys ≡ true

-- a sorted list splits at a node
pub rises_split : (lt : ℕ → ℕ → Bool) (xs : List ℕ) (n : ℕ) (ys : List ℕ) → is_sorted lt (xs ++ n ∷ ys) ≡ true
    → Splits lt xs n ys
rises_split lt [] n ys h =
    let p = and_parts (list_all (lt n) ys) (is_sorted lt ys) h in
    record { left = refl; below = refl; above = p.0; right = p.1 }
rises_split lt (x ∷ xs) n ys h =
    let p = and_parts (list_all (lt x) (xs ++ n ∷ ys)) (is_sorted lt (xs ++ n ∷ ys)) h in
    let s = rises_split lt xs n ys p.1 in
    let q = and_parts (list_all (lt x) xs) (list_all (lt x) (n ∷ ys)) (sym (list_all-append (lt x) xs (n ∷ ys))
    ∙ p.0) in
    record {
      left = and_from (list_all (lt x) xs) (is_sorted lt xs) q.0 s.left;
      below = and_from (lt x n) (list_all (λ m. lt m n) xs) (and_parts (lt x n) (list_all (lt x) ys) q.1).0 s.below;
      above = s.above;
      right = s.right;
    }

module _ (lt : ℕ → ℕ → Bool) (transitive : (a b c : ℕ) → lt a b ≡ true → lt b c ≡ true → lt a c ≡ true) where
  -- a node after another is after each node before the other
  pub above_more : (x n : ℕ) (ys : List ℕ) → lt x n ≡ true → list_all (lt n) ys ≡ true → list_all (lt x) ys ≡ true
  above_more x n ys xn a = all_from (lt x) ys (λ m i. transitive x n m xn (all_at (lt n) ys m a i))

  -- two sorted parts and a node between them are sorted
  pub rises_join : (xs : List ℕ) (n : ℕ) (ys : List ℕ) → Splits lt xs n ys → is_sorted lt (xs ++ n ∷ ys) ≡ true
  rises_join [] n ys s = and_from (list_all (lt n) ys) (is_sorted lt ys) s.above s.right
  rises_join (x ∷ xs) n ys s =
      let p = and_parts (list_all (lt x) xs) (is_sorted lt xs) s.left in
      let q = and_parts (lt x n) (list_all (λ m. lt m n) xs) s.below in
      let more = rises_join xs n ys (record { left = p.1; below = q.1; above = s.above; right = s.right }) in
      let first : list_all (lt x) (xs ++ n ∷ ys) ≡ true =
      list_all-append (lt x) xs (n ∷ ys) ∙ and_from (list_all (lt x) xs) (list_all (lt x) (n ∷ ys)) p.0
      (and_from (lt x n) (list_all (lt x) ys) q.0 (above_more x n ys q.0 s.above)) in
      and_from (list_all (lt x) (xs ++ n ∷ ys)) (is_sorted lt (xs ++ n ∷ ys)) first more

module _ {lt : ℕ → ℕ → Bool} (strict : IsStrict lt) where
  -- the parts have no node in common
  pub not_left : (xs : List ℕ) (n : ℕ) (ys : List ℕ) → Splits lt xs n ys → is_in n xs ≡ false
  not_left xs n ys s =
      false_from_ne_true (is_in n xs) (λ i. true≢false (sym (all_at (λ m. lt m n) xs n s.below i)
      ∙ strict.irreflexive n))

  -- the node at which a list splits is not in the rest
  pub not_right : (xs : List ℕ) (n : ℕ) (ys : List ℕ) → Splits lt xs n ys → is_in n ys ≡ false
  not_right xs n ys s =
      false_from_ne_true (is_in n ys) (λ i. true≢false (sym (all_at (lt n) ys n s.above i) ∙ strict.irreflexive n))

  -- no node is both in the front and in the rest
  pub not_both : (xs : List ℕ) (n : ℕ) (ys : List ℕ) → Splits lt xs n ys → (m : ℕ) → is_in m xs ≡ true
      → is_in m ys ≡ false
  not_both xs n ys s m i =
      false_from_ne_true (is_in m ys)
      (λ j. true≢false (sym (strict.transitive m n m (all_at (λ k. lt k n) xs m s.below i)
      (all_at (lt n) ys m s.above j)) ∙ strict.irreflexive m))
