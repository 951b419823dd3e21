-- Ordered trees over two ways to read the nodes: where no node is read as its own child, both read one tree.
use Rattle.image_check.proofs.Common.{AreCellsOf, Cell, List, Some, Tree, [], all_at, all_from, and_from, and_parts, ap}
use Rattle.image_check.proofs.Common.{both_ways, eqb-true, false, false≢true, fork, in_parts, inl, inr, is_in}
use Rattle.image_check.proofs.Common.{is_sorted, leads, leaf, list_all, nodes_of, or_cases, refl, rise_by, root_of}
use Rattle.image_check.proofs.Common.{subst, sym, true, ℕ, ◌&&◌, ◌++◌, ◌==◌, ◌∙◌, ◌∷◌, ◌≡◌}
use Rattle.std.proofs.Common.{Bool}
use Rattle.link_tree.proofs.Laws.{above_more, in_left, in_middle, root_in}

-- ---- the parts of an ordered list

pub record AreParts (lt : ℕ → ℕ → Bool) (xs : List ℕ) (n : ℕ) (ys : List ℕ) : Type 0 where
  pub left : is_sorted lt xs ≡ true
  pub right : is_sorted lt ys ≡ true
  pub not_left : is_in n xs ≡ true → ⊥
  pub not_right : is_in n ys ≡ true → ⊥

pub is_sorted-parts : (lt : ℕ → ℕ → Bool) → ((n : ℕ) → lt n n ≡ false) → (xs : List ℕ) (n : ℕ) (ys : List ℕ)
    → is_sorted lt (xs ++ n ∷ ys) ≡ true → AreParts lt xs n ys
is_sorted-parts lt irr [] n ys h =
    let p = and_parts (list_all (lt n) ys) (is_sorted lt ys) h in
    record {
      left = refl;
      right = p.1;
      not_left = λ i. false≢true i;
      not_right = λ i. both_ways (lt n n) (irr n) (all_at (lt n) ys n p.0 i);
    }
is_sorted-parts lt irr (x ∷ xs) n ys h =
    let p = and_parts (list_all (lt x) (xs ++ n ∷ ys)) (is_sorted lt (xs ++ n ∷ ys)) h in
    let rest = is_sorted-parts lt irr xs n ys p.1 in
    record {
      left = and_from (list_all (lt x) xs) (is_sorted lt xs)
          (all_from (lt x) xs (λ m i. all_at (lt x) (xs ++ n ∷ ys) m p.0 (in_left m xs n ys i))) rest.left;
      right = rest.right;
      not_left = λ i. elim (or_cases (n == x) (is_in n xs) i) [
        | inl e ↦ both_ways (lt x n) (ap (lt x) (eqb-true n x e)
            ∙ irr x) (all_at (lt x) (xs ++ n ∷ ys) n p.0 (in_middle xs n ys))
        | inr k ↦ rest.not_left k
      ];
      not_right = rest.not_right;
    }

-- ---- nodes that are no children of themselves

-- both ways read the same tree
pub same-cells : (lt : ℕ → ℕ → Bool) → ((n : ℕ) → lt n n ≡ false) → (f g : ℕ → Cell) (t : Tree) → AreCellsOf f t
    → is_sorted lt (nodes_of t) ≡ true
    → ((n : ℕ) → ((f n).left ≡ Some n → ⊥) → ((f n).right ≡ Some n → ⊥) → g n ≡ f n) → (m : ℕ)
    → is_in m (nodes_of t) ≡ true → g m ≡ f m
same-cells lt irr f g leaf w r same m i = absurd (false≢true i)
same-cells lt irr f g (fork red l n y) w r same m i =
    let p = is_sorted-parts lt irr (nodes_of l) n (nodes_of y) r in
    let left : (f n).left ≡ root_of l = ap (λ (c : Cell). c.left) w.0 in
    let right : (f n).right ≡ root_of y = ap (λ (c : Cell). c.right) w.0 in
    elim (in_parts m (nodes_of l) n (nodes_of y) i) [
      | inl a ↦ same-cells lt irr f g l w.1 p.left same m a
      | inr (inl e) ↦ subst (λ k. g k ≡ f k) (sym e)
          (same n (λ s. p.not_left (root_in f n l (record { root = sym s ∙ left; holds = w.1 }))) (λ s.
          p.not_right (root_in f n y (record { root = sym s ∙ right; holds = w.2 }))))
      | inr (inr a) ↦ same-cells lt irr f g y w.2 p.right same m a
    ]

-- all nodes of a tree are good if its root is, and links of good nodes lead to good ones
pub nodes-good : (good : ℕ → Bool) (f : ℕ → Cell) → ((n : ℕ) → good n ≡ true → leads good (f n).left ≡ true)
    → ((n : ℕ) → good n ≡ true → leads good (f n).right ≡ true)
    → (t : Tree) → AreCellsOf f t → leads good (root_of t) ≡ true → (m : ℕ) → is_in m (nodes_of t) ≡ true
    → good m ≡ true
nodes-good good f cl cr leaf w g m i = absurd (false≢true i)
nodes-good good f cl cr (fork red l n y) w g m i =
    let left : (f n).left ≡ root_of l = ap (λ (c : Cell). c.left) w.0 in
    let right : (f n).right ≡ root_of y = ap (λ (c : Cell). c.right) w.0 in
    elim (in_parts m (nodes_of l) n (nodes_of y) i) [
      | inl a ↦ nodes-good good f cl cr l w.1 (subst (λ o. leads good o ≡ true) left (cl n g)) m a
      | inr (inl e) ↦ subst (λ k. good k ≡ true) (sym e) g
      | inr (inr a) ↦ nodes-good good f cl cr y w.2 (subst (λ o. leads good o ≡ true) right (cr n g)) m a
    ]

-- ---- each before the next, and each before all that follow

below-all : (lt : ℕ → ℕ → Bool) → ((a b c : ℕ) → lt a b ≡ true → lt b c ≡ true → lt a c ≡ true)
    → (n : ℕ) (ns : List ℕ) → rise_by lt (n ∷ ns) ≡ true → list_all (lt n) ns ≡ true
below-all lt trans n [] h = refl
below-all lt trans n (o ∷ ns) h =
    let p = and_parts (lt n o) (rise_by lt (o ∷ ns)) h in
    and_from (lt n o) (list_all (lt n) ns) p.0 (above_more lt trans n o ns p.0 (below-all lt trans o ns p.1))

rise-tail : (lt : ℕ → ℕ → Bool) (n : ℕ) (ns : List ℕ) → rise_by lt (n ∷ ns) ≡ true → rise_by lt ns ≡ true
rise-tail lt n [] h = refl
rise-tail lt n (o ∷ ns) h = (and_parts (lt n o) (rise_by lt (o ∷ ns)) h).1

-- a list that rises step by step is sorted
pub is_sorted-from : (lt : ℕ → ℕ → Bool) → ((a b c : ℕ) → lt a b ≡ true → lt b c ≡ true → lt a c ≡ true)
    → (ns : List ℕ) → rise_by lt ns ≡ true → is_sorted lt ns ≡ true
is_sorted-from lt trans [] h = refl
is_sorted-from lt trans (n ∷ ns) h =
    and_from (list_all (lt n) ns) (is_sorted lt ns) (below-all lt trans n ns h)
    (is_sorted-from lt trans ns (rise-tail lt n ns h))

-- a sorted list rises step by step
pub is_sorted-next : (lt : ℕ → ℕ → Bool) (ns : List ℕ) → is_sorted lt ns ≡ true → rise_by lt ns ≡ true
is_sorted-next lt [] h = refl
is_sorted-next lt (n ∷ []) h = refl
is_sorted-next lt (n ∷ o ∷ ns) h =
    let p = and_parts (lt n o && list_all (lt n) ns) (is_sorted lt (o ∷ ns)) h in
    let q = and_parts (lt n o) (list_all (lt n) ns) p.0 in
    and_from (lt n o) (rise_by lt (o ∷ ns)) q.0 (is_sorted-next lt (o ∷ ns) p.1)
