-- How many nodes a tree has at most.
use Rattle.std.proofs.Common.{◌≡◌, ℕ, ◌+◌, ◌≤◌, ◌^◌, Bool, true, false, ◌&&◌, cond, Option, Some, None, List, [], ◌∷◌}
use Rattle.std.proofs.Common.{length, nat_eq, refl, sym, ap, ◌∙◌, arith, length-append, inl, inr, subst}
use Rattle.std.proofs.lemmas.Bool.{and_parts, and_from, or_cases, eqb-true, cases_Bool, true≢false, false≢true}
use Rattle.std.proofs.lemmas.Bool.{and_left, and_right}
use Rattle.link_tree.specs.Tree.{Cell, Tree, leaf, fork, root_of, nodes_of, IsTree, IsSearchTree, is_sorted, height}
use Rattle.link_tree.specs.Nodes.{is_in, leads}
use Rattle.link_tree.specs.Between.{is_above, is_below, is_between, count_between}
use Rattle.link_tree.proofs.trees.OrderedLists.{IsStrict, rises_split, all_at, in_left, in_right, in_middle, in_parts}
use Rattle.link_tree.proofs.trees.Heights.{height_bits, bits_most}

-- each node that a good link leads to is good, where links of good nodes are
pub tree_good : (h : ℕ → Cell) (good : ℕ → Bool) → ((n : ℕ) → good n ≡ true → leads good (h n).left ≡ true)
    → ((n : ℕ) → good n ≡ true → leads good (h n).right ≡ true)
    → (t : Tree) (link : Option ℕ) → IsTree h link t → leads good link ≡ true → (m : ℕ) → is_in m (nodes_of t) ≡ true
    → good m ≡ true
tree_good h good cl cr leaf link w k m i = absurd (false≢true i)
tree_good h good cl cr (fork red l n r) link w k m i =
    let here : good n ≡ true = subst (λ (o : Option ℕ). leads good o ≡ true) w.root k in
    let el : (h n).left ≡ root_of l = ap (λ (c : Cell). c.left) w.holds.0 in
    let er : (h n).right ≡ root_of r = ap (λ (c : Cell). c.right) w.holds.0 in
    elim (in_parts m (nodes_of l) n (nodes_of r) i) [
      | inl a ↦ tree_good h good cl cr l (h n).left (record { root = el; holds = w.holds.1 }) (cl n here) m a
      | inr b ↦ elim b [
        | inl e ↦ rw e here
        | inr d ↦ tree_good h good cl cr r (h n).right (record { root = er; holds = w.holds.2 }) (cr n here) m d
      ]
    ]

test_count : Bool → ℕ
test_count b = cond b 1 0

-- as many nodes as there are lie between no bounds
pub count_all : (lt : ℕ → ℕ → Bool) (ns : List ℕ) → count_between lt None None ns ≤ length ns
count_all lt [] = omega arith
count_all lt (n ∷ ns) = omega (arith, count_all lt ns)

module _ {lt : ℕ → ℕ → Bool} (strict : IsStrict lt) where
  -- above a node that is above a bound is above the bound
  pub above_less : (low : Option ℕ) (n m : ℕ) → is_above lt low n ≡ true → lt n m ≡ true → is_above lt low m ≡ true
  above_less None n m a b = refl
  above_less (Some k) n m a b = strict.transitive k n m a b

  -- below a node that is below a bound is below the bound
  pub below_less : (high : Option ℕ) (n m : ℕ) → is_below lt n high ≡ true → lt m n ≡ true → is_below lt m high ≡ true
  below_less None n m a b = refl
  below_less (Some k) n m a b = strict.transitive m n k b a

  -- a node between low and n, or between n and high, is between low and high, and not both
  one_side : (low high : Option ℕ) (n m : ℕ) → is_between lt low n high ≡ true
      → test_count (is_between lt low m (Some n)) + test_count (is_between lt (Some n) m high) ≤ test_count
      (is_between lt low m high)
  unfolding test_count
  one_side low high n m b =
      let p = and_parts (is_above lt low n) (is_below lt n high) b in
      elim (cases_Bool (is_above lt low m && lt m n)) [
        | inl e ↦
            let q = and_parts (is_above lt low m) (lt m n) e in
            let both : is_between lt low m high ≡ true = and_from (is_above lt low m) (is_below lt m high) q.0
            (below_less high n m p.1 q.1) in
            let no : lt n m ≡ false = elim (cases_Bool (lt n m)) [
              | inl k ↦ absurd (true≢false (sym (strict.transitive n m n k q.1) ∙ strict.irreflexive n))
              | inr k ↦ k
            ] in
            rw (e, both, no) (omega arith)
        | inr e ↦ elim (cases_Bool (lt n m && is_below lt m high)) [
          | inl k ↦
              let q = and_parts (lt n m) (is_below lt m high) k in
              let both : is_between lt low m high ≡ true = and_from (is_above lt low m) (is_below lt m high)
              (above_less low n m p.0 q.0) q.1 in
              rw (e, k, both) (omega arith)
          | inr k ↦ rw (e, k) (omega arith)
        ]
      ]

  count_sides : (low high : Option ℕ) (n : ℕ) (ns : List ℕ) → is_between lt low n high ≡ true
      → count_between lt low (Some n) ns + count_between lt (Some n) high ns ≤ count_between lt low high ns
  unfolding test_count
  count_sides low high n [] b = omega arith
  count_sides low high n (m ∷ ns) b = omega (arith, one_side low high n m b, count_sides low high n ns b)

  self_count : (low high : Option ℕ) (n : ℕ) → is_between lt low n high ≡ true
      → test_count (is_between lt low n (Some n)) + test_count (is_between lt (Some n) n high) + 1 ≤ test_count
      (is_between lt low n high)
  unfolding test_count
  self_count low high n b =
      let no = strict.irreflexive n in
      let a : (is_above lt low n && lt n n) ≡ false = and_right (is_above lt low n) (lt n n) no in
      let k : (lt n n && is_below lt n high) ≡ false = and_left (lt n n) (is_below lt n high) no in
      rw (a, k, b) (omega arith)

  -- a node of the list parts those between low and high
  pub count_split : (low high : Option ℕ) (n : ℕ) (ns : List ℕ) → is_between lt low n high ≡ true → is_in n ns ≡ true
      → count_between lt low (Some n) ns + count_between lt (Some n) high ns + 1 ≤ count_between lt low high ns
  unfolding test_count
  count_split low high n [] b i = absurd (false≢true i)
  count_split low high n (m ∷ ns) b i =
      elim (or_cases (nat_eq n m) (is_in n ns) i) [
        | inl e ↦
            let e' = eqb-true n m e in
            rw (← e') (omega (arith, self_count low high n b, count_sides low high n ns b))
        | inr j ↦ omega (arith, one_side low high n m b, count_split low high n ns b j)
      ]

  -- a tree between low and high has no more nodes than the list has there
  pub count_tree : (ns : List ℕ) (t : Tree) (low high : Option ℕ) → is_sorted lt (nodes_of t) ≡ true
      → ((m : ℕ) → is_in m (nodes_of t) ≡ true → is_between lt low m high ≡ true)
      → ((m : ℕ) → is_in m (nodes_of t) ≡ true → is_in m ns ≡ true) → length (nodes_of t) ≤ count_between lt low high ns
  count_tree ns leaf low high o b i = omega arith
  count_tree ns (fork red l n r) low high o b i =
      let xs = nodes_of l in
      let ys = nodes_of r in
      let sp = rises_split lt xs n ys o in
      let cl = count_tree ns l low (Some n) sp.left
      (λ m j. and_from (is_above lt low m) (lt m n) (and_parts (is_above lt low m) (is_below lt m high)
      (b m (in_left m xs n ys j))).0 (all_at (λ k. lt k n) xs m sp.below j)) (λ m j. i m (in_left m xs n ys j)) in
      let cr = count_tree ns r (Some n) high sp.right
      (λ m j. and_from (lt n m) (is_below lt m high) (all_at (lt n) ys m sp.above j)
      (and_parts (is_above lt low m) (is_below lt m high) (b m (in_right m xs n ys j))).1)
      (λ m j. i m (in_right m xs n ys j)) in
      omega (
        arith,
        cl,
        cr,
        count_split low high n ns (b n (in_middle xs n ys)) (i n (in_middle xs n ys)),
        length-append xs (n ∷ ys),
      )

  -- an ordered tree of nodes of the list has no more nodes than the list
  pub tree_limit : (ns : List ℕ) (t : Tree) → is_sorted lt (nodes_of t) ≡ true
      → ((m : ℕ) → is_in m (nodes_of t) ≡ true → is_in m ns ≡ true) → length (nodes_of t) ≤ length ns
  tree_limit ns t o i = omega (arith, count_tree ns t None None o (λ m j. refl) i, count_all lt ns)

-- nodes, of which there are finitely many, with links that lead to nodes
pub record AreLinked (good : ℕ → Bool) (h : ℕ → Cell) : Type 0 where
  pub finite : (ns : List ℕ) × (length ns ≤ 2 ^ 40) × ((n : ℕ) → good n ≡ true → is_in n ns ≡ true)
  pub left : (n : ℕ) → good n ≡ true → leads good (h n).left ≡ true
  pub right : (n : ℕ) → good n ≡ true → leads good (h n).right ≡ true

module _ {good : ℕ → Bool} {h : ℕ → Cell} (linked : AreLinked good h) {link : Option ℕ} {t : Tree} where
  -- each node of a tree with good links is good
  pub tree_node : IsTree h link t → leads good link ≡ true → (m : ℕ) → is_in m (nodes_of t) ≡ true → good m ≡ true
  tree_node w k = tree_good h good linked.left linked.right t link w k

  -- a search tree of nodes is no higher than 80
  pub height_limit : {lt : ℕ → ℕ → Bool} → IsStrict lt → IsSearchTree lt h link t → leads good link ≡ true
      → (height t ≤ 80) × (length (nodes_of t) ≤ 2 ^ 40)
  height_limit strict s k =
      let fits : length (nodes_of t) ≤ length linked.finite.0 =
      tree_limit strict linked.finite.0 t s.ordered (λ m i. linked.finite.2 m (tree_node s.tree k m i)) in
      let few = linked.finite.1 in
      (omega (arith, height_bits t s.red_black, bits_most (length (nodes_of t)) (omega arith)), omega arith)
