-- A tree over the offsets of a window at which a payload can begin has few nodes.
use Rattle.image_check.proofs.Common.{AreCellsOf, Cell, IsSearchTree, IsTrue, List, Option, Tree, WindowState, [], ap}
use Rattle.image_check.proofs.Common.{arith, before_irreflexive, bytes_of, cases_lt, eq-eqb, false≢true, fork, in_parts}
use Rattle.image_check.proofs.Common.{inl, inr, is_in, is_legal_size, is_target, is_target-PayloadBounds, leads, leaf}
use Rattle.image_check.proofs.Common.{length, nodes_of, or_left, or_right, refl, root_of, small_size, stands_before}
use Rattle.image_check.proofs.Common.{subst, suc, sym, true, zero, ℕ, ◌*◌, ◌+◌, ◌-◌, ◌/◌, ◌<◌, ◌==◌, ◌^◌, ◌∷◌, ◌≡◌, ◌≤◌}
use Rattle.image_check.proofs.Common.{◌⊎◌}
use Rattle.link_tree.proofs.Laws.{tree_limit}
use Rattle.image_check.specs.FreeNodes.{target_cells}
use Rattle.image_check.specs.FreeLaws.{before_transitive, targets_left, targets_right}

-- this many places from the first on
places : ℕ → List ℕ
places zero = []
places (suc k) = (144 + 16 * k) ∷ places k

length-places : (k : ℕ) → length (places k) ≡ k
unfolding places
length-places zero = refl
length-places (suc k) = ap suc (length-places k)

in_places : (k i : ℕ) → i < k → is_in (144 + 16 * i) (places k) ≡ true
unfolding places
in_places zero i l = absurd (omega arith)
in_places (suc k) i l = by_test (cases_lt i k) (in_places k i)
  where
    by_test : (i < k) ⊎ (k ≤ i) → (i < k → is_in (144 + 16 * i) (places k) ≡ true)
        → is_in (144 + 16 * i) (places (suc k)) ≡ true
    by_test (inl h) rest = or_right (144 + 16 * i == 144 + 16 * k) (is_in (144 + 16 * i) (places k)) (rest h)
    by_test (inr h) rest = or_left (144 + 16 * i == 144 + 16 * k) (is_in (144 + 16 * i) (places k))
        (eq-eqb (144 + 16 * i) (144 + 16 * k) (omega arith))

-- the offsets of a window at which a payload can begin
abbrev all_places : WindowState → List ℕ
all_places c = places (length c.bytes / 16 - 10)

listed : (c : WindowState) (n : ℕ) → is_target c n ≡ true → is_in n (all_places c) ≡ true
listed c n h =
    let p = is_target-PayloadBounds c n h in
    let whole = p.whole in
    let low = p.low in
    let high = p.high in
    let i = n / 16 - 9 in
    let e : 144 + 16 * (n / 16 - 9) ≡ n = omega arith in
    subst (λ k. is_in k (all_places c) ≡ true) e (in_places (length c.bytes / 16 - 10) (n / 16 - 9) (omega arith))

-- the nodes of a tree are places
nodes-places : (c : WindowState) (t : Tree) → AreCellsOf (target_cells c) t → leads (is_target c) (root_of t) ≡ true
    → (m : ℕ)
    → is_in m (nodes_of t) ≡ true → is_target c m ≡ true
nodes-places c leaf h r m i = absurd (false≢true i)
nodes-places c (fork red left n right) h r m i =
    let below = λ (o : Option ℕ). leads (is_target c) o ≡ true in
    let on_left = subst below (ap (λ (x : Cell). x.left) h.0) (targets_left c n r) in
    let on_right = subst below (ap (λ (x : Cell). x.right) h.0) (targets_right c n r) in
    elim (in_parts m (nodes_of left) n (nodes_of right) i) [
      | inl a ↦ nodes-places c left h.1 on_left m a
      | inr b ↦ elim b [
        | inl e ↦ subst (λ k. is_target c k ≡ true) (sym e) r
        | inr d ↦ nodes-places c right h.2 on_right m d
      ]
    ]

-- a tree over places of the window has at most as many nodes as places
pub nodes-few : (c : WindowState) (root : Option ℕ) (t : Tree) → IsTrue (is_legal_size (length c.bytes))
    → leads (is_target c) root ≡ true
    → IsSearchTree (stands_before (bytes_of c.bytes)) (target_cells c) root t → length (nodes_of t) < 2 ^ 26 - 1
nodes-few c root t legal good s =
    let m = bytes_of c.bytes in
    let below = subst (λ (o : Option ℕ). leads (is_target c) o ≡ true) s.tree.root good in
    let few =
    tree_limit (stands_before m) (before_transitive m) (before_irreflexive m) (all_places c) t s.ordered
    (λ n i. listed c n (nodes-places c t s.tree.holds below n i)) in
    let count = length-places (length c.bytes / 16 - 10) in
    let small = small_size (length c.bytes) legal in
    omega arith
