-- The listing of a tree, from the listings of its two subtrees.
use Rattle.std.proofs.Common.{◌≡◌, ◌≢◌, ℕ, suc, ◌+◌, ◌-◌, ◌<◌, ◌≤◌, Bool, true, false, not, Option, Some, List, ◌∷◌}
use Rattle.std.proofs.Common.{◌++◌, length, set, min, refl, sym, ap, ◌∙◌, arith, inl, inr, length-append, length-set}
use Rattle.std.specs.List.{list_all}
use Rattle.std.proofs.lemmas.Bool.{true≢false, cases_Bool, false_from_ne_true, not_from_false}
use Rattle.link_tree.specs.Tree.{Cell, Tree, leaf, fork, nodes_of, IsTree, height}
use Rattle.link_tree.specs.Listing.{IsLowSearchTree, Lists, nodes_from, placed, skipped}
use Rattle.link_tree.proofs.trees.Linked.{open_tree}
use Rattle.link_tree.proofs.trees.OrderedLists.{all_at, all_from, rises_split}
use Rattle.link_tree.proofs.listing.Rows.{all_listed, nodes_from_left, nodes_from_right, placed_append, placed_full}
use Rattle.link_tree.proofs.listing.Rows.{placed_length}

-- ---- a tree at a node

-- the left and the right subtree of a node; they are ordered and have one level less. If the node precedes a probe, so
-- do all of the left one, and if it does not, none of the right one does
pub record AreParts (lt : ℕ → ℕ → Bool) (h : ℕ → Cell) (before : ℕ → Bool) (n levels : ℕ)
    (left_link right_link : Option ℕ) (t : Tree) : Type 0 where
  pub left : Tree
  pub right : Tree
  pub is : t ≡ fork (h n).red left n right
  pub positive : 0 < levels
  pub left_below : IsLowSearchTree lt h left_link (levels - 1) left
  pub right_below : IsLowSearchTree lt h right_link (levels - 1) right
  pub size : length (nodes_of t) ≡ length (nodes_of left) + length (nodes_of right) + 1
  pub left_before : before n ≡ true → list_all before (nodes_of left) ≡ true
  pub right_from : before n ≡ false → list_all (λ m. not (before m)) (nodes_of right) ≡ true

-- an ordered tree behind a link to a node has two ordered trees
pub parts_sorted : {lt : ℕ → ℕ → Bool} {h : ℕ → Cell} (before : ℕ → Bool) (n levels : ℕ)
    (link left_link right_link : Option ℕ) (t : Tree)
    → ((a b : ℕ) → lt a b ≡ true → before b ≡ true → before a ≡ true)
    → link ≡ Some n → left_link ≡ (h n).left → right_link ≡ (h n).right → IsLowSearchTree lt h link levels t
    → AreParts lt h before n levels left_link right_link t
parts_sorted {lt = lt} {h = h} before n levels link left_link right_link t agrees e left right b =
    let w : IsTree h (Some n) t = rw e at b.tree in
    let o = open_tree h n t w in
    let low = rw o.is at b.low in
    let l = nodes_of o.left in
    let r = nodes_of o.right in
    let sp = rises_split lt l n r (rw o.is at b.ordered) in
    record {
      left = o.left;
      right = o.right;
      is = o.is;
      positive = omega arith;
      left_below = record { tree = rw left o.left_tree; ordered = sp.left; low = omega arith };
      right_below = record { tree = rw right o.right_tree; ordered = sp.right; low = omega arith };
      size = ap (λ u. length (nodes_of u)) o.is ∙ omega (arith, length-append l (n ∷ r));
      left_before = λ k. all_from before l (λ m i. agrees m n (all_at (λ x. lt x n) l m sp.below i) k);
      right_from = λ k. all_from (λ m. not (before m)) r (λ m i. not_from_false (before m)
          (false_from_ne_true (before m) (λ j. true≢false (sym (agrees n m (all_at (lt n) r m sp.above i) j) ∙ k))));
    }

-- ---- what a search skips

skipped_none : (t : Tree) → skipped (λ _. false) t ≡ 0
skipped_none leaf = refl
skipped_none (fork red l n r) = skipped_none l

-- a search skips no more nodes than the tree has levels
pub skipped_height : (before : ℕ → Bool) (t : Tree) → skipped before t ≤ height t
skipped_height before leaf = omega arith
skipped_height before (fork red l n r) =
    let a = skipped_height before l in
    let b = skipped_height before r in
    elim (cases_Bool (before n)) [ inl e ↦ rw e (omega arith) | inr e ↦ rw e (omega arith) ]

-- ---- the nodes from a probe on

-- no place
pub lists_full : (before : ℕ → Bool) (t : Tree) (list : List ℕ) (count steps : ℕ) → count ≡ length list
    → Lists before t list count list count steps steps
lists_full before t list count steps full = record {
  listed = sym (placed_full list count (nodes_from before (nodes_of t)) (omega arith));
  many = omega arith;
  visited = omega arith;
  path = omega arith;
  path_if_unfilled = λ _. omega arith;
}

-- a list that is not full has a place for one more
pub next_place : {before : ℕ → Bool} {left : Tree} {list row1 : List ℕ} {count count1 : ℕ} (n : ℕ) {steps steps1 : ℕ}
    → Lists before left list count row1 count1 steps steps1 → count1 ≢ length row1
    → count1 + 1 ≤ length (set row1 count1 n)
next_place {before = before} {left = left} {list = list} {row1 = row1} {count = count} {count1 = count1} n a more =
    let same : length row1 ≡ length list =
    ap length a.listed ∙ placed_length list count (nodes_from before (nodes_of left)) in
    let same2 : length (set row1 count1 n) ≡ length list = length-set row1 count1 n ∙ same in
    let many = a.many in
    omega arith

module _ (before : ℕ → Bool) (red : Bool) (left : Tree) (n : ℕ) (right : Tree) {list row1 : List ℕ}
    {count count1 : ℕ} (steps : ℕ) {steps1 steps2 : ℕ} where
  -- the node and those to the left of it precede the probe
  pub lists_right : list_all before (nodes_of left) ≡ true → before n ≡ true → steps1 ≤ steps + 1
      → Lists before right list count row1 count1 steps1 steps2
      → Lists before (fork red left n right) list count row1 count1 steps steps2
  lists_right all this step a =
      let l = nodes_of left in
      let r = nodes_of right in
      let e = nodes_from_right before l n r all this in
      let size : length (l ++ n ∷ r) ≡ length l + suc (length r) = length-append l (n ∷ r) in
      let way : skipped before (fork red left n right) ≡ suc (skipped before right) = rw this refl in
      let visited = a.visited in
      let spent = a.path in
      record {
        listed = a.listed ∙ ap (placed list count) (sym e);
        many = a.many ∙ ap (λ ns. min (length list) (count + length ns)) (sym e);
        visited = omega arith;
        path = omega arith;
        path_if_unfilled = λ places.
            let all_spent = a.path_if_unfilled places in
            omega arith;
      }

  module _ (a : Lists before left list count row1 count1 steps1 steps2) (this : before n ≡ false)
      (all : list_all (λ m. not (before m)) (nodes_of right) ≡ true) (within : count ≤ length list)
      (step : steps1 ≤ steps + 1) where
    -- the nodes to the left fill the list
    pub lists_stops : count1 ≡ length row1 → Lists before (fork red left n right) list count row1 count1 steps steps2
    lists_stops full =
        let l = nodes_of left in
        let f = nodes_from before l in
        let r = nodes_of right in
        let e = nodes_from_left before l n r this all in
        let same : length row1 ≡ length list = ap length a.listed ∙ placed_length list count f in
        let size : length (l ++ n ∷ r) ≡ length l + suc (length r) = length-append l (n ∷ r) in
        let longer : length (f ++ n ∷ r) ≡ length f + suc (length r) = length-append f (n ∷ r) in
        let long : length (nodes_from before (l ++ n ∷ r)) ≡ length (f ++ n ∷ r) = ap length e in
        let way : skipped before (fork red left n right) ≡ skipped before left = rw this refl in
        let many = a.many in
        let visited = a.visited in
        let spent = a.path in
        let rest : placed row1 (count + length f) (n ∷ r) ≡ row1 = placed_full row1 (count + length f) (n ∷ r)
        (omega arith)
        in
        record {
          listed = sym (ap (placed list count) e ∙ placed_append list count f (n ∷ r)
              ∙ ap (λ xs. placed xs (count + length f) (n ∷ r)) (sym a.listed) ∙ rest);
          many = omega arith;
          visited = omega arith;
          path = omega arith;
          path_if_unfilled = λ places. omega arith;
        }

    -- the nodes to the left, the node and the right tree
    pub lists_on : {row2 : List ℕ} {count2 steps3 : ℕ} → count1 ≢ length row1
        → Lists (λ _. false) right (set row1 count1 n) (count1 + 1) row2 count2 steps2 steps3
        → Lists before (fork red left n right) list count row2 count2 steps steps3
    lists_on {row2 = row2} {count2 = count2} {steps3 = steps3} more b =
        let l = nodes_of left in
        let f = nodes_from before l in
        let r = nodes_of right in
        let e = nodes_from_left before l n r this all in
        let row : List ℕ = set row1 count1 n in
        let same : length row1 ≡ length list = ap length a.listed ∙ placed_length list count f in
        let same2 : length row ≡ length list = length-set row1 count1 n ∙ same in
        let size : length (l ++ n ∷ r) ≡ length l + suc (length r) = length-append l (n ∷ r) in
        let longer : length (f ++ n ∷ r) ≡ length f + suc (length r) = length-append f (n ∷ r) in
        let long : length (nodes_from before (l ++ n ∷ r)) ≡ length (f ++ n ∷ r) = ap length e in
        let way : skipped before (fork red left n right) ≡ skipped before left = rw this refl in
        let none : skipped (λ _. false) right ≡ 0 = skipped_none right in
        let many = a.many in
        let visited = a.visited in
        let places : count1 < length list = omega arith in
        let spent = a.path_if_unfilled places in
        let many2 : count2 ≡ min (length row) (count1 + 1 + length r) =
        b.many ∙ ap (λ ns. min (length row) (count1 + 1 + length ns)) (all_listed r) in
        let visited2 = b.visited in
        let spent2 = b.path in
        let here : count1 ≡ count + length f = omega arith in
        let next : count1 + 1 ≡ suc (count + length f) = omega arith in
        record {
          listed = b.listed ∙ ap (placed row (count1 + 1)) (all_listed r) ∙ ap (λ k. placed row k r) next
              ∙ ap (λ k. placed (set row1 k n) (suc (count + length f)) r) here
              ∙ ap (λ xs. placed xs (count + length f) (n ∷ r)) a.listed ∙ sym (placed_append list count f (n ∷ r))
              ∙ ap (placed list count) (sym e);
          many = omega arith;
          visited = omega arith;
          path = omega arith;
          path_if_unfilled = λ left_over.
              let all_spent = b.path_if_unfilled (omega arith) in
              omega arith;
        }
