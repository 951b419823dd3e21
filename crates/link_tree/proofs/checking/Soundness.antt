-- A check of the parts is a check of the tree.
use Rattle.std.proofs.Common.{◌≡◌, ℕ, suc, ◌+◌, ◌≤◌, Bool, true, false, cond, Option, Some, None, List, [], ◌∷◌, ◌++◌}
use Rattle.std.proofs.Common.{length, nat_eq, refl, sym, ap, ◌∙◌, arith, inl, inr, subst}
use Rattle.std.specs.List.{list_all}
use Rattle.std.proofs.lemmas.Bool.{false≢true, and_parts, and_from, cases_Bool, or_cases, or_left, or_right, eqb-true}
use Rattle.link_tree.specs.Tree.{Cell, Tree, fork, nodes_of, IsSearchTree, is_sorted, height, has_black_root}
use Rattle.link_tree.specs.Tree.{has_no_red_pair, has_black_height, left_blacks}
use Rattle.link_tree.specs.Nodes.{is_in, leads}
use Rattle.link_tree.specs.Between.{is_above, is_below, is_between, count_between}
use Rattle.link_tree.specs.Checking.{IsLinkClosed, IsSound}
use Rattle.link_tree.proofs.trees.OrderedLists.{IsStrict, rises_split, rises_join, all_at, all_from, in_left, in_right}
use Rattle.link_tree.proofs.trees.OrderedLists.{in_middle, in_parts}
use Rattle.link_tree.proofs.trees.BlackHeights.{even_fork, even_join}
use Rattle.link_tree.proofs.trees.Linked.{open_tree, close_tree, one_tree}
use Rattle.link_tree.proofs.checking.ReadOff.{left_blacks_is}
use Rattle.link_tree.proofs.trees.NodeCount.{tree_good, count_split, above_less, below_less, count_tree}

root_black : (red red_above : Bool) (l : Tree) (n : ℕ) (r : Tree) → (red ≡ true → red_above ≡ true → ⊥)
    → red_above ≡ true → has_black_root (fork red l n r) ≡ true
root_black true red_above l n r free e = absurd (free refl e)
root_black false red_above l n r free e = refl

module _ {lt : ℕ → ℕ → Bool} (strict : IsStrict lt) (h : ℕ → Cell) where
  -- two parts and a node between them
  pub sound_fork : (n : ℕ) (low high : Option ℕ) (red_above red : Bool) (l r : Tree) (b : ℕ)
      → IsSound lt h (h n).left low (Some n) red l b → IsSound lt h (h n).right (Some n) high red r b
      → is_above lt low n ≡ true → is_below lt n high ≡ true → (h n).red ≡ red → (red ≡ true → red_above ≡ true → ⊥)
      → IsSound lt h (Some n) low high red_above (fork red l n r) (cond red b (suc b))
  sound_fork n low high red_above red l r b sl sr above below is_red free =
      let xs = nodes_of l in
      let ys = nodes_of r in
      let in_l : (m : ℕ) → is_in m xs ≡ true → (is_above lt low m ≡ true) × (lt m n ≡ true) =
      λ m i. and_parts (is_above lt low m) (lt m n) (all_at (λ k. is_between lt low k (Some n)) xs m sl.between i) in
      let even = even_join red l n r b (record { no_red_pair = sl.no_red_pair; black = sl.black })
      (record { no_red_pair = sr.no_red_pair; black = sr.black }) sl.root sr.root in
      let in_r : (m : ℕ) → is_in m ys ≡ true → (lt n m ≡ true) × (is_below lt m high ≡ true) =
      λ m i. and_parts (lt n m) (is_below lt m high) (all_at (λ k. is_between lt (Some n) k high) ys m sr.between i) in
      record {
        tree = close_tree h n red l r (h n).left (h n).right
            (ap (λ c. record { left = (h n).left; right = (h n).right; red = c }) is_red) sl.tree sr.tree;
        ordered = rises_join lt strict.transitive xs n ys (record {
          left = sl.ordered;
          below = all_from (λ m. lt m n) xs (λ m i. (in_l m i).1);
          above = all_from (lt n) ys (λ m i. (in_r m i).0);
          right = sr.ordered;
        });
        between = all_from (λ m. is_between lt low m high) (xs ++ n ∷ ys) (λ m i. elim (in_parts m xs n ys i) [
          | inl a ↦ and_from (is_above lt low m) (is_below lt m high) (in_l m a).0
              (below_less strict high n m below (in_l m a).1)
          | inr k ↦ elim k [
            | inl e ↦ rw e (and_from (is_above lt low n) (is_below lt n high) above below)
            | inr a ↦ and_from (is_above lt low m) (is_below lt m high) (above_less strict low n m above (in_r m a).0)
                (in_r m a).1
          ]
        ]);
        no_red_pair = even.no_red_pair;
        root = λ q. root_black red red_above l n r free q;
        black = even.black;
      }

  -- the parts of a tree that is sound
  pub record HasParts (n : ℕ) (low high : Option ℕ) (red_above : Bool) (t : Tree) (b : ℕ) : Type 0 where
    pub left : Tree
    pub right : Tree
    pub is : t ≡ fork (h n).red left n right
    pub level : ℕ
    pub left_sound : IsSound lt h (h n).left low (Some n) (h n).red left level
    pub right_sound : IsSound lt h (h n).right (Some n) high (h n).red right level
    pub above : is_above lt low n ≡ true
    pub below : is_below lt n high ≡ true
    pub free : (h n).red ≡ true → red_above ≡ true → ⊥
    pub left_lower : height left + 1 ≤ height t
    pub right_lower : height right + 1 ≤ height t

  not_red_root : (red red_above : Bool) (l : Tree) (n : ℕ) (r : Tree)
      → (red_above ≡ true → has_black_root (fork red l n r) ≡ true) → red ≡ true → red_above ≡ true → ⊥
  not_red_root true red_above l n r f e k = false≢true (f k)
  not_red_root false red_above l n r f e k = false≢true e

  -- the parts of a tree that passed the check
  pub parts_of : (n : ℕ) (low high : Option ℕ) (red_above : Bool) (t : Tree) (b : ℕ)
      → IsSound lt h (Some n) low high red_above t b → HasParts n low high red_above t b
  parts_of n low high red_above t b s =
      let o = open_tree h n t s.tree in
      let red = (h n).red in
      let l = o.left in
      let r = o.right in
      let xs = nodes_of l in
      let ys = nodes_of r in
      let order : is_sorted lt (xs ++ n ∷ ys) ≡ true = ap (λ u. is_sorted lt (nodes_of u)) (sym o.is) ∙ s.ordered in
      let between : list_all (λ m. is_between lt low m high) (xs ++ n ∷ ys) ≡ true =
      ap (λ u. list_all (λ m. is_between lt low m high) (nodes_of u)) (sym o.is) ∙ s.between in
      let pairs_here : has_no_red_pair (fork red l n r) ≡ true = ap has_no_red_pair (sym o.is) ∙ s.no_red_pair in
      let black_here : has_black_height (fork red l n r) b ≡ true = ap (λ u. has_black_height u b) (sym o.is)
      ∙ s.black in
      let root_here : red_above ≡ true → has_black_root (fork red l n r) ≡ true = λ e. ap has_black_root (sym o.is)
      ∙ s.root e in
      let sp = rises_split lt xs n ys order in
      let c = even_fork red l n r b (record { no_red_pair = pairs_here; black = black_here }) in
      let at : (m : ℕ) → is_in m (xs ++ n ∷ ys) ≡ true → (is_above lt low m ≡ true) × (is_below lt m high ≡ true) =
      λ m i. and_parts (is_above lt low m) (is_below lt m high)
      (all_at (λ k. is_between lt low k high) (xs ++ n ∷ ys) m between i) in
      let lows : height l + 1 ≤ height (fork red l n r) = omega arith in
      let highs : height r + 1 ≤ height (fork red l n r) = omega arith in
      record {
        left = l;
        right = r;
        is = o.is;
        level = c.below;
        left_sound = record {
          tree = o.left_tree;
          ordered = sp.left;
          between = all_from (λ m. is_between lt low m (Some n)) xs (λ m i. and_from (is_above lt low m) (lt m n)
              (at m (in_left m xs n ys i)).0 (all_at (λ k. lt k n) xs m sp.below i));
          no_red_pair = c.left_even.no_red_pair;
          root = c.left_root;
          black = c.left_even.black;
        };
        right_sound = record {
          tree = o.right_tree;
          ordered = sp.right;
          between = all_from (λ m. is_between lt (Some n) m high) ys (λ m i. and_from (lt n m) (is_below lt m high)
              (all_at (lt n) ys m sp.above i) (at m (in_right m xs n ys i)).1);
          no_red_pair = c.right_even.no_red_pair;
          root = c.right_root;
          black = c.right_even.black;
        };
        above = (at n (in_middle xs n ys)).0;
        below = (at n (in_middle xs n ys)).1;
        free = not_red_root red red_above l n r root_here;
        left_lower = subst (λ u. height l + 1 ≤ height u) (sym o.is) lows;
        right_lower = subst (λ u. height r + 1 ≤ height u) (sym o.is) highs;
      }

  -- no part has two black heights
  pub one_height : (link low high low' high' : Option ℕ) (red red' : Bool) (t u : Tree) (a b : ℕ)
      → IsSound lt h link low high red t a → IsSound lt h link low' high' red' u b → a ≡ b
  one_height link low high low' high' red red' t u a b s k =
      let e = one_tree h link t u s.tree k.tree in
      sym (left_blacks_is t a s.black) ∙ ap left_blacks e ∙ left_blacks_is u b k.black

  -- steps: a node of a closed list parts what is between two others
  pub closed_link : (ns : List ℕ) (n : ℕ) (link : Option ℕ) → link ≡ Some n → leads (λ m. is_in m ns) link ≡ true
      → is_in n ns ≡ true
  closed_link ns n link e k = subst (λ (o : Option ℕ). leads (λ m. is_in m ns) o ≡ true) e k

  -- the nodes between two bounds are those on both sides of a node, and it
  pub counts_split : (ns : List ℕ) (n : ℕ) (low high : Option ℕ) → is_in n ns ≡ true → is_above lt low n ≡ true
      → is_below lt n high ≡ true
      → count_between lt low (Some n) ns + count_between lt (Some n) high ns + 1 ≤ count_between lt low high ns
  counts_split ns n low high i a b =
      count_split strict low high n ns (and_from (is_above lt low n) (is_below lt n high) a b) i

  -- a part has no more nodes than the closed list has between its bounds
  pub part_size : (ns : List ℕ) → IsLinkClosed h ns → (link low high : Option ℕ) (red : Bool) (t : Tree) (b : ℕ)
      → leads (λ m. is_in m ns) link ≡ true
      → IsSound lt h link low high red t b → length (nodes_of t) ≤ count_between lt low high ns
  part_size ns closed link low high red t b k s =
      count_tree strict ns t low high s.ordered
      (λ m i. all_at (λ m. is_between lt low m high) (nodes_of t) m s.between i)
      (tree_good h (λ m. is_in m ns) closed.left closed.right t link s.tree k)

  -- the whole tree as a part
  pub sound_whole : (root : Option ℕ) (t : Tree) (k : IsSearchTree lt h root t)
      → IsSound lt h root None None true t k.red_black.black.0
  sound_whole root t k = record {
    tree = k.tree;
    ordered = k.ordered;
    between = all_from (λ m. is_between lt None m None) (nodes_of t) (λ m i. refl);
    no_red_pair = k.red_black.no_red_pair;
    root = λ e. k.red_black.root;
    black = k.red_black.black.1;
  }

  -- a tree that passed the check is a search tree
  pub whole_sound : (root : Option ℕ) (t : Tree) (b : ℕ) → IsSound lt h root None None true t b
      → IsSearchTree lt h root t
  whole_sound root t b s = record {
    tree = s.tree;
    ordered = s.ordered;
    red_black = record { root = s.root refl; no_red_pair = s.no_red_pair; black = (b, s.black) };
  }

-- the nodes of the finite list that are nodes: closed under links
pub only : (ℕ → Bool) → List ℕ → List ℕ
only good [] = []
only good (n ∷ ns) = cond (good n) (n ∷ only good ns) (only good ns)

-- at most as many nodes are good as there are
pub length-only : (good : ℕ → Bool) (ns : List ℕ) → length (only good ns) ≤ length ns
unfolding only
length-only good [] = omega arith
length-only good (n ∷ ns) = elim (cases_Bool (good n)) [
  | inl e ↦ rw e (omega (arith, length-only good ns))
  | inr e ↦ rw e (omega (arith, length-only good ns))
]

only_good : (good : ℕ → Bool) (ns : List ℕ) (m : ℕ) → is_in m (only good ns) ≡ true → good m ≡ true
unfolding only
only_good good [] m i = absurd (false≢true i)
only_good good (n ∷ ns) m i = elim (cases_Bool (good n)) [
  | inl e ↦
      let j : is_in m (n ∷ only good ns) ≡ true = rw e at i in
      elim (or_cases (nat_eq m n) (is_in m (only good ns)) j) [
        | inl k ↦ let same = eqb-true m n k in rw same e
        | inr k ↦ only_good good ns m k
      ]
  | inr e ↦ let j : is_in m (only good ns) ≡ true = rw e at i in only_good good ns m j
]

only_in : (good : ℕ → Bool) (ns : List ℕ) (m : ℕ) → good m ≡ true → is_in m ns ≡ true → is_in m (only good ns) ≡ true
unfolding only
only_in good [] m g i = i
only_in good (n ∷ ns) m g i =
    elim (or_cases (nat_eq m n) (is_in m ns) i) [
      | inl k ↦
          let same = eqb-true m n k in
          let g' : good n ≡ true = rw (← same) g in
          rw g' (or_left (nat_eq m n) (is_in m (only good ns)) k)
      | inr k ↦ elim (cases_Bool (good n)) [
        | inl e ↦ rw e (or_right (nat_eq m n) (is_in m (only good ns)) (only_in good ns m g k))
        | inr e ↦ rw e (only_in good ns m g k)
      ]
    ]

-- a good link leads to a node of the list of good ones
pub leads_only : (good : ℕ → Bool) (ns : List ℕ) → ((n : ℕ) → good n ≡ true → is_in n ns ≡ true) → (link : Option ℕ)
    → leads good link ≡ true → leads (λ m. is_in m (only good ns)) link ≡ true
leads_only good ns all None k = refl
leads_only good ns all (Some n) k = only_in good ns n k (all n k)

-- the links of good nodes stay among good nodes
pub only_closed : (h : ℕ → Cell) (good : ℕ → Bool) (ns : List ℕ)
    → ((n : ℕ) → good n ≡ true → leads good (h n).left ≡ true)
    → ((n : ℕ) → good n ≡ true → leads good (h n).right ≡ true)
    → ((n : ℕ) → good n ≡ true → is_in n ns ≡ true) → IsLinkClosed h (only good ns)
only_closed h good ns cl cr all = record {
  left = λ n i. leads_only good ns all (h n).left (cl n (only_good good ns n i));
  right = λ n i. leads_only good ns all (h n).right (cr n (only_good good ns n i));
}
