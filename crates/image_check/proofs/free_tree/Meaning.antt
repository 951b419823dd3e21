-- The free tiles of a window and the tree over places: when the one makes up the other.
use Rattle.image_check.proofs.Common.{Apart, Cell, EncodesTiles, IsSearchTree, IsTree, IsTreeOf, IsTrue, List, Memory}
use Rattle.image_check.proofs.Common.{None, Option, Some, Tile, Tree, WindowState, [], and_from, and_parts, ap, arith}
use Rattle.image_check.proofs.Common.{before_irreflexive, both_ways, bytes_of, cases_Bool, cells_of, cond-false}
use Rattle.image_check.proofs.Common.{cond-true, eq-eqb, eqb-true, false, false≢true, has_free_tree, has_tags, inl, inr}
use Rattle.image_check.proofs.Common.{is_bad, is_in, is_legal_size, is_none, is_target, is_target-from, is_planted}
use Rattle.image_check.proofs.Common.{is_sorted, le-leb, leads, legal_size, length, link_at, list_all, nat_le, nodes_of}
use Rattle.image_check.proofs.Common.{not, not-true, or_cases, or_left, or_right, refl, stands_before, subst, sym}
use Rattle.image_check.proofs.Common.{tiles_are_read_off, true, ℕ, ◌%◌, ◌&&◌, ◌*◌, ◌++◌, ◌+◌, ◌-◌, ◌/◌, ◌==◌, ◌∙◌, ◌∷◌}
use Rattle.image_check.proofs.Common.{◌≡◌, ◌≤◌}
use Rattle.raw_region.specs.Memory.{word_at}
use Rattle.offset_link.specs.Link.{is_handle_offset}
use Rattle.link_tree.proofs.Laws.{root_in, tree_same}
use Rattle.raw_region.specs.Format.{current}
use Rattle.block_tags.specs.Tiles.{is_free, tile_at}
use Rattle.block_tags.proofs.Laws.{good_tags_say_tiles, one_tile_at_an_offset, tile_is_read_off}
use Rattle.best_fit.specs.Extents.{Gap}
use Rattle.best_fit.specs.FreeTree.{is_red, payloads, sorted_gaps}
use Rattle.best_fit.specs.GapNodes.{comes_before, gap_of, gaps_in, gaps_of, len_in, tiles_in}
use Rattle.best_fit.specs.GapLaws.{comes}
use Rattle.best_fit.proofs.Laws.{NodeAt, all_gaps, free-unused, gaps_of-free, gaps_of-used, holds_closed, in_sorted}
use Rattle.best_fit.proofs.Laws.{is_merged-Apart, length-sorted, node_from, node_len, sorted-is_sorted, unused}
use Rattle.best_fit.proofs.Laws.{use_cases, used}
use Rattle.image_check.specs.EarlyTests.{free_payloads}
use Rattle.image_check.specs.FreeNodes.{has_good_links, len_at, target_cells}
use Rattle.image_check.specs.FreeLaws.{before_transitive}
use Rattle.image_check.proofs.frame.Formats.{free-payloads, tree-passes, tree-said}
use Rattle.image_check.proofs.free_tree.Places.{all-of, good-good_target, is_sorted-same}
use Rattle.image_check.proofs.walks.Tiles.{WalksAt, at-lies, at-meets}

-- ---- a tile's payload is a place

-- a multiple of 16 inside the window is a handle's place
pub handle_from : (size n : ℕ) → n % 16 ≡ 0 → 144 ≤ n → n + 32 ≤ size → is_handle_offset size n ≡ true
handle_from size n a b c =
    and_from ((n % 16 == 0) && nat_le 144 n) (nat_le (n + 32) size)
    (and_from (n % 16 == 0) (nat_le 144 n) (eq-eqb (n % 16) 0 a) (le-leb 144 n b)) (le-leb (n + 32) size c)

-- the payload of the tile is a place
pub at-place : (c : WindowState) (Kept : List Tile → Type 0) (here : Tile) → WalksAt c Kept here
    → IsTrue (is_legal_size (length c.bytes)) → is_target c (here.offset + 16) ≡ true
at-place c Kept here a legal =
    let lies = at-lies c Kept here a in
    let met = at-meets c Kept here a in
    let low = lies.low in
    let long = met.long in
    let high = met.within in
    let whole = lies.whole (omega arith) in
    let least = (legal_size (length c.bytes) legal).low in
    is_target-from c (here.offset + 16) legal
    (handle_from (length c.bytes) (here.offset + 16) (omega arith) (omega arith) (omega arith))

tag-len : (m : Memory) (at n : ℕ) (t : Tile) → tile_at m at ≡ t → n ≡ at + 16 → len_at m n ≡ t.len
tag-len m at n t read e =
    let tag : n - 8 ≡ at + 8 = omega arith in
    ap (λ k. word_at m k / 16 * 16) tag ∙ ap (λ (u : Tile). u.len) read

-- the length that is read at the payload is the tile's
pub at-len : (c : WindowState) (Kept : List Tile → Type 0) (here : Tile) → WalksAt c Kept here
    → len_at (bytes_of c.bytes) (here.offset + 16) ≡ here.len
at-len c Kept here a =
    tag-len (bytes_of c.bytes) here.offset (here.offset + 16) here
    (tile_is_read_off c (a.front ++ here ∷ a.back) here.offset here a.said
    (one_tile_at_an_offset c a.front here a.back a.said)) refl

-- ---- the number of free tiles

one-free : (front : List Tile) (here : Tile) → here.use_of ≡ None
    → length (gaps_of (front ++ here ∷ [])) ≡ length (gaps_of front) + 1
one-free [] here e = ap (λ (gs : List Gap). length gs) (gaps_of-free here [] e)
one-free (t ∷ front) here e =
    let rest = one-free front here e in
    elim (use_cases t) [
      | unused f ↦
          let more = ap (λ (gs : List Gap). length gs) (gaps_of-free t (front ++ here ∷ []) f) in
          let less = ap (λ (gs : List Gap). length gs) (gaps_of-free t front f) in
          omega arith
      | used role f ↦
          let more = ap (λ (gs : List Gap). length gs) (gaps_of-used t (front ++ here ∷ []) role f) in
          let less = ap (λ (gs : List Gap). length gs) (gaps_of-used t front role f) in
          omega arith
    ]

-- a free tile is one more gap
pub free-more : (front : List Tile) (here : Tile) → is_none here.use_of ≡ true
    → length (gaps_of (front ++ here ∷ [])) ≡ length (gaps_of front) + 1
free-more front here e = one-free front here (free-unused here e)

-- a tile in use adds no gap
pub none-free : (front : List Tile) (here : Tile) → is_none here.use_of ≡ false
    → length (gaps_of (front ++ here ∷ [])) ≡ length (gaps_of front)
none-free [] here e = elim (use_cases here) [
  | unused f ↦ absurd (both_ways (is_none here.use_of) e (ap is_none f))
  | used role f ↦ ap (λ (gs : List Gap). length gs) (gaps_of-used here [] role f)
]
none-free (t ∷ front) here e =
    let rest = none-free front here e in
    elim (use_cases t) [
      | unused f ↦
          let more = ap (λ (gs : List Gap). length gs) (gaps_of-free t (front ++ here ∷ []) f) in
          let less = ap (λ (gs : List Gap). length gs) (gaps_of-free t front f) in
          omega arith
      | used role f ↦
          let more = ap (λ (gs : List Gap). length gs) (gaps_of-used t (front ++ here ∷ []) role f) in
          let less = ap (λ (gs : List Gap). length gs) (gaps_of-used t front role f) in
          omega arith
    ]

-- ---- all free tiles are planted

planted-free : (c : WindowState) (ns : List ℕ) (t : Tile) → t.use_of ≡ None
    → is_planted c ns t ≡ (is_in (t.offset + 16) ns && has_good_links c (t.offset + 16))
planted-free c ns t e = cond-true (is_free t) (is_in (t.offset + 16) ns && has_good_links c (t.offset + 16)) true
    (ap is_none e)

pub planted-used : (c : WindowState) (ns : List ℕ) (t : Tile) → is_none t.use_of ≡ false → is_planted c ns t ≡ true
planted-used c ns t e = cond-false (is_free t) (is_in (t.offset + 16) ns && has_good_links c (t.offset + 16)) true e

planted-from : (c : WindowState) (ns : List ℕ) (ts : List Tile)
    → ((n : ℕ) → is_in n (payloads (gaps_of ts)) ≡ true → (is_in n ns && has_good_links c n) ≡ true)
    → list_all (is_planted c ns) ts ≡ true
planted-from c ns [] h = refl
planted-from c ns (t ∷ ts) h =
    elim (use_cases t) [
      | unused e ↦
          let listed : (n : ℕ) → is_in n (payloads (gap_of t ∷ gaps_of ts)) ≡ true
          → (is_in n ns && has_good_links c n) ≡ true =
          λ n i. h n (subst (λ (gs : List Gap). is_in n (payloads gs) ≡ true) (sym (gaps_of-free t ts e)) i) in
          let n = t.offset + 16 in
          let here : (is_in n ns && has_good_links c n) ≡ true =
          listed n (or_left (n == n) (is_in n (payloads (gaps_of ts))) (eq-eqb n n refl)) in
          let rest = planted-from c ns ts (λ k i. listed k (or_right (k == n) (is_in k (payloads (gaps_of ts))) i)) in
          and_from (is_planted c ns t) (list_all (is_planted c ns) ts) (planted-free c ns t e ∙ here) rest
      | used role e ↦
          let rest = planted-from c ns ts (λ k i.
          h k (subst (λ (gs : List Gap). is_in k (payloads gs) ≡ true) (sym (gaps_of-used t ts role e)) i)) in
          and_from (is_planted c ns t) (list_all (is_planted c ns) ts) (planted-used c ns t (ap is_none e)) rest
    ]

planted-at : (c : WindowState) (ns : List ℕ) (ts : List Tile) → list_all (is_planted c ns) ts ≡ true → (n : ℕ)
    → is_in n (payloads (gaps_of ts)) ≡ true → (is_in n ns && has_good_links c n) ≡ true
planted-at c ns [] a n i = absurd (false≢true i)
planted-at c ns (t ∷ ts) a n i =
    let parts = and_parts (is_planted c ns t) (list_all (is_planted c ns) ts) a in
    elim (use_cases t) [
      | unused e ↦ elim (or_cases (n == t.offset + 16) (is_in n (payloads (gaps_of ts)))
          (subst (λ (gs : List Gap). is_in n (payloads gs) ≡ true) (gaps_of-free t ts e) i)) [
            | inl s ↦ subst (λ k. (is_in k ns && has_good_links c k) ≡ true) (sym (eqb-true n (t.offset + 16) s))
                (sym (planted-free c ns t e) ∙ parts.0)
            | inr j ↦ planted-at c ns ts parts.1 n j
          ]
      | used role e ↦ planted-at c ns ts parts.1 n
          (subst (λ (gs : List Gap). is_in n (payloads gs) ≡ true) (gaps_of-used t ts role e) i)
    ]

-- ---- the payloads of the free tiles as nodes

pub record Tagged (c : WindowState) : Type 0 where
  pub legal : IsTrue (is_legal_size (length c.bytes))
  pub said : EncodesTiles c (tiles_in c)
  pub apart : Apart false (tiles_in c)

-- a window with good tags: its tiles
pub tagged : (c : WindowState) → IsTrue (is_legal_size (length c.bytes))
    → IsTrue (has_tags current (bytes_of c.bytes) (length c.bytes)) → Tagged c
tagged c legal tags =
    let good = (good_tags_say_tiles c legal).0 tags in
    record {
      legal = legal;
      said = subst (EncodesTiles c) (sym (tiles_are_read_off c good.0 good.1)) good.1;
      apart = subst (Apart false) (sym (tiles_are_read_off c good.0 good.1)) (is_merged-Apart good.0 good.2);
    }

-- the gaps in the order of the tree
abbrev wanted : WindowState → List ℕ
wanted c = payloads (sorted_gaps (gaps_in c))

node : (c : WindowState) (n : ℕ) → Tagged c → is_in n (wanted c) ≡ true → NodeAt c n
node c n g i = node_from c n g.said g.apart (sym (in_sorted n (gaps_in c)) ∙ i)

node-handle : (c : WindowState) (n : ℕ) → NodeAt c n → is_handle_offset (length c.bytes) n ≡ true
node-handle c n d =
    let low = d.low in
    let long = d.long in
    let ends = d.ends in
    handle_from (length c.bytes) n d.whole low (omega arith)

node-len : (c : WindowState) (n : ℕ) → Tagged c → (d : NodeAt c n) → len_at (bytes_of c.bytes) n ≡ len_in (gaps_in c) n
node-len c n g d =
    tag-len (bytes_of c.bytes) d.free_tile.tile.offset n d.free_tile.tile
    (tile_is_read_off c (tiles_in c) d.free_tile.tile.offset d.free_tile.tile d.said d.stands) (sym d.free_tile.at)
    ∙ sym (node_len c n d)

same-order : (k k' a l l' b : ℕ) → k ≡ k' → l ≡ l' → comes k a l b ≡ comes k' a l' b
same-order k k' a l l' b e f = ap (λ j. comes j a l b) e ∙ ap (λ j. comes k' a j b) f

wanted-is_sorted : (c : WindowState) → Tagged c → is_sorted (stands_before (bytes_of c.bytes)) (wanted c) ≡ true
wanted-is_sorted c g =
    let all = all_gaps c g.said in
    is_sorted-same (comes_before (gaps_in c)) (stands_before (bytes_of c.bytes)) (wanted c)
    (λ a b i j.
    same-order (len_at (bytes_of c.bytes) a) (len_in (gaps_in c) a) a (len_at (bytes_of c.bytes) b)
    (len_in (gaps_in c) b) b (node-len c a g (node c a g i)) (node-len c b g (node c b g j)))
    (sorted-is_sorted (gaps_in c) 0 (gaps_in c) all.fits all.rises)

-- ---- links

-- a node with good links reads as the tree of the gaps does
same_cell : (c : WindowState) (n : ℕ) → has_good_links c n ≡ true → target_cells c n ≡ cells_of (bytes_of c.bytes) n
unfolding target_cells
same_cell c n h =
    let m = bytes_of c.bytes in
    let parts = and_parts (not (is_bad (length c.bytes) (link_at m n)))
    (not (is_bad (length c.bytes) (link_at m (n + 8)))) h in
    let left = good-good_target (length c.bytes) (link_at m n) (not-true (is_bad (length c.bytes) (link_at m n))
    parts.0) in
    let right = good-good_target (length c.bytes) (link_at m (n + 8))
    (not-true (is_bad (length c.bytes) (link_at m (n + 8))) parts.1) in
    λ i. record { left = left i; right = right i; red = is_red m n }

not_bad : (c : WindowState) (ns : List ℕ) (o : Option ℕ)
    → ((n : ℕ) → is_in n ns ≡ true → is_handle_offset (length c.bytes) n ≡ true) → leads (λ k. is_in k ns) o ≡ true
    → is_bad (length c.bytes) o ≡ false
not_bad c ns None f h = refl
not_bad c ns (Some n) f h = ap not (f n h)

-- the root of a tree is among its nodes
pub root_among : (f : ℕ → Cell) (o : Option ℕ) (t : Tree) → IsTree f o t → leads (λ k. is_in k (nodes_of t)) o ≡ true
root_among f None t w = refl
root_among f (Some n) t w = root_in f n t w

-- ---- the tree of the gaps is the tree over places

pub record Planted (c : WindowState) : Type 0 where
  pub tree : Tree
  pub root : is_bad (length c.bytes) (link_at (bytes_of c.bytes) 24) ≡ false
  pub search : IsSearchTree (stands_before (bytes_of c.bytes)) (target_cells c) (link_at (bytes_of c.bytes) 24) tree
  pub few : length (nodes_of tree) ≡ length (gaps_in c)
  pub all : list_all (is_planted c (nodes_of tree)) (tiles_in c) ≡ true

-- a free tree that is right: it has all gaps
pub planted : (c : WindowState) → Tagged c → IsTreeOf (bytes_of c.bytes) 24 (wanted c) → Planted c
planted c g w =
    let m = bytes_of c.bytes in
    let ns = nodes_of w.tree in
    let places : (n : ℕ) → is_in n ns ≡ true → is_handle_offset (length c.bytes) n ≡ true =
    λ n i. node-handle c n (node c n g (subst (λ (ks : List ℕ). is_in n ks ≡ true) w.lists i)) in
    let links : (n : ℕ) → is_in n ns ≡ true → has_good_links c n ≡ true =
    λ n i.
    let closed = holds_closed (cells_of m) w.tree n w.linked.holds i in
    and_from (not (is_bad (length c.bytes) (link_at m n))) (not (is_bad (length c.bytes) (link_at m (n + 8))))
    (ap not (not_bad c ns (link_at m n) places closed.left))
    (ap not (not_bad c ns (link_at m (n + 8)) places closed.right)) in
    record {
      tree = w.tree;
      root = not_bad c ns (link_at m 24) places (root_among (cells_of m) (link_at m 24) w.tree w.linked);
      search = record {
        tree = tree_same (cells_of m) (target_cells c) (link_at m 24) w.tree (λ n i. same_cell c n (links n i))
            w.linked;
        ordered = subst (λ (ks : List ℕ). is_sorted (stands_before m) ks ≡ true) (sym w.lists) (wanted-is_sorted c g);
        red_black = w.red_black;
      };
      few = ap length w.lists ∙ length-sorted (gaps_in c);
      all = planted-from c ns (tiles_in c) (λ n i.
          let j : is_in n ns ≡ true = subst (λ (ks : List ℕ).
          is_in n ks ≡ true) (sym w.lists) (in_sorted n (gaps_in c) ∙ i) in
          and_from (is_in n ns) (has_good_links c n) j (links n j));
    }

-- a tree with fewer nodes than gaps is not right
pub unplanted : (c : WindowState) (t : Tree) → Tagged c
    → IsSearchTree (stands_before (bytes_of c.bytes)) (target_cells c) (link_at (bytes_of c.bytes) 24) t
    → length (nodes_of t) ≡ length (gaps_in c)
    → list_all (is_planted c (nodes_of t)) (tiles_in c) ≡ true → IsTreeOf (bytes_of c.bytes) 24 (wanted c)
unplanted c t g s few all =
    let m = bytes_of c.bytes in
    let both : (n : ℕ) → is_in n (wanted c) ≡ true → (is_in n (nodes_of t) ≡ true) × (has_good_links c n ≡ true) =
    λ n i. and_parts (is_in n (nodes_of t)) (has_good_links c n)
    (planted-at c (nodes_of t) (tiles_in c) all n (sym (in_sorted n (gaps_in c)) ∙ i)) in
    let same : wanted c ≡ nodes_of t =
    all-of (stands_before m) (before_transitive m) (before_irreflexive m) (wanted c) (nodes_of t)
    (wanted-is_sorted c g) s.ordered (λ n i. (both n i).0) (length-sorted (gaps_in c) ∙ sym few) in
    record {
      tree = t;
      linked = tree_same (target_cells c) (cells_of m) (link_at m 24) t (λ n i.
          sym (same_cell c n (both n (subst (λ (ks : List ℕ). is_in n ks ≡ true) (sym same) i)).1)) s.tree;
      red_black = s.red_black;
      lists = sym same;
    }

-- ---- the test of the class

wanted-is : (c : WindowState) → free_payloads (tiles_in c) ≡ wanted c
wanted-is c = free-payloads (tiles_in c)

-- the test passes exactly if the tree exists
pub tree-true : (c : WindowState) → IsTreeOf (bytes_of c.bytes) 24 (wanted c)
    → has_free_tree current (bytes_of c.bytes) (tiles_in c) ≡ true
unfolding current
tree-true c t = tree-passes 1 (bytes_of c.bytes) (tiles_in c)
    (subst (IsTreeOf (bytes_of c.bytes) 24) (sym (wanted-is c)) t)

-- a free tree that is not right fails the test
pub tree-false : (c : WindowState) → (IsTreeOf (bytes_of c.bytes) 24 (wanted c) → ⊥)
    → has_free_tree current (bytes_of c.bytes) (tiles_in c) ≡ false
unfolding current
tree-false c never = elim (cases_Bool (has_free_tree current (bytes_of c.bytes) (tiles_in c))) [
  | inl e ↦ absurd (never (subst (IsTreeOf (bytes_of c.bytes) 24) (wanted-is c)
      (tree-said 1 (bytes_of c.bytes) (tiles_in c) e)))
  | inr e ↦ e
]
