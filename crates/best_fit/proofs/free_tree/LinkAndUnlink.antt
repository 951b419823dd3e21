-- A gap is removed from the tree, or inserted into it.
use Rattle.best_fit.proofs.Common.{◌≡◌, refl, sym, ap, subst, ◌∙◌, ℕ, ◌+◌, ◌-◌, ◌≤◌, ◌⊎◌, inl, inr, Bool, true, ◌&&◌}
use Rattle.best_fit.proofs.Common.{List, ◌∷◌, ◌++◌, length, arith, IsTrue, Option, Some, None, map, list_all}
use Rattle.best_fit.proofs.Common.{false≢true, both_ways, cases_eq, and_from, WindowState, SameBytesExcept}
use Rattle.best_fit.proofs.Common.{SameSurroundings, bytes_of, Tile, is_legal_size, EncodesTiles, good_tags_say_tiles}
use Rattle.best_fit.proofs.Common.{header_may_change, payload_may_change, tiles_are_read_off, Cell, Tree, leaf, fork}
use Rattle.best_fit.proofs.Common.{IsSearchTree, nodes_of, bits, is_in, leads, insert_in_order, without}
use Rattle.best_fit.proofs.Common.{is_ordered_with, all_from, link_at, SameBytesExcept-link, Gap, cells_of}
use Rattle.best_fit.proofs.Common.{payloads, sorted_gaps, GapTreeFrame, comes_before, gap_cells, gaps_of, gaps_in}
use Rattle.best_fit.proofs.Common.{is_gap_node, kept_of, links_among, plain, tiles_in, IsGoodHeap, GapNode-is_gap_node}
use Rattle.best_fit.proofs.Common.{IsGoodHeap-is_good, is_good-IsGoodHeap, is_gap_node-GapNode, AreSomeGaps, HasGapTree}
use Rattle.best_fit.proofs.Common.{LacksGap, ChangesGapTree, node_of}
use Rattle.raw_region.proofs.Laws.{SameBytesExcept-wider}
use Rattle.link_tree.specs.Tree.{root_of, AreCellsOf}
use Rattle.link_tree.proofs.Laws.{bits_most, in_left, in_middle, in_parts, in_right}
use Rattle.best_fit.specs.GapLaws.{few_gaps_in}
use Rattle.best_fit.proofs.free_tree.Trees.{all_gaps, fits_one, in_here, in_other, none_in, none_front, none_round}
use Rattle.best_fit.proofs.free_tree.Trees.{regrown, rooted, search_tree, some_drop}
use Rattle.best_fit.proofs.gaps.Nodes.{NodeAt, node_from, nodes_apart, said_of}
use Rattle.best_fit.proofs.gaps.Order.{gap_tree_stays, fits-sorted, in_sorted, place_sorted, put_is, sorted-around}
use Rattle.best_fit.proofs.gaps.Order.{without-inserted}
use Rattle.best_fit.proofs.gaps.Setters.{beside_cell}
use Rattle.best_fit.proofs.gaps.OneField.{kept_round, same_gaps}
use Rattle.best_fit.proofs.tags.TagsAndLiveSet.{legal_size}
use Rattle.best_fit.proofs.tags.TileRows.{is_merged-Apart}

-- the steps fit
pub few_bits : (c : WindowState) (hs : List Gap) → HasGapTree c hs → bits (length hs + 1) ≤ 41
few_bits c hs h =
    let few = h.some.few in let all = few_gaps_in c (is_good-IsGoodHeap c h.good) in
    bits_most (length hs) (omega arith)

pub kept_gaps : (c d : WindowState) → kept_of d ≡ kept_of c → gaps_in d ≡ gaps_in c
unfolding kept_of
kept_gaps c d kept = same_gaps (tiles_in c) (tiles_in d) (ap (λ (k : GapTreeFrame). k.tiles) kept)

good_of : (d : WindowState) (n : ℕ) → is_gap_node d n ≡ true → IsGoodHeap d
good_of d n h = (is_gap_node-GapNode d n h).good

-- ---- removal

module _ (c d e : WindowState) (xs : List Gap) (g : Gap) (ys : List Gap) (node : ℕ) (is : node ≡ node_of g)
    (h : HasGapTree c (xs ++ (g ∷ ys)))
    (root : Option ℕ)
    (shrinks : (t : Tree) → IsSearchTree (comes_before (gaps_in c)) (gap_cells c) (link_at (bytes_of c.bytes) 24) t
    → (shrunk : Tree) × IsSearchTree (comes_before (gaps_in d)) (gap_cells d) root shrunk
    × (nodes_of shrunk ≡ without node (nodes_of t)))
    (nodes : is_gap_node d ≡ is_gap_node c) (kept : kept_of d ≡ kept_of c)
    (leads_to : link_at (bytes_of e.bytes) 24 ≡ root) (size : length e.bytes ≡ length d.bytes)
    (same : SameBytesExcept (bytes_of d.bytes) (bytes_of e.bytes) 24 8) where
  listed : is_gap_node c node ≡ true
  listed = GapNode-is_gap_node c node (record {
    good = is_good-IsGoodHeap c h.good;
    listed = subst (λ k. is_in k (payloads (gaps_in c)) ≡ true) (sym is) (h.some.listed (node_of g) (in_here xs g ys));
  })

  pub taken_good : IsGoodHeap d
  taken_good = good_of d node (ap (λ (p : ℕ → Bool). p node) nodes ∙ listed)

  some_left : AreSomeGaps (gaps_in d) (xs ++ ys)
  some_left = subst (λ (gs : List Gap). AreSomeGaps gs (xs ++ ys)) (sym (kept_gaps c d kept))
      (some_drop (gaps_in c) xs g ys h.some)

  left_nodes : without node (nodes_of h.tree.tree) ≡ payloads (sorted_gaps (xs ++ ys))
  left_nodes =
      ap (without node) (h.tree.lists ∙ ap payloads (sorted-around g xs ys (none_front 0 xs g ys h.some.rises)))
      ∙ without-inserted node g (sorted_gaps (xs ++ ys)) (sym is)
      (in_sorted node (xs ++ ys) ∙ ap (λ k. is_in k (payloads (xs ++ ys))) is
      ∙ none_in g.offset (xs ++ ys) (none_round 0 xs g ys h.some.rises))

  -- the tree without the gap
  pub taken_tree : HasGapTree e (xs ++ ys)
  taken_tree =
      let s = shrinks h.tree.tree (search_tree c (xs ++ (g ∷ ys)) h) in
      rooted d e (xs ++ ys) s.0 root taken_good some_left s.1 (s.2 ∙ left_nodes) leads_to size same

-- ---- the links of a gap are made null

-- the links of a tree's nodes lead to its nodes
among_more : (ns ms : List ℕ) (o : Option ℕ) → ((k : ℕ) → is_in k ns ≡ true → is_in k ms ≡ true)
    → leads (λ k. is_in k ns) o ≡ true → leads (λ k. is_in k ms) o ≡ true
among_more ns ms None f h = refl
among_more ns ms (Some n) f h = f n h

root_among : (t : Tree) → leads (λ k. is_in k (nodes_of t)) (root_of t) ≡ true
root_among leaf = refl
root_among (fork red l n r) = in_middle (nodes_of l) n (nodes_of r)

pub record Closed (ns : List ℕ) (x : Cell) : Type 0 where
  pub left : leads (λ k. is_in k ns) x.left ≡ true
  pub right : leads (λ k. is_in k ns) x.right ≡ true

-- links that stay among nodes stay among more
pub closed_more : (ns ms : List ℕ) (x : Cell) → ((k : ℕ) → is_in k ns ≡ true → is_in k ms ≡ true)
    → Closed ns x → Closed ms x
closed_more ns ms x f c = record { left = among_more ns ms x.left f c.left; right = among_more ns ms x.right f c.right }

-- the links of a tree's cells stay among its nodes
pub holds_closed : (f : ℕ → Cell) (t : Tree) (m : ℕ) → AreCellsOf f t → is_in m (nodes_of t) ≡ true
    → Closed (nodes_of t) (f m)
holds_closed f leaf m h i = absurd (false≢true i)
holds_closed f (fork red l n r) m h i =
    let ns = nodes_of (fork red l n r) in
    elim (in_parts m (nodes_of l) n (nodes_of r) i) [
      | inl a ↦ closed_more (nodes_of l) ns (f m) (λ k. in_left k (nodes_of l) n (nodes_of r))
          (holds_closed f l m h.1 a)
      | inr b ↦ elim b [
        | inl e ↦
            let P : Cell → Type 0 = λ (x : Cell). Closed ns x in
            let cell : f m ≡ record { left = root_of l; right = root_of r; red = red } = ap f e ∙ h.0 in
            subst P (sym cell) (record {
              left = among_more (nodes_of l) ns (root_of l) (λ k. in_left k (nodes_of l) n (nodes_of r)) (root_among l);
              right = among_more (nodes_of r) ns (root_of r) (λ k. in_right k (nodes_of l) n (nodes_of r))
                  (root_among r);
            })
        | inr c ↦ closed_more (nodes_of r) ns (f m) (λ k. in_right k (nodes_of l) n (nodes_of r))
            (holds_closed f r m h.2 c)
      ]
    ]

-- the place of the gap of a node whose links are arbitrary
pub lacking_node : (c : WindowState) (xs : List Gap) (g : Gap) (ys : List Gap) (node : ℕ) → node ≡ node_of g
    → LacksGap c xs g ys → NodeAt c node
lacking_node c xs g ys node is l =
    node_from c node l.said (is_merged-Apart (tiles_in c) l.merged)
    (subst (λ k. is_in k (payloads (gaps_in c)) ≡ true) (sym is)
    (subst (λ (gs : List Gap). is_in (node_of g) (payloads gs) ≡ true) (sym l.gaps) (in_here xs g ys)))

module _ (c a b : WindowState) (xs : List Gap) (g : Gap) (ys : List Gap) (node : ℕ) (is : node ≡ node_of g)
    (l : LacksGap c xs g ys)
    (left : link_at (bytes_of a.bytes) node ≡ None) (size1 : length a.bytes
    ≡ length c.bytes) (place1 : SameSurroundings c a)
    (same1 : SameBytesExcept (bytes_of c.bytes) (bytes_of a.bytes) node 8)
    (right : link_at (bytes_of b.bytes) (node + 8) ≡ None) (size2 : length b.bytes ≡ length a.bytes)
    (place2 : SameSurroundings a b) (same2 : SameBytesExcept (bytes_of a.bytes) (bytes_of b.bytes) (node + 8) 8) where
  at_node : NodeAt c node
  at_node = lacking_node c xs g ys node is l

  size : length b.bytes ≡ length c.bytes
  size = size2 ∙ size1

  same : SameBytesExcept (bytes_of c.bytes) (bytes_of b.bytes) node 16
  same =
      let one = SameBytesExcept-wider (bytes_of c.bytes) (bytes_of a.bytes) node 8 node 16 same1 (omega arith)
      (omega arith) in
      let two = SameBytesExcept-wider (bytes_of a.bytes) (bytes_of b.bytes) (node + 8) 8 node 16 same2
      (omega arith) (omega arith) in
      record { at = λ k o. two.at k o ∙ one.at k o }

  said_b : EncodesTiles b (tiles_in c)
  said_b =
      let t = at_node.free_tile in let at = t.at in let long = at_node.long in
      payload_may_change c b (tiles_in c) t.tile.offset t.tile at_node.said at_node.stands size node 16
      (omega arith) (omega arith) same

  tiles_b : tiles_in b ≡ tiles_in c
  tiles_b = tiles_are_read_off b (tiles_in c) said_b

  gaps_b : gaps_in b ≡ gaps_in c
  gaps_b = ap gaps_of tiles_b

  -- making links null keeps the other bytes
  pub cleared_kept : kept_of b ≡ kept_of c
  cleared_kept =
      kept_round c b node at_node
      (record { before = place2.before ∙ place1.before; after = place2.after ∙ place1.after }) size
      (ap (λ (ts : List Tile). map plain ts) tiles_b) (λ k beside below away. same.at k away)

  other_cell : (m : ℕ) → is_in m (payloads (gaps_in c)) ≡ true → (m ≡ node → ⊥) → cells_of (bytes_of b.bytes) m
      ≡ cells_of (bytes_of c.bytes) m
  other_cell m i o =
      let e = node_from c m l.said (is_merged-Apart (tiles_in c) l.merged) i in
      beside_cell (bytes_of c.bytes) (bytes_of b.bytes) node 16 m same e.low
      (by_case (nodes_apart c node m at_node e o))
    where
      by_case : (m + 32 ≤ node) ⊎ (node + 32 ≤ m) → (m + 16 ≤ node) ⊎ (node + 16 ≤ m - 8)
      by_case (inl x) = inl (omega arith)
      by_case (inr x) = inr (omega arith)

  left_b : link_at (bytes_of b.bytes) node ≡ None
  left_b = SameBytesExcept-link (bytes_of a.bytes) (bytes_of b.bytes) (node + 8) 8 node same2 (inl (omega arith)) ∙ left

  in_tree : (m : ℕ) → is_in m (nodes_of l.tree.tree) ≡ true → is_in m (payloads (xs ++ ys)) ≡ true
  in_tree m i = sym (in_sorted m (xs ++ ys)) ∙ ap (λ (ns : List ℕ). is_in m ns) (sym l.tree.lists) ∙ i

  tree_in : (m : ℕ) → is_in m (payloads (xs ++ ys)) ≡ true → is_in m (nodes_of l.tree.tree) ≡ true
  tree_in m i = ap (λ (ns : List ℕ). is_in m ns) l.tree.lists ∙ in_sorted m (xs ++ ys) ∙ i

  some_all : AreSomeGaps (gaps_in c) (xs ++ (g ∷ ys))
  some_all = subst (λ (hs : List Gap). AreSomeGaps (gaps_in c) hs) l.gaps (all_gaps c l.said)

  pub some_rest : AreSomeGaps (gaps_in c) (xs ++ ys)
  some_rest = some_drop (gaps_in c) xs g ys some_all

  not_node : (m : ℕ) → is_in m (payloads (xs ++ ys)) ≡ true → (m ≡ node → ⊥)
  not_node m i e =
      both_ways (is_in (g.offset + 16) (payloads (xs ++ ys)))
      (none_in g.offset (xs ++ ys) (none_round 0 xs g ys some_all.rises))
      (subst (λ k. is_in k (payloads (xs ++ ys)) ≡ true) (e ∙ is) i)

  cell_links : (m : ℕ) → is_in m (payloads (gaps_in c)) ≡ true
      → links_among (bytes_of b.bytes) (payloads (gaps_in c)) m ≡ true
  cell_links m i = by_place (cases_eq m node)
    where
      null_links : (x : Cell) → x.left ≡ None → x.right ≡ None
          → (leads (λ k. is_in k (payloads (gaps_in c))) x.left && leads (λ k. is_in k (payloads (gaps_in c)))
          x.right) ≡ true
      null_links x p q =
          ap (λ (o : Option ℕ). leads (λ k. is_in k (payloads (gaps_in c))) o && leads
          (λ k. is_in k (payloads (gaps_in c))) x.right) p
          ∙ ap (λ (o : Option ℕ). leads (λ k. is_in k (payloads (gaps_in c))) o) q

      by_place : (m ≡ node) ⊎ (m ≡ node → ⊥) → links_among (bytes_of b.bytes) (payloads (gaps_in c)) m ≡ true
      by_place (inl e) = subst (λ k. links_among (bytes_of b.bytes) (payloads (gaps_in c)) k ≡ true) (sym e)
          (null_links (cells_of (bytes_of b.bytes) node) left_b right)
      by_place (inr o) =
          let j = in_other m xs g ys (λ e. o (e ∙ sym is))
          (subst (λ (gs : List Gap). is_in m (payloads gs) ≡ true) l.gaps i) in
          let closed = closed_more (nodes_of l.tree.tree) (payloads (gaps_in c)) (cells_of (bytes_of c.bytes) m)
          (λ k n. some_rest.listed k (in_tree k n))
          (holds_closed (cells_of (bytes_of c.bytes)) l.tree.tree m l.tree.linked.holds (tree_in m j)) in
          subst (λ (x : Cell). (leads (λ k. is_in k (payloads (gaps_in c))) x.left && leads
          (λ k. is_in k (payloads (gaps_in c))) x.right) ≡ true) (sym (other_cell m i o))
          (and_from (leads (λ k. is_in k (payloads (gaps_in c))) (cells_of (bytes_of c.bytes) m).left)
          (leads (λ k. is_in k (payloads (gaps_in c))) (cells_of (bytes_of c.bytes) m).right) closed.left closed.right)

  good_b : IsGoodHeap b
  good_b =
      let legal : IsTrue (is_legal_size (length b.bytes)) = subst (λ k. IsTrue (is_legal_size k))
      (sym size) l.said.size in
      record {
        size = legal;
        tags = (good_tags_say_tiles b legal).1 (tiles_in c, said_b, l.merged);
        links = subst (λ (gs : List Gap). list_all (links_among (bytes_of b.bytes) (payloads gs))
            (payloads gs) ≡ true) (sym gaps_b)
            (all_from (links_among (bytes_of b.bytes) (payloads (gaps_in c))) (payloads (gaps_in c)) cell_links);
      }

  -- a gap whose links are made null is a node
  pub cleared_node : is_gap_node b node ≡ true
  cleared_node = GapNode-is_gap_node b node (record {
    good = good_b;
    listed = subst (λ k. is_in k (payloads (gaps_in b)) ≡ true) (sym is)
        (subst (λ (gs : List Gap). is_in (node_of g) (payloads gs) ≡ true) (sym (gaps_b ∙ l.gaps)) (in_here xs g ys));
  })

  -- making a gap's links null leaves the tree of the others
  pub cleared_tree : HasGapTree b (xs ++ ys)
  cleared_tree =
      let low = at_node.low in
      let root = SameBytesExcept-link (bytes_of c.bytes) (bytes_of b.bytes) node 16 24 same (inl (omega arith)) in
      record {
        good = IsGoodHeap-is_good b good_b;
        some = subst (λ (gs : List Gap). AreSomeGaps gs (xs ++ ys)) (sym gaps_b) some_rest;
        tree = gap_tree_stays (bytes_of c.bytes) (bytes_of b.bytes) (xs ++ ys) root
            (λ m i. other_cell m (some_rest.listed m i) (not_node m i)) l.tree;
      }

-- ---- insertion

-- a gap is put into a tree of some others
module _ (b d e : WindowState) (xs : List Gap) (g : Gap) (ys : List Gap) (node : ℕ) (is : node ≡ node_of g)
    (whole : AreSomeGaps (gaps_in b) (xs ++ (g ∷ ys))) (h : HasGapTree b (xs ++ ys)) where
  -- the node can be put into the order
  pub grown_place : is_ordered_with (comes_before (gaps_in b)) node (nodes_of h.tree.tree) ≡ true
  grown_place =
      subst (λ (ns : List ℕ). is_ordered_with (comes_before (gaps_in b)) node ns ≡ true) (sym h.tree.lists)
      (subst (λ k. is_ordered_with (comes_before (gaps_in b)) k (payloads (sorted_gaps (xs ++ ys))) ≡ true) (sym is)
      (place_sorted (gaps_in b) g (xs ++ ys) (fits_one (gaps_in b) xs g ys whole.fits) h.some.fits
      (none_round 0 xs g ys whole.rises)))

  grown_nodes : insert_in_order (comes_before (gaps_in b)) node (nodes_of h.tree.tree)
      ≡ payloads (sorted_gaps (xs ++ (g ∷ ys)))
  grown_nodes =
      ap (insert_in_order (comes_before (gaps_in b)) node) h.tree.lists
      ∙ ap (λ k. insert_in_order (comes_before (gaps_in b)) k (payloads (sorted_gaps (xs ++ ys)))) is
      ∙ put_is (gaps_in b) g (sorted_gaps (xs ++ ys)) (fits_one (gaps_in b) xs g ys whole.fits)
      (fits-sorted (gaps_in b) (xs ++ ys) h.some.fits)
      ∙ ap payloads (sym (sorted-around g xs ys (none_front 0 xs g ys whole.rises)))

  module _ (root : Option ℕ)
      (grows : (t : Tree) → IsSearchTree (comes_before (gaps_in b)) (gap_cells b) (link_at (bytes_of b.bytes) 24) t
      → (grown : Tree) × IsSearchTree (comes_before (gaps_in d)) (gap_cells d) root grown
      × (nodes_of grown ≡ insert_in_order (comes_before (gaps_in b)) node (nodes_of t)))
      (node_there : is_gap_node b node ≡ true) (nodes : is_gap_node d ≡ is_gap_node b) (kept : kept_of d ≡ kept_of b)
      (leads_to : link_at (bytes_of e.bytes) 24 ≡ root) (size : length e.bytes ≡ length d.bytes)
      (same : SameBytesExcept (bytes_of d.bytes) (bytes_of e.bytes) 24 8) where
    grown_good : IsGoodHeap d
    grown_good = good_of d node (ap (λ (p : ℕ → Bool). p node) nodes ∙ node_there)

    -- the tree with the gap
    pub grown_tree : HasGapTree e (xs ++ (g ∷ ys))
    grown_tree =
        let s = grows h.tree.tree (search_tree b (xs ++ ys) h) in
        let some = subst (λ (gs : List Gap). AreSomeGaps gs (xs ++ (g ∷ ys))) (sym (kept_gaps b d kept)) whole in
        rooted d e (xs ++ (g ∷ ys)) s.0 root grown_good some s.1 (s.2 ∙ grown_nodes) leads_to size same

-- the only gap that is not in the tree is inserted
module _ (c b d e : WindowState) (xs : List Gap) (g : Gap) (ys : List Gap) (node : ℕ) (is : node ≡ node_of g)
    (l : LacksGap c xs g ys) (h : HasGapTree b (xs ++ ys)) (cleared : kept_of b ≡ kept_of c) where
  gaps_c : gaps_in b ≡ xs ++ (g ∷ ys)
  gaps_c = kept_gaps c b cleared ∙ l.gaps

  whole : AreSomeGaps (gaps_in b) (xs ++ (g ∷ ys))
  whole = subst (λ (hs : List Gap).
      AreSomeGaps (gaps_in b) hs) gaps_c (all_gaps b (said_of b (is_good-IsGoodHeap b h.good)))

  -- the node can be put into the order
  pub put_place : is_ordered_with (comes_before (gaps_in b)) node (nodes_of h.tree.tree) ≡ true
  put_place = grown_place b d e xs g ys node is whole h

  module _ (root : Option ℕ)
      (grows : (t : Tree) → IsSearchTree (comes_before (gaps_in b)) (gap_cells b) (link_at (bytes_of b.bytes) 24) t
      → (grown : Tree) × IsSearchTree (comes_before (gaps_in d)) (gap_cells d) root grown
      × (nodes_of grown ≡ insert_in_order (comes_before (gaps_in b)) node (nodes_of t)))
      (node_there : is_gap_node b node ≡ true) (nodes : is_gap_node d ≡ is_gap_node b) (kept : kept_of d ≡ kept_of b)
      (leads_to : link_at (bytes_of e.bytes) 24 ≡ root) (size : length e.bytes ≡ length d.bytes)
      (same : SameBytesExcept (bytes_of d.bytes) (bytes_of e.bytes) 24 8) where
    -- the tree with the gap
    pub put_tree : HasGapTree e (xs ++ (g ∷ ys))
    put_tree = grown_tree b d e xs g ys node is whole h root grows node_there nodes kept leads_to size same

-- ---- conditions and results of the calls

-- the node of a gap of the list is in the tree
pub in_tree_of : (c : WindowState) (hs : List Gap) (n : ℕ) → (h : HasGapTree c hs) → is_in n (payloads hs) ≡ true
    → is_in n (nodes_of h.tree.tree) ≡ true
in_tree_of c hs n h i = ap (λ (ns : List ℕ). is_in n ns) h.tree.lists ∙ in_sorted n hs ∙ i

-- and is a node
pub node_of_tree : (c : WindowState) (hs : List Gap) (n : ℕ) → HasGapTree c hs → is_in n (payloads hs) ≡ true
    → is_gap_node c n ≡ true
node_of_tree c hs n h i = GapNode-is_gap_node c n (record {
  good = is_good-IsGoodHeap c h.good;
  listed = h.some.listed n i;
})

-- a window with a node has a header
pub node_inside : (d : WindowState) (n : ℕ) → is_gap_node d n ≡ true → 24 + 8 ≤ length d.bytes
node_inside d n h = let low = (legal_size (length d.bytes) (good_of d n h).size).low in omega arith

-- the windows of the two calls differ only in the tree
pub taken_rest : (c d e : WindowState) (n : ℕ) → is_gap_node d n ≡ true → kept_of d ≡ kept_of c → SameSurroundings d e
    → length e.bytes ≡ length d.bytes → SameBytesExcept (bytes_of d.bytes) (bytes_of e.bytes) 24 8 → ChangesGapTree c e
taken_rest c d e n h kept place size same =
    let said = said_of d (good_of d n h) in
    regrown c d e kept place size
    (tiles_are_read_off e (tiles_in d) (header_may_change d e (tiles_in d) said size 24 8 (omega arith) same)) same
