-- The tree of gaps for link_tree, and its state after the calls.
use Rattle.best_fit.proofs.Common.{◌≡◌, refl, sym, ap, subst, ◌∙◌, ℕ, ◌+◌, ◌-◌, ◌/◌, ◌%◌, ◌≤◌, ◌⊎◌, inl, inr, Bool}
use Rattle.best_fit.proofs.Common.{true, false, ◌&&◌, ◌||◌, List, [], ◌∷◌, ◌++◌, length, arith, ◌==◌, IsTrue}
use Rattle.best_fit.proofs.Common.{length-append, append_assoc, Option, Some, None, map, if◌then◌else◌, list_all}
use Rattle.best_fit.proofs.Common.{cases_Bool, or_cases, or_left, or_right, eqb-true, eq-eqb, cond-true, cond_both}
use Rattle.best_fit.proofs.Common.{WindowState, SameBytesExcept, SameSurroundings, bytes_of, SameBytesExcept-word, Tile}
use Rattle.best_fit.proofs.Common.{is_legal_size, EncodesTiles, good_tags_say_tiles, header_may_change}
use Rattle.best_fit.proofs.Common.{tiles_are_read_off, Cell, Tree, IsTree, IsSearchTree, nodes_of, is_sorted, is_in}
use Rattle.best_fit.proofs.Common.{leads, tree_same, all_from, link_at, SameBytesExcept-link, Gap, precedes, cells_of}
use Rattle.best_fit.proofs.Common.{insert_gap, payloads, sorted_gaps, GapTreeFrame, comes_before, gap_cells, gap_of}
use Rattle.best_fit.proofs.Common.{gaps_of, gaps_in, is_gap_node, is_kept, kept_of, len_in, links_among, plain}
use Rattle.best_fit.proofs.Common.{tiles_in, IsGoodHeap, GapNode-is_gap_node, IsGoodHeap-is_good, is_good-IsGoodHeap}
use Rattle.best_fit.proofs.Common.{links_at, cells_at, AreSomeGaps, HaveGapLengths, HasGapTree, ChangesGapTree}
use Rattle.best_fit.proofs.Common.{AreAscending}
use Rattle.link_tree.proofs.Laws.{root_in}
use Rattle.best_fit.specs.GapLaws.{length-payloads}
use Rattle.best_fit.proofs.gaps.Nodes.{len_in_row, node_at, said_of, apart_of}
use Rattle.best_fit.proofs.gaps.Order.{NoneAt, in_sorted, none_above, sorted-is_sorted}
use Rattle.best_fit.proofs.gaps.Setters.{cell_stays}
use Rattle.best_fit.proofs.gaps.OneField.{kept_same}
use Rattle.best_fit.proofs.tags.TagsAndLiveSet.{said_row}
use Rattle.best_fit.proofs.tags.TileRows.{Row, unused, used, use_cases, gaps_of-free, gaps_of-used, Apart-is_merged}

-- ---- a tree of some of the gaps

-- its nodes are nodes
pub tree_nodes : (c : WindowState) (hs : List Gap) → (h : HasGapTree c hs) → (n : ℕ)
    → is_in n (nodes_of h.tree.tree) ≡ true
    → is_gap_node c n ≡ true
tree_nodes c hs h n i =
    GapNode-is_gap_node c n (record {
      good = is_good-IsGoodHeap c h.good;
      listed = h.some.listed n (sym (in_sorted n hs) ∙ ap (λ (ns : List ℕ). is_in n ns) (sym h.tree.lists) ∙ i);
    })

-- the tree of gaps is a search tree
pub search_tree : (c : WindowState) (hs : List Gap) → (h : HasGapTree c hs) → IsSearchTree (comes_before (gaps_in c))
    (gap_cells c) (link_at (bytes_of c.bytes) 24) h.tree.tree
search_tree c hs h =
    record {
      tree = tree_same (cells_of (bytes_of c.bytes)) (gap_cells c) (link_at (bytes_of c.bytes) 24) h.tree.tree
          (λ m i. cells_at c m (tree_nodes c hs h m i)) h.tree.linked;
      ordered = subst (λ (ns : List ℕ). is_sorted (comes_before (gaps_in c)) ns ≡ true) (sym h.tree.lists)
          (sorted-is_sorted (gaps_in c) 0 hs h.some.fits h.some.rises);
      red_black = h.tree.red_black;
    }

-- its root is a node
pub root_leads : (c : WindowState) (hs : List Gap) → (h : HasGapTree c hs)
    → leads (is_gap_node c) (link_at (bytes_of c.bytes) 24) ≡ true
root_leads c hs h = by_link (link_at (bytes_of c.bytes) 24) refl
  where
    by_link : (o : Option ℕ) → link_at (bytes_of c.bytes) 24 ≡ o → leads (is_gap_node c) o ≡ true
    by_link None e = refl
    by_link (Some n) e =
        tree_nodes c hs h n
        (root_in (cells_of (bytes_of c.bytes)) n h.tree.tree
        (subst (λ (o : Option ℕ). IsTree (cells_of (bytes_of c.bytes)) o h.tree.tree) e h.tree.linked))

-- as many nodes as gaps
pub length-inserted : (g : Gap) (hs : List Gap) → length (insert_gap g hs) ≡ length hs + 1
length-inserted g [] = omega arith
length-inserted g (h ∷ hs) =
    let ih = length-inserted g hs in
    cond_both (precedes g h) (g ∷ h ∷ hs) (h ∷ insert_gap g hs) (λ gs. length gs ≡ length (h ∷ hs) + 1)
    (λ _. omega arith) (λ _. omega arith)

-- sorting keeps the number of gaps
pub length-sorted : (hs : List Gap) → length (payloads (sorted_gaps hs)) ≡ length hs
length-sorted hs = length-payloads (sorted_gaps hs) ∙ sorts hs
  where
    sorts : (gs : List Gap) → length (sorted_gaps gs) ≡ length gs
    sorts [] = refl
    sorts (g ∷ gs) = let ih = sorts gs in let one = length-inserted g (sorted_gaps gs) in omega arith

-- the tree has as many nodes as there are gaps
pub tree_size : (c : WindowState) (hs : List Gap) → (h : HasGapTree c hs) → length (nodes_of h.tree.tree) ≡ length hs
tree_size c hs h = ap length h.tree.lists ∙ length-sorted hs

-- ---- all gaps, and all but one

fits_after : (at : ℕ) (front : List Tile) (ts : List Tile) (end : ℕ) → Row at (front ++ ts) end
    → HaveGapLengths (gaps_of (front ++ ts)) (gaps_of ts)
fits_after at front [] end r = tt
fits_after at front (t ∷ ts) end r =
    let step : (front ++ (t ∷ ts)) ≡ ((front ++ (t ∷ [])) ++ ts) = sym (append_assoc front (t ∷ []) ts) in
    let rest = subst (λ (us : List Tile). HaveGapLengths (gaps_of us) (gaps_of ts)) (sym step)
    (fits_after at (front ++ (t ∷ [])) ts end (subst (λ (us : List Tile). Row at us end) step r)) in
    elim (use_cases t) [
      | unused e ↦
          let both : HaveGapLengths (gaps_of (front ++ (t ∷ ts))) (gap_of t ∷ gaps_of ts) =
          (len_in_row at front t ts end (t.offset + 16) r e refl, rest) in
          subst (HaveGapLengths (gaps_of (front ++ (t ∷ ts)))) (sym (gaps_of-free t ts e)) both
      | used role e ↦ subst (HaveGapLengths (gaps_of (front ++ (t ∷ ts)))) (sym (gaps_of-used t ts role e)) rest
    ]

rises_row : (low at : ℕ) (ts : List Tile) (end : ℕ) → low ≤ at → Row at ts end → AreAscending low (gaps_of ts)
rises_row low at [] end l r = tt
rises_row low at (t ∷ ts) end l r =
    let o = r.0 in let long = r.1 in
    elim (use_cases t) [
      | unused e ↦
          let both : AreAscending low (gap_of t ∷ gaps_of ts) =
          (omega arith, rises_row (t.offset + 1) (at + t.len) ts end (omega arith) r.3) in
          subst (AreAscending low) (sym (gaps_of-free t ts e)) both
      | used role e ↦ subst (AreAscending low) (sym (gaps_of-used t ts role e))
          (rises_row low (at + t.len) ts end (omega arith) r.3)
    ]

-- all gaps of a window
pub all_gaps : (c : WindowState) → EncodesTiles c (tiles_in c) → AreSomeGaps (gaps_in c) (gaps_in c)
all_gaps c said =
    let row = said_row c (tiles_in c) said in
    record {
      fits = fits_after 128 [] (tiles_in c) (length c.bytes - 16) row;
      rises = rises_row 0 128 (tiles_in c) (length c.bytes - 16) (omega arith) row;
      listed = λ n i. i;
      few = omega arith;
    }

fits_drop : (gs xs : List Gap) (g : Gap) (ys : List Gap) → HaveGapLengths gs (xs ++ (g ∷ ys))
    → HaveGapLengths gs (xs ++ ys)
fits_drop gs [] g ys f = f.1
fits_drop gs (x ∷ xs) g ys f = (f.0, fits_drop gs xs g ys f.1)

-- the length that is read of a gap is its own
pub fits_one : (gs xs : List Gap) (g : Gap) (ys : List Gap) → HaveGapLengths gs (xs ++ (g ∷ ys))
    → len_in gs (g.offset + 16) ≡ g.len
fits_one gs [] g ys f = f.0
fits_one gs (x ∷ xs) g ys f = fits_one gs xs g ys f.1

rises_lower : (low at : ℕ) (hs : List Gap) → low ≤ at → AreAscending at hs → AreAscending low hs
rises_lower low at [] l r = tt
rises_lower low at (h ∷ hs) l r = let a = r.0 in (omega arith, r.1)

rises_drop : (at : ℕ) (xs : List Gap) (g : Gap) (ys : List Gap) → AreAscending at (xs ++ (g ∷ ys))
    → AreAscending at (xs ++ ys)
rises_drop at [] g ys r = let a = r.0 in rises_lower at (g.offset + 1) ys (omega arith) r.1
rises_drop at (x ∷ xs) g ys r = (r.0, rises_drop (x.offset + 1) xs g ys r.1)

rises_low : (at : ℕ) (xs : List Gap) (g : Gap) (ys : List Gap) → AreAscending at (xs ++ (g ∷ ys)) → at ≤ g.offset
rises_low at [] g ys r = r.0
rises_low at (x ∷ xs) g ys r = let a = r.0 in let b = rises_low (x.offset + 1) xs g ys r.1 in omega arith

-- no gap in front of one begins where it does
pub none_front : (at : ℕ) (xs : List Gap) (g : Gap) (ys : List Gap) → AreAscending at (xs ++ (g ∷ ys))
    → NoneAt g.offset xs
none_front at [] g ys r = tt
none_front at (x ∷ xs) g ys r = let b = rises_low (x.offset + 1) xs g ys r.1 in
    (λ e. omega arith, none_front (x.offset + 1) xs g ys r.1)

-- no other gap begins where one does
pub none_round : (at : ℕ) (xs : List Gap) (g : Gap) (ys : List Gap) → AreAscending at (xs ++ (g ∷ ys))
    → NoneAt g.offset (xs ++ ys)
none_round at [] g ys r = none_above g.offset (g.offset + 1) ys (omega arith) r.1
none_round at (x ∷ xs) g ys r = let b = rises_low (x.offset + 1) xs g ys r.1 in
    (λ e. omega arith, none_round (x.offset + 1) xs g ys r.1)

-- no gap begins at an offset, so no node does
pub none_in : (at : ℕ) (hs : List Gap) → NoneAt at hs → is_in (at + 16) (payloads hs) ≡ false
none_in at [] n = refl
none_in at (h ∷ hs) n = by_test (cases_Bool ((at + 16) == (h.offset + 16))) (none_in at hs n.1)
  where
    by_test : (((at + 16) == (h.offset + 16)) ≡ true) ⊎ (((at + 16) == (h.offset + 16)) ≡ false)
        → is_in (at + 16) (payloads hs) ≡ false → is_in (at + 16) (payloads (h ∷ hs)) ≡ false
    by_test (inl t) ih = absurd (n.0 (let e = eqb-true (at + 16) (h.offset + 16) t in omega arith))
    by_test (inr f) ih = ap (λ (b : Bool). b || is_in (at + 16) (payloads hs)) f ∙ ih

in_dropped : (n : ℕ) (xs : List Gap) (g : Gap) (ys : List Gap) → is_in n (payloads (xs ++ ys)) ≡ true
    → is_in n (payloads (xs ++ (g ∷ ys))) ≡ true
in_dropped n [] g ys i = or_right (n == g.offset + 16) (is_in n (payloads ys)) i
in_dropped n (x ∷ xs) g ys i = by_place (or_cases (n == x.offset + 16) (is_in n (payloads (xs ++ ys))) i)
    (in_dropped n xs g ys)
  where
    by_place : ((n == x.offset + 16) ≡ true) ⊎ (is_in n (payloads (xs ++ ys)) ≡ true)
        → (is_in n (payloads (xs ++ ys)) ≡ true → is_in n (payloads (xs ++ (g ∷ ys))) ≡ true)
        → is_in n (payloads (x ∷ (xs ++ (g ∷ ys)))) ≡ true
    by_place (inl e) ih = or_left (n == x.offset + 16) (is_in n (payloads (xs ++ (g ∷ ys)))) e
    by_place (inr e) ih = or_right (n == x.offset + 16) (is_in n (payloads (xs ++ (g ∷ ys)))) (ih e)

-- a node other than a gap's is the node of another gap
pub in_other : (n : ℕ) (xs : List Gap) (g : Gap) (ys : List Gap) → (n ≡ g.offset + 16 → ⊥)
    → is_in n (payloads (xs ++ (g ∷ ys))) ≡ true → is_in n (payloads (xs ++ ys)) ≡ true
in_other n [] g ys o i = by_place (or_cases (n == g.offset + 16) (is_in n (payloads ys)) i)
  where
    by_place : ((n == g.offset + 16) ≡ true) ⊎ (is_in n (payloads ys) ≡ true) → is_in n (payloads ys) ≡ true
    by_place (inl e) = absurd (o (eqb-true n (g.offset + 16) e))
    by_place (inr e) = e
in_other n (x ∷ xs) g ys o i = by_place (or_cases (n == x.offset + 16) (is_in n (payloads (xs ++ (g ∷ ys)))) i)
    (in_other n xs g ys o)
  where
    by_place : ((n == x.offset + 16) ≡ true) ⊎ (is_in n (payloads (xs ++ (g ∷ ys))) ≡ true)
        → (is_in n (payloads (xs ++ (g ∷ ys))) ≡ true → is_in n (payloads (xs ++ ys)) ≡ true)
        → is_in n (payloads (x ∷ (xs ++ ys))) ≡ true
    by_place (inl e) ih = or_left (n == x.offset + 16) (is_in n (payloads (xs ++ ys))) e
    by_place (inr e) ih = or_right (n == x.offset + 16) (is_in n (payloads (xs ++ ys))) (ih e)

-- the node of a gap is among the nodes of the gaps
pub in_here : (xs : List Gap) (g : Gap) (ys : List Gap) → is_in (g.offset + 16) (payloads (xs ++ (g ∷ ys))) ≡ true
in_here [] g ys = or_left ((g.offset + 16) == (g.offset + 16)) (is_in (g.offset + 16) (payloads ys))
    (eq-eqb (g.offset + 16) (g.offset + 16) refl)
in_here (x ∷ xs) g ys = or_right ((g.offset + 16) == (x.offset + 16))
    (is_in (g.offset + 16) (payloads (xs ++ (g ∷ ys)))) (in_here xs g ys)

-- gaps that are some of others are so without one
pub some_drop : (gs xs : List Gap) (g : Gap) (ys : List Gap) → AreSomeGaps gs (xs ++ (g ∷ ys))
    → AreSomeGaps gs (xs ++ ys)
some_drop gs xs g ys s =
    let few = s.few in
    record {
      fits = fits_drop gs xs g ys s.fits;
      rises = rises_drop 0 xs g ys s.rises;
      listed = λ n i. s.listed n (in_dropped n xs g ys i);
      few = omega (arith, length-append xs (g ∷ ys), length-append xs ys);
    }

-- ---- the root is stored

-- a tree of gaps, and its root at word 24
module _ (d e : WindowState) (hs : List Gap) (t : Tree) (root : Option ℕ) (good : IsGoodHeap d)
    (some : AreSomeGaps (gaps_in d) hs)
    (tree : IsSearchTree (comes_before (gaps_in d)) (gap_cells d) root t)
    (lists : nodes_of t ≡ payloads (sorted_gaps hs))
    (leads_to : link_at (bytes_of e.bytes) 24 ≡ root) (size : length e.bytes ≡ length d.bytes)
    (same : SameBytesExcept (bytes_of d.bytes) (bytes_of e.bytes) 24 8) where
  said_d : EncodesTiles d (tiles_in d)
  said_d = said_of d good

  pub header_tiles : tiles_in e ≡ tiles_in d
  header_tiles = tiles_are_read_off e (tiles_in d)
      (header_may_change d e (tiles_in d) said_d size 24 8 (omega arith) same)

  header_gaps : gaps_in e ≡ gaps_in d
  header_gaps = ap gaps_of header_tiles

  header_cell : (n : ℕ) → 144 ≤ n → cells_of (bytes_of e.bytes) n ≡ cells_of (bytes_of d.bytes) n
  header_cell n l =
      cell_stays (bytes_of d.bytes) (bytes_of e.bytes) n
      (SameBytesExcept-link (bytes_of d.bytes) (bytes_of e.bytes) 24 8 n
      same (inr (omega arith)))
      (SameBytesExcept-link (bytes_of d.bytes) (bytes_of e.bytes) 24 8 (n + 8) same (inr (omega arith)))
      (ap (λ w. w / 2 % 2 == 1) (SameBytesExcept-word (bytes_of d.bytes) (bytes_of e.bytes) 24 8 (n - 8)
      same (inr (omega arith))))

  low : (n : ℕ) → is_in n (payloads (gaps_in d)) ≡ true → 144 ≤ n
  low n i = (node_at d n (record { good = good; listed = i })).low

  header_good : IsGoodHeap e
  header_good =
      let legal : IsTrue (is_legal_size (length e.bytes)) =
      subst (λ k. IsTrue (is_legal_size k)) (sym size) good.size in
      record {
        size = legal;
        tags = (good_tags_say_tiles e legal).1 (
          tiles_in d,
          header_may_change d e (tiles_in d) said_d size 24 8
              (omega arith) same,
          Apart-is_merged false (tiles_in d) (apart_of d good),
        );
        links = subst (λ (gs : List Gap). list_all (links_among (bytes_of e.bytes) (payloads gs)) (payloads gs)
            ≡ true) (sym header_gaps)
            (all_from (links_among (bytes_of e.bytes) (payloads (gaps_in d))) (payloads (gaps_in d)) (λ n i.
            subst (λ (x : Cell). (leads (λ k. is_in k (payloads (gaps_in d))) x.left && leads
            (λ k. is_in k (payloads (gaps_in d))) x.right) ≡ true) (sym (header_cell n (low n i)))
            (links_at d n (record { good = good; listed = i }))));
      }

  node_in : (n : ℕ) → is_in n (nodes_of t) ≡ true → is_in n (payloads (gaps_in d)) ≡ true
  node_in n i = some.listed n (sym (in_sorted n hs) ∙ ap (λ (ns : List ℕ). is_in n ns) (sym lists) ∙ i)

  -- the tree of gaps with another root
  pub rooted : HasGapTree e hs
  rooted =
      record {
        good = IsGoodHeap-is_good e header_good;
        some = subst (λ (gs : List Gap). AreSomeGaps gs hs) (sym header_gaps) some;
        tree = record {
          tree = t;
          linked = subst (λ (o : Option ℕ). IsTree (cells_of (bytes_of e.bytes)) o t) (sym leads_to)
              (tree_same (gap_cells d) (cells_of (bytes_of e.bytes)) root t (λ n i.
              header_cell n (low n (node_in n i))
              ∙ sym (cells_at d n (GapNode-is_gap_node d n (record { good = good; listed = node_in n i }))))
              tree.tree);
          red_black = tree.red_black;
          lists = lists;
        };
      }

-- and nothing else changes
pub regrown : (c d e : WindowState) → kept_of d ≡ kept_of c → SameSurroundings d e → length e.bytes ≡ length d.bytes
    → tiles_in e ≡ tiles_in d → SameBytesExcept (bytes_of d.bytes) (bytes_of e.bytes) 24 8 → ChangesGapTree c e
unfolding kept_of
regrown c d e kept place size tiles same =
    let before : d.before ≡ c.before = ap (λ (k : GapTreeFrame). k.before) kept in
    let after : d.after ≡ c.after = ap (λ (k : GapTreeFrame). k.after) kept in
    let long : length d.bytes ≡ length c.bytes = ap (λ (k : GapTreeFrame). k.size) kept in
    let plain_tiles : map plain (tiles_in d) ≡ map plain (tiles_in c) = ap (λ (k : GapTreeFrame). k.tiles) kept in
    record {
      place = record { before = place.before ∙ before; after = place.after ∙ after };
      size = size ∙ long;
      tiles = ap (λ (ts : List Tile). map plain ts) tiles ∙ plain_tiles;
      bytes = λ k i away.
          let byte : (if is_kept (tiles_in d) k then bytes_of d.bytes k else 0)
          ≡ (if is_kept (tiles_in c) k then bytes_of c.bytes k else 0) = ap (λ (x : GapTreeFrame). x.byte k) kept in
          let i' : is_kept (tiles_in d) k ≡ true = kept_same (tiles_in c) (tiles_in d) k plain_tiles ∙ i in
          same.at k away ∙ sym (cond-true (is_kept (tiles_in d) k) (bytes_of d.bytes k) 0 i') ∙ byte
          ∙ cond-true (is_kept (tiles_in c) k) (bytes_of c.bytes k) 0 i;
    }
