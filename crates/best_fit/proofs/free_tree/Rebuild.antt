-- The gaps of a window are put into a tree, one after the other.
use Rattle.best_fit.proofs.Common.{◌≡◌, sym, ap, subst, ◌∙◌, ℕ, ◌+◌, ◌⊎◌, inl, inr, true, false, List, [], ◌∷◌}
use Rattle.best_fit.proofs.Common.{◌++◌, length, append_assoc, length-append, arith, ◌==◌, Option, None, is_some, map}
use Rattle.best_fit.proofs.Common.{false≢true, or_cases, or_left, or_right, append-nil, WindowState, SameBytesExcept}
use Rattle.best_fit.proofs.Common.{bytes_of, current, Tile, EncodesTiles, tiles_are_read_off, Tree, IsSearchTree}
use Rattle.best_fit.proofs.Common.{nodes_of, is_ordered_with, is_in, insert_in_order, link_at, Gap, payloads}
use Rattle.best_fit.proofs.Common.{sorted_gaps, comes_before, gap_cells, gap_of, gaps_in, gaps_of, is_gap_node, kept_of}
use Rattle.best_fit.proofs.Common.{plain, tiles_in, GapNode-is_gap_node, is_good-IsGoodHeap, AreSomeGaps}
use Rattle.best_fit.proofs.Common.{HaveGapLengths, HasGapTree, ChangesGapTree, AreAscending, node_of, IsHeap}
use Rattle.best_fit.proofs.Common.{EncodesLiveSet, AreBytes}
use Rattle.best_fit.specs.Rebuilding.{IsNextGap, RebuildsFreeTree}
use Rattle.best_fit.proofs.gaps.BesideNodes.{beside_gaps, free_bytes}
use Rattle.best_fit.proofs.free_tree.Trees.{all_gaps, in_here}
use Rattle.best_fit.proofs.gaps.Nodes.{said_of}
use Rattle.best_fit.proofs.gaps.OneField.{same_gaps}
use Rattle.best_fit.proofs.deallocation.Coalescing.{regrown-trans}
use Rattle.best_fit.proofs.tags.TagsAndLiveSet.{SaysHeap}
use Rattle.best_fit.proofs.allocation.GapToBlock.{lays_out}
use Rattle.best_fit.proofs.gaps.LinksOnly.{SplitsAlike, regrown_keeps, regrown_live, splits_alike, tree_says}
use Rattle.best_fit.proofs.free_tree.LinkAndUnlink.{grown_place, grown_tree}
use Rattle.best_fit.proofs.tags.TileRows.{gaps_of-append, gaps_of-free}
use Rattle.best_fit.proofs.free_tree.WalkTurns.{Ended, Passed, free_if, gaps_past_block, passes}
use Rattle.best_fit.proofs.tile_walk.Walk.{Turn}
use Rattle.best_fit.proofs.free_tree.UnlinkIfGap.{regrown-refl}

-- ---- the first of some gaps

fits_front : (gs xs ys : List Gap) → HaveGapLengths gs (xs ++ ys) → HaveGapLengths gs xs
fits_front gs [] ys f = tt
fits_front gs (x ∷ xs) ys f = (f.0, fits_front gs xs ys f.1)

rises_front : (at : ℕ) (xs ys : List Gap) → AreAscending at (xs ++ ys) → AreAscending at xs
rises_front at [] ys r = tt
rises_front at (x ∷ xs) ys r = (r.0, rises_front (x.offset + 1) xs ys r.1)

in_longer : (n : ℕ) (xs ys : List Gap) → is_in n (payloads xs) ≡ true → is_in n (payloads (xs ++ ys)) ≡ true
in_longer n [] ys i = absurd (false≢true i)
in_longer n (x ∷ xs) ys i = by_place (or_cases (n == x.offset + 16) (is_in n (payloads xs)) i) (in_longer n xs ys)
  where
    by_place : ((n == x.offset + 16) ≡ true) ⊎ (is_in n (payloads xs) ≡ true)
        → (is_in n (payloads xs) ≡ true → is_in n (payloads (xs ++ ys)) ≡ true)
        → is_in n (payloads (x ∷ (xs ++ ys))) ≡ true
    by_place (inl e) rest = or_left (n == x.offset + 16) (is_in n (payloads (xs ++ ys))) e
    by_place (inr e) rest = or_right (n == x.offset + 16) (is_in n (payloads (xs ++ ys))) (rest e)

some_front : (gs xs ys : List Gap) → AreSomeGaps gs (xs ++ ys) → AreSomeGaps gs xs
some_front gs xs ys s =
    let few = s.few in
    record {
      fits = fits_front gs xs ys s.fits;
      rises = rises_front 0 xs ys s.rises;
      listed = λ n i. s.listed n (in_longer n xs ys i);
      few = omega (arith, length-append xs ys);
    }

-- ---- the next gap

module _ (c : WindowState) (xs : List Gap) (g : Gap) (node : ℕ) (is : node ≡ node_of g) (n : IsNextGap c xs g) where
  -- the gap is a node
  pub is_a_node : is_gap_node c node ≡ true
  is_a_node = GapNode-is_gap_node c node (record {
    good = is_good-IsGoodHeap c n.tree.good;
    listed = subst (λ k. is_in k (payloads (gaps_in c)) ≡ true) (sym is)
        (subst (λ (gs : List Gap). is_in (node_of g) (payloads gs) ≡ true) (sym n.gaps) (in_here xs g n.behind));
  })

  with_next : AreSomeGaps (gaps_in c) (xs ++ (g ∷ []))
  with_next =
      let all = all_gaps c (said_of c (is_good-IsGoodHeap c n.tree.good)) in
      let list : gaps_in c ≡ (xs ++ (g ∷ [])) ++ n.behind = n.gaps ∙ sym (append_assoc xs (g ∷ []) n.behind) in
      some_front (gaps_in c) (xs ++ (g ∷ [])) n.behind (subst (λ (hs : List Gap). AreSomeGaps (gaps_in c) hs) list all)

  before_it : HasGapTree c (xs ++ [])
  before_it =
      let e : xs ≡ xs ++ [] = sym (append-nil xs) in
      record {
        good = n.tree.good;
        some = subst (λ (hs : List Gap). AreSomeGaps (gaps_in c) hs) e n.tree.some;
        tree = record {
          tree = n.tree.tree.tree;
          linked = n.tree.tree.linked;
          red_black = n.tree.tree.red_black;
          lists = n.tree.tree.lists ∙ ap (λ (hs : List Gap). payloads (sorted_gaps hs)) e;
        };
      }

  -- the gap's place is after the gaps of the tree
  pub next_place : is_ordered_with (comes_before (gaps_in c)) node (nodes_of n.tree.tree.tree) ≡ true
  unfolding before_it
  next_place = grown_place c c c xs g [] node is with_next before_it

  -- the tree after one gap more is a search tree of the new window
  pub next_tree : (d e : WindowState) → (root : Option ℕ)
      → ((t : Tree) → IsSearchTree (comes_before (gaps_in c)) (gap_cells c) (link_at (bytes_of c.bytes) 24) t
      → (grown : Tree) × IsSearchTree (comes_before (gaps_in d)) (gap_cells d) root grown
      × (nodes_of grown ≡ insert_in_order (comes_before (gaps_in c)) node (nodes_of t)))
      → is_gap_node d ≡ is_gap_node c → kept_of d ≡ kept_of c
      → link_at (bytes_of e.bytes) 24 ≡ root → length e.bytes ≡ length d.bytes
      → SameBytesExcept (bytes_of d.bytes) (bytes_of e.bytes) 24 8 → HasGapTree e (xs ++ (g ∷ []))
  unfolding before_it
  next_tree d e root grows nodes kept leads_to size same = grown_tree c d e xs g [] node is with_next before_it root
      grows is_a_node nodes kept leads_to size same

-- ---- the walk

-- the tree has the gaps among the tiles that are passed, and nothing else has changed
pub record HasPlanted (old new : WindowState) (passed rest : List Tile) : Type 0 where
  pub change : ChangesGapTree old new
  pub tree : HasGapTree new (gaps_of passed)

-- before the first tile the tree has no gap
pub planted_start : (c : WindowState) → HasGapTree c [] → HasPlanted c c [] (tiles_in c)
planted_start c h = record { change = regrown-refl c; tree = h }

-- a block is passed as it is
pub planted_block : (old new next : WindowState) (tile : Tile) (t : Turn new (HasPlanted old new) tile)
    → is_some tile.use_of ≡ true → next ≡ new → Passed next (HasPlanted old next) tile.offset
planted_block old new next tile t some e =
    let P : WindowState → Type 0 = λ (c : WindowState). Passed c (HasPlanted old c) tile.offset in
    subst P (sym e) (passes new (HasPlanted old new) t.passed tile t.back t.said (record {
      change = t.holds.change;
      tree = subst (HasGapTree new) (sym (gaps_past_block t.passed tile some)) t.holds.tree;
    }))

-- a gap is put into the tree, and passed
module _ (old new : WindowState) (tile : Tile) (t : Turn new (HasPlanted old new) tile)
    (none : is_some tile.use_of ≡ false) where
  free : tile.use_of ≡ None
  free = free_if tile none

  tiles : tiles_in new ≡ t.passed ++ (tile ∷ t.back)
  tiles = tiles_are_read_off new (t.passed ++ (tile ∷ t.back)) t.said

  -- the next tile is the next gap
  pub next_gap : IsNextGap new (gaps_of t.passed) (gap_of tile)
  next_gap =
      record {
        behind = gaps_of t.back;
        gaps = ap gaps_of tiles ∙ gaps_of-append t.passed (tile ∷ t.back)
            ∙ ap (λ (gs : List Gap). gaps_of t.passed ++ gs) (gaps_of-free tile t.back free);
        tree = t.holds.tree;
      }

  -- a gap that is put into the tree: the turn is done
  pub planted_gap : (next : WindowState) → HasGapTree next (gaps_of t.passed ++ (gap_of tile ∷ []))
      → ChangesGapTree new next
      → Passed next (HasPlanted old next) tile.offset
  planted_gap next h r =
      let says = tree_says next (gaps_of t.passed ++ (gap_of tile ∷ [])) h in
      let s : SplitsAlike (tiles_in next) t.passed tile t.back = splits_alike (tiles_in next) t.passed tile t.back
      (r.tiles ∙ ap (λ (us : List Tile). map plain us) tiles) in
      let front = same_gaps t.passed s.front' s.fronts in
      let one = same_gaps (tile ∷ []) (s.tile' ∷ []) (ap (λ (u : Tile). u ∷ []) s.tiles) in
      let list : gaps_of t.passed ++ (gap_of tile ∷ []) ≡ gaps_of (s.front' ++ (s.tile' ∷ [])) =
      ap (λ (gs : List Gap). gaps_of t.passed ++ gs) (sym (gaps_of-free tile [] free))
      ∙ sym (gaps_of-append s.front' (s.tile' ∷ []) ∙ ap (λ (gs : List Gap). gs ++ gaps_of (s.tile' ∷ [])) front
      ∙ ap (λ (gs : List Gap). gaps_of t.passed ++ gs) one) in
      record {
        passed = s.front';
        tile = s.tile';
        back = s.back';
        said = subst (EncodesTiles next) s.list says.said;
        offset = ap (λ (u : Tile). u.offset) s.tiles;
        holds = record { change = regrown-trans old new next t.holds.change r; tree = subst (HasGapTree next) list h };
      }

-- at the end the tree has all gaps
pub planted_all : (old new : WindowState) → Ended new (HasPlanted old new) → HasGapTree new (gaps_in new)
planted_all old new e = subst (λ (us : List Tile). HasGapTree new (gaps_of us))
    (sym (tiles_are_read_off new e.tiles e.said)) e.holds.tree

-- ---- the heap

module _ (old mid new : WindowState) (says : SaysHeap old (tiles_in old)) (empty : ChangesGapTree old mid)
    (change : ChangesGapTree mid new)
    (h : HasGapTree new (gaps_in new)) where
  says_new : SaysHeap new (tiles_in new)
  says_new = tree_says new (gaps_in new) h

  whole_change : ChangesGapTree old new
  whole_change = regrown-trans old mid new empty change

  -- a window whose gaps are all in the tree is a heap
  pub rebuilt_heap : IsHeap current new.bytes
  rebuilt_heap = lays_out new says_new h.tree

  -- the free tree of the heap is rebuilt
  pub rebuilt : AreBytes old.bytes → AreBytes new.bytes → RebuildsFreeTree current old new
  unfolding current
  rebuilt small small' = record {
    live = subst (EncodesLiveSet current new.bytes) (regrown_live old new whole_change) rebuilt_heap;
    keeps = regrown_keeps old new says.said says_new.said whole_change;
    rest = beside_gaps old new says says_new.said whole_change small small';
    free = free_bytes old new says says_new.said whole_change small small';
  }
