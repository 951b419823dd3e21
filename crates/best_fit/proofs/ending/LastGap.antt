-- The gap at the end of a heap, if there is one: it leaves the tree and is dropped.
use Rattle.best_fit.proofs.Common.{◌≡◌, refl, sym, ap, subst, ◌∙◌, ℕ, ◌+◌, ◌-◌, ◌≤◌, true, false, List, [], ◌∷◌, ◌++◌}
use Rattle.best_fit.proofs.Common.{length, arith, Option, Some, None, map, cond-false, cond-true, append-nil, same_Some}
use Rattle.best_fit.proofs.Common.{none-some, WindowState, bytes_of, current, SameBytes-refl, Tile, last_in, is_free}
use Rattle.best_fit.proofs.Common.{is_in, MovesEnd, KeepsTo, last_end, least_size, of_size, Extent, Gap, LiveSet}
use Rattle.best_fit.proofs.Common.{payloads, gap_of, gaps_in, gaps_of, plain, tiles_in, HasGapTree, ChangesGapTree}
use Rattle.best_fit.proofs.Common.{gap_offset, node_of, IsHeap, EncodesLiveSet, live_of}
use Rattle.best_fit.proofs.allocation.LeastGap.{heap_tree}
use Rattle.best_fit.proofs.tags.RowParts.{last_in-EndsWith}
use Rattle.best_fit.proofs.ending.TwoMemories.{then-keeps_to}
use Rattle.best_fit.proofs.ending.DroppedGap.{EndsUsed, ends_used}
use Rattle.best_fit.proofs.tags.Frames.{blocks-refl}
use Rattle.best_fit.proofs.gaps.OneField.{same_gaps}
use Rattle.best_fit.proofs.tags.TagsAndLiveSet.{heap-says, legal_size, said_row}
use Rattle.best_fit.proofs.gaps.LinksOnly.{SplitsAlike, regrown_keeps, regrown_live, splits_alike, tree_says}
use Rattle.best_fit.proofs.tags.TileRows.{Row, extents_of, extents_of-free, extents_of-used, gaps_of-append}
use Rattle.best_fit.proofs.tags.TileRows.{gaps_of-free, unused, used, use_cases, unused-free, used-not_free}
use Rattle.best_fit.proofs.tile_walk.Walk.{live_extents}
use Rattle.best_fit.proofs.free_tree.UnlinkIfGap.{One, one_listed, one_small}

-- ---- with a gap at the end

-- the last tile of a heap is free
pub record LastGap (w : WindowState) (at : ℕ) : Type 0 where
  pub front : List Tile
  pub tile : Tile
  pub list : tiles_in w ≡ front ++ tile ∷ []
  pub free : tile.use_of ≡ None
  pub offset : tile.offset ≡ at

-- the last tile is a gap: its offset, and the tiles before it
pub last_gap : (w : WindowState) (at : ℕ) (o : Option Tile) → o ≡ last_in (tiles_in w) → gap_offset o ≡ Some at
    → LastGap w at
last_gap w at None e g = absurd (none-some at g)
last_gap w at (Some t) e g =
    elim (use_cases t) [
      | unused f ↦
          let ends = last_in-EndsWith (tiles_in w) t (sym e) in
          let there : Some t.offset ≡ Some at =
          sym (cond-true (is_free t) (Some t.offset) None (unused-free t f)) ∙ g in
          record { front = ends.front; tile = t; list = ends.list; free = f; offset = same_Some t.offset at there }
      | used role f ↦ absurd
          (none-some at (sym (cond-false (is_free t) (Some t.offset) None (used-not_free t role f)) ∙ g))
    ]

cons_not : (x : Tile) (xs : List Tile) → x ∷ xs ≡ [] → ⊥
cons_not x xs e = let ys : List Tile = [] in let f : x ∷ xs ≡ ys = e in cc

none_plain : (ts : List Tile) → map plain ts ≡ [] → ts ≡ []
none_plain [] e = refl
none_plain (t ∷ ts) e = absurd (cons_not (plain t) (map plain ts) e)

-- the blocks before a gap at the end, which has 32 bytes at least
ends_before : (from at : ℕ) (front : List Tile) (t : Tile) (end : ℕ) → Row at (front ++ t ∷ []) end → t.use_of ≡ None
    → from ≤ at → last_end from (extents_of (front ++ t ∷ [])) + 32 ≤ end
ends_before from at [] t end r free low =
    let on : at + t.len ≡ end = r.3 in let long = r.1 in
    let same = ap (λ (xs : List Extent). last_end from xs) (extents_of-free t [] free) in omega arith
ends_before from at (u ∷ front) t end r free low =
    let o = r.0 in
    elim (use_cases u) [
      | unused e ↦
          let same = ap (λ (xs : List Extent). last_end from xs) (extents_of-free u (front ++ t ∷ []) e) in
          let rest = ends_before from (at + u.len) front t end r.3 free (omega arith) in omega arith
      | used role e ↦
          let same = ap (λ (xs : List Extent). last_end from xs) (extents_of-used u (front ++ t ∷ []) role e) in
          let rest = ends_before (u.offset + u.len) (at + u.len) front t end r.3 free (omega arith) in omega arith
    ]

module _ (w : WindowState) (heap : IsHeap current w.bytes) (at : ℕ) (l : LastGap w at) where
  one : One (gap_of l.tile ∷ []) at
  one = record { gap = gap_of l.tile; list = refl; offset = sym l.offset }

  -- the last gap is the end of the list of gaps
  pub last_gaps : gaps_in w ≡ gaps_of l.front ++ (gap_of l.tile ∷ [])
  last_gaps = ap gaps_of l.list ∙ gaps_of-append l.front (l.tile ∷ []) ∙ ap (λ (hs : List Gap). gaps_of l.front ++ hs)
      (gaps_of-free l.tile [] l.free)

  -- the tree has it as the last
  pub last_tree : HasGapTree w (gaps_of l.front ++ (gap_of l.tile ∷ []))
  last_tree = subst (λ (hs : List Gap). HasGapTree w hs) last_gaps (heap_tree w heap)

  -- the last gap lies below 1 GiB
  pub last_small : at + 16 ≤ 1073741824
  last_small = one_small w (gaps_of l.front) (gap_of l.tile ∷ []) [] at one last_tree

  -- the last gap is a node
  pub last_listed : is_in (at + 16) (payloads (gaps_of l.front ++ (gap_of l.tile ∷ []))) ≡ true
  last_listed = one_listed w (gaps_of l.front) (gap_of l.tile ∷ []) [] at one last_tree

  -- the node of the last gap stands at its payload
  pub last_node : at + 16 ≡ node_of (gap_of l.tile)
  last_node = ap (λ k. k + 16) (sym l.offset)

  -- and no block ends after it
  pub not_least : least_size (live_of w.bytes) ≡ length w.bytes → ⊥
  not_least e =
      let row = subst (λ (ts : List Tile). Row 128 ts (length w.bytes - 16)) l.list
      (said_row w (tiles_in w) (heap-says w heap).said) in
      let low = ends_before 128 128 l.front l.tile (length w.bytes - 16) row l.free (omega arith) in
      let same = ap (λ (xs : List Extent). last_end 128 xs) (live_extents w ∙ ap extents_of l.list) in
      absurd (omega arith)

  -- once it has left the tree
  module _ (d : WindowState) (tree : HasGapTree d (gaps_of l.front ++ [])) (r : ChangesGapTree w d) where
    alike : SplitsAlike (tiles_in d) l.front l.tile []
    alike = splits_alike (tiles_in d) l.front l.tile [] (r.tiles ∙ ap (λ (ts : List Tile). map plain ts) l.list)

    -- the conditions of the drop
    pub left_alone : (front : List Tile) × (t : Tile) × (tiles_in d ≡ front ++ t ∷ []) × (t.use_of ≡ None)
        × HasGapTree d (gaps_of front)
    left_alone =
        let s = alike in
        let none : s.back' ≡ [] = none_plain s.back' s.backs in (
          s.front',
          s.tile',
          s.list ∙ ap (λ (ts : List Tile). s.front' ++ s.tile' ∷ ts) none,
          ap (λ (t : Tile). t.use_of) s.tiles ∙ l.free,
          subst (λ (gs : List Gap). HasGapTree d gs) (append-nil (gaps_of l.front)
              ∙ sym (same_gaps l.front s.front' s.fronts)) tree,
        )

    live_same : live_of d.bytes ≡ live_of w.bytes
    live_same = regrown_live w d r

    -- a window cut after its last block ends there
    pub end_cut : (e : WindowState) → MovesEnd current d e (least_size (live_of d.bytes))
        → MovesEnd current w e (least_size (live_of w.bytes))
    end_cut e m =
        let k : KeepsTo d e (least_size (live_of w.bytes)) (live_of w.bytes).extents =
        subst (λ (x : LiveSet). KeepsTo d e (least_size x) x.extents) live_same m.keeps in
        record {
          live = subst (λ (x : LiveSet). EncodesLiveSet current e.bytes (of_size x (least_size x))) live_same m.live;
          keeps = then-keeps_to w d e (least_size (live_of w.bytes)) (live_of w.bytes).extents
              (regrown_keeps w d (heap-says w heap).said (tree_says d (gaps_of l.front ++ []) tree).said r) r.size k;
        }

-- ---- without a gap at the end

own_size : (w : WindowState) → live_of w.bytes ≡ of_size (live_of w.bytes) (length w.bytes)
unfolding live_of
own_size w = refl

-- the window ends where it ended
same_end : (w : WindowState) (n : ℕ) → IsHeap current w.bytes → length w.bytes ≡ n → MovesEnd current w w n
same_end w n heap e =
    subst (λ k. MovesEnd current w w k) e (record {
      live = subst (EncodesLiveSet current w.bytes) (own_size w) heap;
      keeps = record {
        place = record { before = refl; bytes = refl; capacity = refl; after = refl };
        front = SameBytes-refl (bytes_of w.bytes) 0 24;
        behind = SameBytes-refl (bytes_of w.bytes) 32 128;
        blocks = blocks-refl (bytes_of w.bytes) (live_of w.bytes).extents;
      };
    })

no_gap : (o : Option Tile) → gap_offset o ≡ None → (t : Tile) → o ≡ Some t → is_free t ≡ false
no_gap None g t e = absurd (none-some t e)
no_gap (Some u) g t e =
    elim (use_cases u) [
      | unused f ↦ absurd (none-some u.offset (sym g ∙ cond-true (is_free u) (Some u.offset) None (unused-free u f)))
      | used role f ↦ subst (λ (v : Tile). is_free v ≡ false) (same_Some u t e) (used-not_free u role f)
    ]

-- a window with no gap at its end ends there
pub ends_there : (w : WindowState) (o : Option Tile) → IsHeap current w.bytes → o ≡ last_in (tiles_in w)
    → gap_offset o ≡ None
    → MovesEnd current w w (least_size (live_of w.bytes))
ends_there w o heap e g =
    let says = heap-says w heap in
    let size = legal_size (length w.bytes) says.said.size in let low = size.low in
    let uses : EndsUsed (tiles_in w) = λ t last. no_gap o g t (e ∙ last) in
    let ends = ap (λ (xs : List Extent). last_end 128 xs) (live_extents w)
    ∙ ends_used (tiles_in w) (length w.bytes - 16) (said_row w (tiles_in w) says.said) uses in
    same_end w (least_size (live_of w.bytes)) heap (omega arith)
