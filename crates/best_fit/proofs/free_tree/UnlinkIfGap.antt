-- A tile that is free is removed from the tree; any other tile is not in the tree.
use Rattle.best_fit.proofs.Common.{◌≡◌, refl, sym, ap, subst, ◌∙◌, ℕ, ◌+◌, ◌≤◌, true, List, [], ◌∷◌, ◌++◌, length}
use Rattle.best_fit.proofs.Common.{arith, Option, Some, None, cond-true, cond-false, same_Some, WindowState, Tile}
use Rattle.best_fit.proofs.Common.{is_free, is_in, none_some, Gap, payloads, gaps_of, is_good-IsGoodHeap, HasGapTree}
use Rattle.best_fit.proofs.Common.{ChangesGapTree, gap_offset, tile_list, offset_of}
use Rattle.best_fit.proofs.free_tree.Trees.{in_here}
use Rattle.best_fit.proofs.gaps.Nodes.{node_at}
use Rattle.best_fit.proofs.tags.TileRows.{unused, used, use_cases, unused-free, used-not_free, gaps_of-free}
use Rattle.best_fit.proofs.tags.TileRows.{gaps_of-used}

-- a list of at most one gap, by its offset
pub record One (gs : List Gap) (at : ℕ) : Type 0 where
  pub gap : Gap
  pub list : gs ≡ gap ∷ []
  pub offset : at ≡ gap.offset

-- there is at most one gap, at this offset
pub one_gap : (gs : List Gap) (at : ℕ) → Some at ≡ offset_of gs → length gs ≤ 1 → One gs at
one_gap [] at e l = absurd (none_some at (sym e))
one_gap (g ∷ []) at e l = record { gap = g; list = refl; offset = same_Some at g.offset e }
one_gap (g ∷ h ∷ gs) at e l = absurd (omega arith)

-- the gaps of a tile, or none
pub option_offset : (o : Option Tile) → gap_offset o ≡ offset_of (gaps_of (tile_list o))
option_offset None = refl
option_offset (Some t) =
    elim (use_cases t) [
      | unused e ↦ cond-true (is_free t) (Some t.offset) None (unused-free t e)
          ∙ sym (ap offset_of (gaps_of-free t [] e))
      | used role e ↦ cond-false (is_free t) (Some t.offset) None (used-not_free t role e)
          ∙ sym (ap offset_of (gaps_of-used t [] role e))
    ]

-- a tile, if there is one, is at most one gap
pub option_few : (o : Option Tile) → length (gaps_of (tile_list o)) ≤ 1
option_few None = omega arith
option_few (Some t) =
    elim (use_cases t) [
      | unused e ↦ let n : length (gaps_of (t ∷ [])) ≡ 1 = ap (λ (gs : List Gap). length gs)
          (gaps_of-free t [] e) in omega arith
      | used role e ↦ let n : length (gaps_of (t ∷ [])) ≡ 0 = ap (λ (gs : List Gap). length gs)
          (gaps_of-used t [] role e) in omega arith
    ]

-- ---- an existing gap

module _ (c : WindowState) (xs gs ys : List Gap) (at : ℕ) (o : One gs at) (h : HasGapTree c (xs ++ (gs ++ ys))) where
  pub one_tree : HasGapTree c (xs ++ (o.gap ∷ ys))
  one_tree = subst (λ (ks : List Gap). HasGapTree c (xs ++ (ks ++ ys))) o.list h

  -- the gap is a node
  pub one_listed : is_in (at + 16) (payloads (xs ++ (gs ++ ys))) ≡ true
  one_listed =
      subst (λ (ks : List Gap). is_in (at + 16) (payloads (xs ++ (ks ++ ys))) ≡ true) (sym o.list)
      (subst (λ k. is_in (k + 16) (payloads (xs ++ (o.gap ∷ ys))) ≡ true) (sym o.offset) (in_here xs o.gap ys))

  -- the gap lies below 1 GiB
  pub one_small : at + 16 ≤ 1073741824
  one_small =
      let d = node_at c (at + 16)
      (record { good = is_good-IsGoodHeap c h.good; listed = h.some.listed (at + 16) one_listed }) in
      let long = d.long in let ends = d.ends in let size = d.size in omega arith

pub none_tree : (c : WindowState) (xs gs ys : List Gap) → gs ≡ [] → HasGapTree c (xs ++ (gs ++ ys))
    → HasGapTree c (xs ++ ys)
none_tree c xs gs ys e h = subst (λ (ks : List Gap). HasGapTree c (xs ++ (ks ++ ys))) e h

-- an unchanged window is a change of the tree
pub regrown-refl : (c : WindowState) → ChangesGapTree c c
regrown-refl c = record {
  place = record { before = refl; after = refl };
  size = refl;
  tiles = refl;
  bytes = λ k i o. refl;
}
