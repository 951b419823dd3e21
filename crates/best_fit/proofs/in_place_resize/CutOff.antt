-- A block is joined with the gap after it, which leaves the tree, and the part cut off enters the tree.
use Rattle.best_fit.proofs.Common.{◌≡◌, refl, sym, ap, subst, ◌∙◌, ℕ, ◌+◌, ◌-◌, ◌*◌, ◌≤◌, Bool, true, false, List, []}
use Rattle.best_fit.proofs.Common.{◌∷◌, ◌++◌, length, arith, nat_le, Some, map, min, Memory, WindowState, bytes_of}
use Rattle.best_fit.proofs.Common.{gap_offset, Tile, current, first_in, free_tile, next_in, tile_in, EncodesTiles, bits}
use Rattle.best_fit.proofs.Common.{target_of, Extent, Gap, LiveSet, handle, end_of, gap_after, others, resized, share}
use Rattle.best_fit.proofs.Common.{IsTreeOf, payloads, sorted_gaps, gap_of, gaps_of, gaps_in, plain, tiles_in}
use Rattle.best_fit.proofs.Common.{HasGapTree, LacksGap, ChangesGapTree, node_of, tile_list, IsHeap, KeepsBlocks}
use Rattle.best_fit.proofs.Common.{EncodesLiveSet, SameBlock, live_of, SplitsBlock, free_len, joined_free_at}
use Rattle.raw_region.proofs.Laws.{SameBytes-part}
use Rattle.best_fit.specs.Tiling.{ChangesTags, cut_at}
use Rattle.best_fit.proofs.allocation.LeastGap.{heap_tree, bits-le}
use Rattle.best_fit.proofs.tags.Frames.{SameBlock-trans, keeps-insert, keeps-others, keeps-trans}
use Rattle.best_fit.proofs.gaps.Nodes.{in_around}
use Rattle.best_fit.proofs.gaps.Order.{gap_tree_stays}
use Rattle.best_fit.proofs.gaps.OneField.{same_gaps}
use Rattle.best_fit.proofs.tags.TileJoins.{rest_of}
use Rattle.best_fit.proofs.deallocation.Coalescing.{alike, back_parts, begins, first-plain, same_rest, used_in}
use Rattle.best_fit.proofs.deallocation.OneGap.{HasUsed}
use Rattle.best_fit.proofs.tags.TagsAndLiveSet.{SaysHeap, heap-says}
use Rattle.best_fit.proofs.allocation.GapToBlock.{lays_out, planted_live}
use Rattle.best_fit.proofs.gaps.LinksOnly.{SplitsAlike, regrown_block, regrown_keeps, regrown_live, tree_says}
use Rattle.best_fit.proofs.in_place_resize.NextGap.{gap_is, joins, t_cell, t_cut_at, t_cuts, t_gaps, t_in, t_joins}
use Rattle.best_fit.proofs.in_place_resize.NextGap.{t_behind0, t_keeps, t_live, t_says, t_stands1, t_still, t_word}
use Rattle.best_fit.proofs.tags.TileRows.{Apart-is_merged, extent_of, gaps_of-used, gaps_of-append}
use Rattle.best_fit.proofs.tags.UnchangedTags.{In}
use Rattle.best_fit.proofs.tags.Writes.{Block}

free-plain : (ts : List Tile) → free_len (first_in (map plain ts)) ≡ free_len (first_in ts)
free-plain [] = refl
free-plain (t ∷ ts) = refl

same_free : (ts us : List Tile) → map plain us ≡ map plain ts → free_len (first_in us) ≡ free_len (first_in ts)
same_free ts us e = sym (free-plain us) ∙ ap (λ (vs : List Tile). free_len (first_in vs)) e ∙ free-plain ts

-- a front of a block stays if the block stays
front_block : (m m' : Memory) (x : Extent) (k : ℕ) → k ≤ x.len → SameBlock m m' x
    → SameBlock m m' (record x { len = k })
front_block m m' x k l s = record {
  payload = SameBytes-part m m' (handle x) (end_of x) (handle x) (x.offset + k) s.payload
      (omega arith) (omega arith);
  colour = s.colour;
}

-- The state after the block was joined with the gap after it, and cut or not. If it was cut, the remainder is a gap
-- that is not in the tree yet, which contains all other gaps.
pub record Recut (w new : WindowState) (at wanted : ℕ) (is_cut : Bool) : Type 0 where
  pub front : List Gap
  pub gap : Gap
  pub back : List Gap
  pub node : at + wanted + 16 ≡ node_of gap
  pub lacks : is_cut ≡ true → LacksGap new front gap back
  pub few : length (front ++ back) ≤ length (gaps_in w)
  pub whole : is_cut ≡ false → SplitsBlock current w new (at + 16) wanted
  pub split : is_cut ≡ true → (e : WindowState) → HasGapTree e (front ++ (gap ∷ back)) → ChangesGapTree new e
      → SplitsBlock current w e (at + 16) wanted

module _ (w : WindowState) (at : ℕ) (heap : IsHeap current w.bytes) (b : Block w (at + 16)) (wanted : ℕ) where
  gaps_w : gaps_in w ≡ gaps_of b.front ++ (gaps_of (tile_list (first_in b.back)) ++ gaps_of (rest_of b.back))
  gaps_w =
      ap gaps_of b.list ∙ gaps_of-append b.front (b.tile ∷ b.back) ∙ ap (λ (hs : List Gap). gaps_of b.front ++ hs)
      (gaps_of-used b.tile b.back b.role b.in_use)
      ∙ ap (λ (hs : List Gap). gaps_of b.front ++ hs) (ap gaps_of (back_parts b.back)
      ∙ gaps_of-append (tile_list (first_in b.back)) (rest_of b.back))

  -- the tree has all gaps, in three parts
  pub tree_w : HasGapTree w (gaps_of b.front ++ (gaps_of (tile_list (first_in b.back)) ++ gaps_of (rest_of b.back)))
  tree_w = subst (λ (hs : List Gap). HasGapTree w hs) gaps_w (heap_tree w heap)

  abbrev x : Extent
  x = extent_of b.tile b.role

  abbrev y : Extent
  y = record {
    offset = b.tile.offset;
    len = share (b.tile.len + gap_after (live_of w.bytes) (extent_of b.tile b.role)) wanted;
    role = b.role;
  }

  -- the gap after the block has left the tree, and the touches from `before` on are within the bound
  pub record TailUprooted (d : WindowState) (before count : ℕ) : Type 0 where
    pub tree : HasGapTree d (gaps_of b.front ++ gaps_of (rest_of b.back))
    pub rest : ChangesGapTree w d
    pub steps : count ≤ before + 32 * bits (length (gaps_in w) + 1) + 34

  -- the gap after the block leaves the tree
  pub tail_uprooted : (d : WindowState) (before n count : ℕ)
      → HasGapTree d (gaps_of b.front ++ gaps_of (rest_of b.back))
      → ChangesGapTree w d → n ≤ before + 1
      → count ≤ n + 32
      * bits (length (gaps_of b.front ++ (gaps_of (tile_list (first_in b.back)) ++ gaps_of (rest_of b.back))) + 1)
      + 33 → TailUprooted d before count
  tail_uprooted d before n count tree rest low high =
      let few = tree_w.some.few in
      let most = bits-le
      (length (gaps_of b.front ++ (gaps_of (tile_list (first_in b.back)) ++ gaps_of (rest_of b.back))) + 1)
      (length (gaps_in w) + 1) (omega arith) in
      record { tree = tree; rest = rest; steps = omega arith }

  module _ (d : WindowState) (h : HasGapTree d (gaps_of b.front ++ gaps_of (rest_of b.back)))
      (r : ChangesGapTree w d) where
    abbrev s : SplitsAlike (tiles_in d) b.front b.tile b.back
    s = alike w at heap b d r

    -- the block with the gap after it out of the tree
    abbrev pub joinable : HasUsed d at
    joinable = used_in w at heap b d (gaps_of b.front ++ gaps_of (rest_of b.back)) h r

    offset_d : s.tile'.offset ≡ b.tile.offset
    offset_d = ap (λ (t : Tile). t.offset) s.tiles

    tree_d : HasGapTree d (gaps_of s.front' ++ gaps_of (rest_of s.back'))
    tree_d = subst (λ (hs : List Gap). HasGapTree d hs)
        (sym (ap (λ (hs : List Gap). hs ++ gaps_of (rest_of s.back')) (same_gaps b.front s.front' s.fronts)
        ∙ ap (λ (hs : List Gap). gaps_of b.front ++ hs) (same_rest b.back s.back' s.backs))) h

    abbrev j : ℕ
    j = (t_joins joinable wanted).gap

    -- the tile and the gap after it are as long as the old block and the gap after it
    long_d : s.tile'.len + j ≡ b.tile.len + gap_after (live_of w.bytes) (extent_of b.tile b.role)
    long_d =
        let l : s.tile'.len ≡ b.tile.len = ap (λ (t : Tile). t.len) s.tiles in
        let g : j ≡ gap_after (live_of w.bytes) (extent_of b.tile b.role) =
        sym (t_joins joinable wanted).len
        ∙ same_free b.back s.back' s.backs ∙ (joins w heap (at + 16) at b (begins w at heap b) wanted).len
        ∙ sym (gap_is w heap (at + 16) at b (begins w at heap b) wanted) in
        omega arith

    -- the gap after it is at its old offset
    pub c_behind0 : (ts : List Tile) → EncodesTiles d ts → gap_offset (next_in ts at) ≡ gap_offset (first_in b.back)
    c_behind0 ts said = t_behind0 joinable wanted ts said
        ∙ first-plain b.back s.back' s.backs

    module _ {mid : WindowState} (join : ChangesTags d mid (joined_free_at at)) where
      module _ {new : WindowState} (cut : ChangesTags mid new (cut_at at wanted)) where
        abbrev says_new : SaysHeap new (tiles_in new)
        says_new = t_says joinable wanted join cut

        y_is : record { offset = s.tile'.offset; len = share (s.tile'.len + j) wanted; role = b.role } ≡ y
        y_is = let l = long_d in λ i. record { offset = offset_d i; len = share (l i) wanted; role = b.role }

        live_new : live_of new.bytes ≡ resized (live_of w.bytes) y
        live_new =
            t_live joinable wanted join cut
            ∙ ap (λ (l : LiveSet). resized l (record {
              offset = s.tile'.offset;
              len = share (s.tile'.len + j) wanted;
              role = b.role;
            })) (regrown_live w d r)
            ∙ ap (resized (live_of w.bytes)) y_is

        keeps_new : KeepsBlocks w new (others (handle x) (live_of w.bytes).extents)
        keeps_new =
            let first = keeps-others w d (at + 16) (live_of w.bytes).extents
            (regrown_keeps w d (heap-says w heap).said joinable.says.said r) in
            let second = subst (λ (l : LiveSet). KeepsBlocks d new (others (at + 16) l.extents)) (regrown_live w d r)
            (t_keeps joinable wanted join cut) in
            subst (λ k. KeepsBlocks w new (others (k + 16) (live_of w.bytes).extents)) (sym (begins w at heap b))
            (keeps-trans w d new (others (at + 16) (live_of w.bytes).extents) first second)

        abbrev both : Extent
        both = record x
            { len = min b.tile.len (share (b.tile.len + gap_after (live_of w.bytes) (extent_of b.tile b.role)) wanted) }

        still_new : SameBlock (bytes_of w.bytes) (bytes_of new.bytes) both
        still_new =
            let i : In b.tile (tiles_in w) = subst (λ (ts : List Tile). In b.tile ts) (sym b.list)
            (in_around b.front b.tile b.back) in
            let first = front_block (bytes_of w.bytes) (bytes_of d.bytes) x
            (min b.tile.len
            (share (b.tile.len + gap_after (live_of w.bytes) (extent_of b.tile b.role)) wanted)) (omega arith)
            (regrown_block w d (heap-says w heap).said joinable.says.said r b.tile i b.role b.in_use) in
            let l = long_d in let n : s.tile'.len ≡ b.tile.len = ap (λ (t : Tile). t.len) s.tiles in
            let second = subst (λ (z : Extent). SameBlock (bytes_of d.bytes) (bytes_of new.bytes) z)
            (λ i. record { offset = offset_d i; len = min (n i) (share (l i) wanted); role = b.role })
            (t_still joinable wanted join cut) in
            SameBlock-trans (bytes_of w.bytes) (bytes_of d.bytes) (bytes_of new.bytes) both first second

        tree_new : IsTreeOf (bytes_of new.bytes) 24
            (payloads (sorted_gaps (gaps_of s.front' ++ gaps_of (rest_of s.back'))))
        tree_new =
            gap_tree_stays (bytes_of d.bytes) (bytes_of new.bytes) (gaps_of s.front' ++ gaps_of (rest_of s.back'))
            (ap (target_of 24) (t_word joinable wanted join cut)) (t_cell joinable wanted join cut) tree_d.tree

        gaps_new : gaps_in new ≡ gaps_of s.front'
            ++ (gaps_of (t_cuts joinable wanted).left
            ++ gaps_of (rest_of s.back'))
        gaps_new = t_gaps joinable wanted join cut

        -- whether a rest is left
        c_cut : (left : Bool) → ((ts : List Tile) (t : Tile) → EncodesTiles mid ts → tile_in ts at ≡ Some t
            → left ≡ nat_le (wanted + 32) t.len)
            → nat_le (wanted + 32) (b.tile.len + gap_after (live_of w.bytes) (extent_of b.tile b.role)) ≡ left
        c_cut left is =
            let h1 = t_stands1 joinable wanted join in
            subst (λ k. nat_le (wanted + 32) k ≡ left) long_d
            (sym (is h1.tiles (record s.tile' { len = s.tile'.len + j }) h1.said
            (t_cut_at joinable wanted join h1.tiles h1.said)))

        c_whole : nat_le (wanted + 32) (b.tile.len + gap_after (live_of w.bytes) (extent_of b.tile b.role)) ≡ false
            → SplitsBlock current w new (at + 16) wanted
        c_whole e =
            let gs : gaps_in new ≡ gaps_of s.front' ++ gaps_of (rest_of s.back') =
            gaps_new ∙ ap (λ (ts : List Tile). gaps_of s.front' ++ (gaps_of ts ++ gaps_of (rest_of s.back')))
            ((t_cuts joinable wanted).keeps
            (subst (λ k. nat_le (wanted + 32) k ≡ false) (sym long_d) e)) in
            record {
              extent = x;
              found = b.extent;
              resized = record {
                live = subst (EncodesLiveSet current new.bytes) live_new
                    (lays_out new says_new
                    (subst (λ (hs : List Gap). IsTreeOf (bytes_of new.bytes) 24 (payloads (sorted_gaps hs)))
                    (sym gs) tree_new));
                keeps = keeps_new;
                still = still_new;
              };
            }

        rest_gap : Gap
        rest_gap = gap_of (free_tile (s.tile'.offset + wanted) (s.tile'.len + j - wanted))

        rest_node : at + wanted + 16 ≡ node_of rest_gap
        unfolding rest_gap
        rest_node = let e = joinable.at in omega arith

        fronts : List Gap
        fronts = gaps_of s.front'

        backs : List Gap
        backs = gaps_of (rest_of s.back')

        c_lacks : nat_le (wanted + 32) (b.tile.len + gap_after (live_of w.bytes) (extent_of b.tile b.role)) ≡ true
            → LacksGap new fronts rest_gap backs
        unfolding rest_gap fronts backs
        c_lacks e =
            record {
              said = says_new.said;
              merged = Apart-is_merged false (tiles_in new) says_new.apart;
              gaps = gaps_new ∙ ap (λ (ts : List Tile). gaps_of s.front' ++ (gaps_of ts ++ gaps_of (rest_of s.back')))
                  ((t_cuts joinable wanted).splits
                  (subst (λ k. nat_le (wanted + 32) k ≡ true) (sym long_d) e));
              tree = tree_new;
            }

        c_few : length (fronts ++ backs) ≤ length (gaps_in w)
        unfolding fronts backs
        c_few =
            let few = tree_d.some.few in
            let same : length (gaps_in d) ≡ length (gaps_in w) = ap (λ (hs : List Gap). length hs)
            (same_gaps (tiles_in w) (tiles_in d) r.tiles) in
            omega arith

        module _ (e : WindowState) (planted : HasGapTree e (fronts ++ (rest_gap ∷ backs)))
            (regrown : ChangesGapTree new e)
            (split : nat_le (wanted + 32)
            (b.tile.len + gap_after (live_of w.bytes) (extent_of b.tile b.role)) ≡ true) where
          says_e : SaysHeap e (tiles_in e)
          says_e = tree_says e (fronts ++ (rest_gap ∷ backs)) planted

          c_split : SplitsBlock current w e (at + 16) wanted
          c_split =
              let last = subst (λ (l : LiveSet). KeepsBlocks new e l.extents) live_new
              (regrown_keeps new e says_new.said says_e.said regrown) in
              let keep_last = keeps-insert new e y (others (handle x) (live_of w.bytes).extents) last in
              let l = long_d in
              let whole = subst (λ (z : Extent). SameBlock (bytes_of new.bytes) (bytes_of e.bytes) z) y_is
              (regrown_block new e says_new.said says_e.said regrown
              (record s.tile' { len = share (s.tile'.len + j) wanted })
              (t_in joinable wanted join cut) b.role joinable.in_use) in
              let third = front_block (bytes_of new.bytes) (bytes_of e.bytes) y
              (min b.tile.len (share (b.tile.len + gap_after (live_of w.bytes) (extent_of b.tile b.role)) wanted))
              (omega arith) whole in
              record {
                extent = x;
                found = b.extent;
                resized = record {
                  live = subst (EncodesLiveSet current e.bytes) live_new
                      (planted_live new e (fronts ++ (rest_gap ∷ backs)) (c_lacks split).gaps planted regrown);
                  keeps = keeps-trans w new e (others (handle x) (live_of w.bytes).extents) keeps_new keep_last;
                  still = SameBlock-trans (bytes_of w.bytes) (bytes_of new.bytes)
                      (bytes_of e.bytes) both still_new third;
                };
              }

        pub recut : (left : Bool) → ((ts : List Tile) (t : Tile) → EncodesTiles mid ts → tile_in ts at ≡ Some t
            → left ≡ nat_le (wanted + 32) t.len) → Recut w new at wanted left
        recut left is =
            record {
              front = fronts;
              gap = rest_gap;
              back = backs;
              node = rest_node;
              lacks = λ e. c_lacks (c_cut left is ∙ e);
              few = c_few;
              whole = λ e. c_whole (c_cut left is ∙ e);
              split = λ e d planted regrown. c_split d planted regrown (c_cut left is ∙ e);
            }
