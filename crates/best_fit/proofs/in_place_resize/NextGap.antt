-- A block that takes the gap after it and is cut.
use Rattle.best_fit.proofs.Common.{◌≡◌, refl, sym, ap, subst, ◌∙◌, ℕ, ◌+◌, ◌-◌, ◌≤◌, inl, Bool, true, false, List, []}
use Rattle.best_fit.proofs.Common.{◌∷◌, ◌++◌, length, arith, ◌==◌, IsTrue, Option, Some, None, find, min, eq-eqb}
use Rattle.best_fit.proofs.Common.{both_ways, WindowState, bytes_of, Role, Tile, current, tile_in, is_free}
use Rattle.best_fit.proofs.Common.{EncodesTiles, first_in, gap_offset, next_in, HasTileAt, Extent, handle, gap_after}
use Rattle.best_fit.proofs.Common.{insert, is_extent, others, resized, share, IsHeap, KeepsBlocks, live_of, cut_to}
use Rattle.best_fit.proofs.Common.{free_behind, free_len, joined_free_at, with_free_behind, word_at, tiles_are_read_off}
use Rattle.best_fit.proofs.Common.{is_in, Gap, cells_of, payloads, gaps_of, gaps_in, tiles_in, SameBlock}
use Rattle.best_fit.specs.Tiling.{ChangesTags, cut_at}
use Rattle.best_fit.proofs.tags.RowParts.{Away, apart_back, apart_front, apart_joined, away_front, changed_at-around}
use Rattle.best_fit.proofs.tags.RowParts.{next_in-around, row_back, row_end, row_reaches}
use Rattle.best_fit.proofs.extents.Changes.{is_extent-IsNeighbour, is_proper-IsProper, next_to}
use Rattle.best_fit.proofs.tags.Frames.{SameBlock-trans, keeps-trans}
use Rattle.best_fit.proofs.tags.TileJoins.{CutsTo, JoinsTo, cuts_to, joins_to, extents_of-append}
use Rattle.best_fit.proofs.tags.TileJoins.{insert_between, rest_of, row_before}
use Rattle.best_fit.proofs.tags.TagsAndLiveSet.{SaysHeap, heap-says, said_row, says_of}
use Rattle.best_fit.proofs.extents.Proper.{behind, behind-here, behind-past, next_of}
use Rattle.best_fit.proofs.tags.TileRows.{Row, Apart, unused, used, use_cases, extents_of, extent_of, extents_of-free}
use Rattle.best_fit.proofs.tags.TileRows.{extents_of-used, unused-free, used-not_free, gaps_of-append, gaps_of-used}
use Rattle.best_fit.proofs.tags.UnchangedTags.{In, Stays, TagStep, around_keeps, in_back, step_block}
use Rattle.best_fit.proofs.tags.UnchangedTags.{step_word, tag_step}
use Rattle.best_fit.proofs.gaps.Nodes.{free_at, in_around}
use Rattle.best_fit.proofs.gaps.Setters.{step_cell}
use Rattle.best_fit.proofs.deallocation.OneGap.{HasUsed, behind_at, in_parts_wide, in_rest, joined_keeps, stands_at}
use Rattle.best_fit.proofs.deallocation.OneGap.{tile_at_is, used_apart, used_away, used_others, used_said}
use Rattle.best_fit.proofs.tags.Writes.{Block}

-- ---- the gap after a tile

-- after a free tile, or at once if there is none, the next extent begins
next_at : (at : ℕ) (ts : List Tile) (end : ℕ) → Row at ts end → Apart true ts → next_of (extents_of ts) end ≡ at
next_at at [] end row a = sym row
next_at at (t ∷ ts) end row a =
    elim (use_cases t) [
      | unused e ↦ absurd (a.0 refl (unused-free t e))
      | used role e ↦ ap (λ xs. next_of xs end) (extents_of-used t ts role e) ∙ row.0
    ]

-- the extents after a tile in use
behind_between : (at : ℕ) (front : List Tile) (t : Tile) (back : List Tile) (end : ℕ) (role : Role)
    → Row at (front ++ (t ∷ back)) end → t.use_of ≡ Some role
    → behind (t.offset + 16) (extents_of (front ++ (t ∷ back))) ≡ extents_of back
behind_between at [] t back end role r e = ap (behind (t.offset + 16)) (extents_of-used t back role e)
    ∙ behind-here (t.offset + 16) (extent_of t role) (extents_of back) refl
behind_between at (u ∷ front) t back end role r e =
    let ends = row_before at u front t back end r in let long = r.1 in
    let rest = behind_between (at + u.len) front t back end role r.3 e in
    elim (use_cases u) [
      | unused f ↦ ap (behind (t.offset + 16)) (extents_of-free u (front ++ (t ∷ back)) f) ∙ rest
      | used q f ↦ ap (behind (t.offset + 16)) (extents_of-used u (front ++ (t ∷ back)) q f)
          ∙ behind-past (t.offset + 16) (extent_of u q) (extents_of (front ++ (t ∷ back))) (λ g. omega arith) ∙ rest
    ]

-- ---- the block and the gap after it

module _ (old : WindowState) (heap : IsHeap current old.bytes) (h at : ℕ) (b : Block old h)
    (o : b.tile.offset ≡ at) (wanted : ℕ) where
  -- the block joined with the gap after it
  pub joins : JoinsTo b.tile b.back
  joins = joins_to b.tile b.back

  abbrev joined : Tile
  joined = record b.tile { len = b.tile.len + joins.gap }

  cuts : CutsTo wanted (record b.tile { len = b.tile.len + joins.gap }) joins.left
  cuts = cuts_to wanted (record b.tile { len = b.tile.len + joins.gap }) joins.left

  abbrev cut_tile : Tile
  cut_tile = record b.tile { len = share (b.tile.len + joins.gap) wanted }

  abbrev extent : Extent
  extent = extent_of b.tile b.role

  old_row : Row 128 (b.front ++ (b.tile ∷ b.back)) (length old.bytes - 16)
  old_row = said_row old (b.front ++ (b.tile ∷ b.back)) b.said

  away0 : Away at b.front
  away0 = subst (λ k. Away k b.front) o (away_front 128 b.front b.tile b.back (length old.bytes - 16) old_row)

  old_extents : (live_of old.bytes).extents ≡ extents_of (b.front ++ (b.tile ∷ b.back))
  unfolding live_of
  old_extents = ap extents_of b.list

  old_size : length old.bytes ≡ (live_of old.bytes).size
  unfolding live_of
  old_size = refl

  same_len : (x : Extent) (y : Option Extent) → y ≡ Some x
      → (elim y as (λ _. Bool) [ None ↦ false | Some z ↦ z.len == x.len ]) ≡ true
  same_len x y e = ap (λ (v : Option Extent). elim v as (λ _. Bool) [ None ↦ false | Some z ↦ z.len == x.len ]) e
      ∙ eq-eqb x.len x.len refl

  -- the block is in the live set
  pub is_one : IsTrue (is_extent (live_of old.bytes) (extent_of b.tile b.role))
  is_one =
      same_len extent (find (λ (y : Extent). handle y == handle extent) (live_of old.bytes).extents)
      (ap (λ k. find (λ (y : Extent). handle y == k) (live_of old.bytes).extents) b.at ∙ b.extent)

  next_is : next_to (live_of old.bytes) (extent_of b.tile b.role) ≡ b.tile.offset + b.tile.len + joins.gap
  unfolding next_to
  next_is =
      let back_row = row_back 128 b.front (b.tile ∷ b.back) (length old.bytes - 16) old_row in
      let apart = apart_back false b.front (b.tile ∷ b.back) (subst (Apart false) b.list (heap-says old heap).apart) in
      let left_row = joins.row (b.tile.offset + b.tile.len) (length old.bytes - 16)
      (subst (λ k. Row k b.back (length old.bytes - 16)) (ap (λ k. k + b.tile.len) (sym back_row.0)) back_row.3) in
      ap (λ xs. next_of (behind (b.tile.offset + 16) xs) ((live_of old.bytes).size - 16)) old_extents
      ∙ ap (λ xs. next_of xs ((live_of old.bytes).size - 16))
      (behind_between 128 b.front b.tile b.back (length old.bytes - 16) b.role old_row b.in_use ∙ joins.extents)
      ∙ ap (λ n. next_of (extents_of joins.left) (n - 16)) (sym old_size)
      ∙ next_at (b.tile.offset + b.tile.len + joins.gap) joins.left (length old.bytes - 16) left_row
      (joins.apart (is_free b.tile) apart.1)

  -- the gap after the block is the gap that it is joined with
  pub gap_is : gap_after (live_of old.bytes) (extent_of b.tile b.role) ≡ joins.gap
  gap_is =
      let n = is_extent-IsNeighbour (live_of old.bytes) (extent_of b.tile b.role)
      (is_proper-IsProper (live_of old.bytes) heap.proper) is_one in
      let reaches = n.gap in let is = next_is in omega arith

  -- its length is the one that was read
  pub gap_read : (g : ℕ) → ((ts : List Tile) → EncodesTiles old ts → g ≡ free_behind at ts)
      → g ≡ gap_after (live_of old.bytes) (extent_of b.tile b.role)
  gap_read g is =
      is (b.front ++ (b.tile ∷ b.back)) b.said ∙ ap free_len (next_in-around at b.tile b.back o b.front away0)
      ∙ joins.len ∙ sym gap_is

  -- and lies in the window
  pub gap_high : b.tile.len + gap_after (live_of old.bytes) (extent_of b.tile b.role) ≤ 1073741824
  gap_high =
      let back_row = row_back 128 b.front (b.tile ∷ b.back) (length old.bytes - 16) old_row in
      let left_row = joins.row (row_end 128 b.front + b.tile.len) (length old.bytes - 16) back_row.3 in
      let reaches = row_reaches (row_end 128 b.front + b.tile.len + joins.gap) joins.left
      (length old.bytes - 16) left_row in
      let size = b.size in let is = gap_is in omega arith

-- ---- the two steps, in a window in which the gap after has left the tree

module _ {old : WindowState} {at : ℕ} (p : HasUsed old at) (wanted : ℕ) where
  -- the tile joined with the gap after it
  pub t_joins : JoinsTo p.tile p.back
  t_joins = joins_to p.tile p.back

  abbrev t_joined : Tile
  t_joined = record p.tile { len = p.tile.len + t_joins.gap }

  -- the tile after the cut
  pub t_cuts : CutsTo wanted (record p.tile { len = p.tile.len + t_joins.gap }) t_joins.left
  t_cuts = cuts_to wanted (record p.tile { len = p.tile.len + t_joins.gap }) t_joins.left

  abbrev t_cut_tile : Tile
  t_cut_tile = record p.tile { len = share (p.tile.len + t_joins.gap) wanted }

  abbrev t_list : List Tile
  t_list = p.front ++ (t_cut_tile ∷ (t_cuts.left ++ t_joins.left))

  abbrev result : Extent
  result = record { offset = p.tile.offset; len = share (p.tile.len + t_joins.gap) wanted; role = p.role }

  -- the block, as long as it is before and after
  abbrev both_len : Extent
  both_len = record (extent_of p.tile p.role) { len = min p.tile.len (share (p.tile.len + t_joins.gap) wanted) }

  -- the tile is at its offset before
  pub t_stands0 : HasTileAt old at
  t_stands0 = stands_at p.front (used_away p) p.tile p.back p.at (used_said p)

  -- and the gap after it where it was read
  pub t_behind0 : (ts : List Tile) → EncodesTiles old ts → gap_offset (next_in ts at) ≡ gap_offset (first_in p.back)
  t_behind0 = behind_at p.front (used_away p) p.tile p.back p.at (used_said p)

  module _ {mid : WindowState} (join : ChangesTags old mid (joined_free_at at)) where
    step1 : TagStep old mid (p.front ++ (p.tile ∷ p.back)) (p.front ++ (t_joined ∷ t_joins.left))
    step1 = tag_step (p.front ++ (p.tile ∷ p.back)) (p.front ++ (t_joined ∷ t_joins.left)) (used_said p)
        (changed_at-around at p.tile p.back p.at with_free_behind p.front (used_away p)
        ∙ ap (λ (ts : List Tile). p.front ++ ts) t_joins.is) join

    -- the tile is at its offset in between
    pub t_stands1 : HasTileAt mid at
    t_stands1 = stands_at p.front (used_away p) t_joined t_joins.left p.at step1.says

    -- the tile that is cut is the joined one
    pub t_cut_at : (ts : List Tile) → EncodesTiles mid ts
        → tile_in ts at ≡ Some (record p.tile { len = p.tile.len + t_joins.gap })
    t_cut_at = tile_at_is p.front (used_away p) t_joined t_joins.left p.at step1.says

    module _ {new : WindowState} (cut : ChangesTags mid new (cut_at at wanted)) where
      step2 : TagStep mid new (p.front ++ (t_joined ∷ t_joins.left)) t_list
      step2 = tag_step (p.front ++ (t_joined ∷ t_joins.left)) t_list step1.says
          (changed_at-around at t_joined t_joins.left p.at (cut_to wanted) p.front (used_away p)
          ∙ ap (λ (ts : List Tile). p.front ++ ts) t_cuts.is) cut

      new_extents : extents_of t_list ≡ insert result (others (at + 16) (live_of old.bytes).extents)
      new_extents =
          extents_of-append p.front (t_cut_tile ∷ (t_cuts.left ++ t_joins.left))
          ∙ ap (λ xs. extents_of p.front ++ xs) (extents_of-used t_cut_tile (t_cuts.left ++ t_joins.left) p.role
          p.in_use)
          ∙ ap (λ xs. extents_of p.front ++ (result ∷ xs)) (t_cuts.extents ∙ sym t_joins.extents)
          ∙ sym (ap (insert result) (used_others p)
          ∙ insert_between 128 p.front p.tile p.back (length old.bytes - 16) result
          (said_row old (p.front ++ (p.tile ∷ p.back)) (used_said p)) refl)

      keeps2 : KeepsBlocks mid new (extents_of p.front ++ extents_of p.back)
      keeps2 = subst (λ xs. KeepsBlocks mid new (extents_of p.front ++ xs)) (sym t_joins.extents)
          (around_keeps p.front (t_joined ∷ []) (t_cut_tile ∷ t_cuts.left) t_joins.left step2)

      -- a tile that stays at its place, with another length
      still : (t u : Tile) (ts us : List Tile) → t.offset ≡ p.tile.offset → u.offset ≡ p.tile.offset
          → u.use_of ≡ t.use_of → u.red ≡ t.red → both_len.len ≤ t.len → both_len.len ≤ u.len
          → Stays (p.front ++ (t ∷ ts)) (p.front ++ (u ∷ us)) both_len
      still t u ts us a b same red l k = record {
        old = t;
        new = u;
        in_old = in_back t p.front (t ∷ ts) (inl refl);
        in_new = in_back u p.front (u ∷ us) (inl refl);
        at_old = a;
        at_new = b;
        same_use = same;
        red = red;
        within_old = l;
        within_new = k;
      }

      new_apart : Apart false t_list
      new_apart =
          let behind_it = apart_back false p.front (p.tile ∷ p.back) (used_apart p) in
          let no_free = used-not_free p.tile p.role p.in_use in
          apart_joined false p.front (t_cut_tile ∷ (t_cuts.left ++ t_joins.left))
          (apart_front false p.front (p.tile ∷ p.back) (used_apart p)) (
            λ last f. both_ways (is_free p.tile) no_free f,
            subst (λ (v : Bool). Apart v (t_cuts.left ++ t_joins.left))
                (sym no_free) (t_cuts.apart (t_joins.apart (is_free p.tile) behind_it.1)),
          )

      -- the tiles with the block resized
      pub t_says : SaysHeap new (tiles_in new)
      t_says = says_of new t_list step2.says new_apart

      pub t_live : live_of new.bytes ≡ resized (live_of old.bytes)
          (record { offset = p.tile.offset; len = share (p.tile.len + t_joins.gap) wanted; role = p.role })
      unfolding live_of
      t_live =
          let size = step2.same.size ∙ step1.same.size in
          let x = ap extents_of (tiles_are_read_off new t_list step2.says) ∙ new_extents
          ∙ ap (λ k. insert result (others (k + 16) (live_of old.bytes).extents)) (sym p.at) in
          λ i. record { size = size i; extents = x i }

      pub t_keeps : KeepsBlocks old new (others (at + 16) (live_of old.bytes).extents)
      t_keeps = subst (KeepsBlocks old new) (sym (used_others p))
          (keeps-trans old mid new (extents_of p.front ++ extents_of p.back)
          (joined_keeps p.front p.tile t_joined p.back t_joins step1) keeps2)

      pub t_still : SameBlock (bytes_of old.bytes) (bytes_of new.bytes)
          (record (extent_of p.tile p.role) { len = min p.tile.len (share (p.tile.len + t_joins.gap) wanted) })
      t_still =
          SameBlock-trans (bytes_of old.bytes) (bytes_of mid.bytes) (bytes_of new.bytes) both_len
          (step_block step1 both_len (still p.tile t_joined p.back t_joins.left refl refl refl refl (omega arith)
          (omega arith)))
          (step_block step2 both_len (still t_joined t_cut_tile t_joins.left (t_cuts.left ++ t_joins.left) refl refl
          refl refl (omega arith) (omega arith)))

      pub t_gaps : gaps_in new ≡ gaps_of p.front ++ (gaps_of t_cuts.left ++ gaps_of (rest_of p.back))
      t_gaps =
          ap gaps_of (tiles_are_read_off new t_list step2.says)
          ∙ gaps_of-append p.front (t_cut_tile ∷ (t_cuts.left ++ t_joins.left))
          ∙ ap (λ (hs : List Gap). gaps_of p.front ++ hs) (gaps_of-used t_cut_tile (t_cuts.left ++ t_joins.left) p.role
          p.in_use ∙ gaps_of-append t_cuts.left t_joins.left
          ∙ ap (λ (hs : List Gap). gaps_of t_cuts.left ++ hs) t_joins.gaps)

      pub t_word : word_at (bytes_of new.bytes) 24 ≡ word_at (bytes_of old.bytes) 24
      t_word = step_word step2 ∙ step_word step1

      pub t_cell : (m : ℕ) → is_in m (payloads (gaps_of p.front ++ gaps_of (rest_of p.back))) ≡ true
          → cells_of (bytes_of new.bytes) m ≡ cells_of (bytes_of old.bytes) m
      t_cell m i =
          let f = free_at (p.front ++ rest_of p.back) m
          (subst (λ (hs : List Gap). is_in m (payloads hs) ≡ true) (sym (gaps_of-append p.front (rest_of p.back))) i) in
          let u = f.tile in
          let h : In u (p.front ++ rest_of p.back) = subst (λ (us : List Tile). In u us) (sym f.list)
          (in_around f.front u f.back) in
          let i0 : In u (p.front ++ (p.tile ∷ p.back)) = in_parts_wide u p.front (rest_of p.back) p.front (p.tile ∷ [])
          p.back (λ a. a) (in_rest u p.back) h in
          let i1 : In u (p.front ++ (t_joined ∷ t_joins.left)) = in_parts_wide u p.front (rest_of p.back) p.front
          (t_joined ∷ []) t_joins.left (λ a. a) (t_joins.rest_in u) h in
          let i2 : In u t_list = in_parts_wide u p.front (rest_of p.back) p.front (t_cut_tile ∷ t_cuts.left)
          t_joins.left (λ a. a) (t_joins.rest_in u) h in
          step_cell step2 u m i1 i2 f.at ∙ step_cell step1 u m i0 i1 f.at

      pub t_in : In (record p.tile { len = share (p.tile.len + t_joins.gap) wanted }) (tiles_in new)
      t_in =
          subst (λ (us : List Tile). In t_cut_tile us) (sym (tiles_are_read_off new t_list step2.says))
          (in_around p.front t_cut_tile (t_cuts.left ++ t_joins.left))
