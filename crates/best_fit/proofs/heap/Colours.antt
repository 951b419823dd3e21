-- The colour of a block's tile changes.
use Rattle.best_fit.proofs.Common.{◌≡◌, refl, sym, ap, subst, ◌∙◌, ℕ, ◌+◌, ◌-◌, ◌<◌, ◌≤◌, Bool, true, false, ◌||◌, not}
use Rattle.best_fit.proofs.Common.{List, [], ◌∷◌, ◌++◌, length, arith, IsTrue, Option, Some, AllByRecursion, none-some}
use Rattle.best_fit.proofs.Common.{WindowState, SameBytes, SameBytesExcept, bytes_of, Role, Node, Tile, current}
use Rattle.best_fit.proofs.Common.{of_colour, tile_in, with_red_at, may_be_red, MayHaveColour, one_tile_at_an_offset}
use Rattle.best_fit.proofs.Common.{target_of, Extent, LiveSet, handle, end_of, others, IsFreeTree, cells_of, IsHeap}
use Rattle.best_fit.proofs.Common.{Recolours, KeepsBlocks, EncodesLiveSet, is_node_in, live_of}
use Rattle.best_fit.proofs.tags.RowParts.{Away, away_front, changed_at-around}
use Rattle.best_fit.proofs.gaps.Nodes.{NodeAt, tile_colour}
use Rattle.best_fit.proofs.gaps.Setters.{beside_recoloured, step_cell}
use Rattle.best_fit.proofs.tags.TagsAndLiveSet.{SaysHeap, heap-says, said_row, says-EncodesLiveSet, live_in}
use Rattle.best_fit.proofs.allocation.GapToBlock.{apart_recoloured, extents_recoloured}
use Rattle.best_fit.proofs.tags.TileJoins.{others_between, extents_of-around}
use Rattle.best_fit.proofs.tags.TileRows.{Apart, Row, extent_of, extents_of}
use Rattle.best_fit.proofs.tags.UnchangedTags.{In, TagStep, all_extents, around_keeps, in_other, inside, step_word}
use Rattle.best_fit.proofs.tags.UnchangedTags.{tag_step}
use Rattle.best_fit.specs.Tiling.{ChangesTags}
use Rattle.best_fit.proofs.tags.Writes.{Block, NodeBlock, free_stays, node_block}

-- a node block of the window that a heap is seen as
pub node_at : (v c : WindowState) (h : ℕ) → v ≡ c → IsHeap current c.bytes → IsTrue (is_node_in (live_of v.bytes) h)
    → NodeBlock c h
node_at v c h e heap is =
    node_block c h heap (subst (λ (u : WindowState). IsTrue (is_node_in (live_of u.bytes) h)) e is)

-- the node's tile can have any colour
pub node_may : (c : WindowState) (h at : ℕ) (red : Bool) → NodeBlock c h → at + 16 ≡ h → MayHaveColour c at red
node_may c h at red n e =
    let b = n.block in let o = b.at in let same : b.tile.offset ≡ at = omega arith in
    record {
      tiles = b.front ++ (b.tile ∷ b.back);
      said = b.said;
      tile = b.tile;
      stands = subst (λ k. tile_in (b.front ++ (b.tile ∷ b.back)) k ≡ Some b.tile) same b.stands;
      colour = colour red b.tile (b.in_use ∙ ap (λ (r : Role). Some r) n.node);
    }
  where
    colour : (red : Bool) (t : Tile) → t.use_of ≡ Some Node → IsTrue (not red || may_be_red current t.use_of)
    colour true t u = ap (λ (o : Option Role). may_be_red current o) u
    colour false t u = refl

module _ (c d : WindowState) (h at : ℕ) (red : Bool) (heap : IsHeap current c.bytes) (b : Block c h) (e : at + 16 ≡ h)
    (paint : ChangesTags c d (with_red_at at red))
    (word : SameBytesExcept (bytes_of c.bytes) (bytes_of d.bytes) (at + 8) 8) where
  abbrev front : List Tile
  front = b.front

  abbrev tile : Tile
  tile = b.tile

  abbrev back : List Tile
  back = b.back

  abbrev painted : List Tile
  painted = b.front ++ (record b.tile { red = red } ∷ b.back)

  begins : b.tile.offset ≡ at
  begins = let o = b.at in omega arith

  row : Row 128 (front ++ (tile ∷ back)) (length c.bytes - 16)
  row = said_row c (front ++ (tile ∷ back)) b.said

  step : TagStep c d (front ++ (tile ∷ back)) painted
  step = tag_step (front ++ (tile ∷ back)) painted b.said (changed_at-around at tile back begins (of_colour red) front
      (subst (λ k. Away k front) begins (away_front 128 front tile back (length c.bytes - 16) row))) paint

  -- a payload of any tile stays
  payload_byte : (t : Tile) → In t (front ++ (tile ∷ back)) → (k : ℕ) → t.offset + 16 ≤ k → k < t.offset + t.len
      → bytes_of d.bytes k ≡ bytes_of c.bytes k
  payload_byte t i k low high =
      let j = inside 128 t (front ++ (tile ∷ back)) (length c.bytes - 16) k row i low high in
      step.same.bytes k j.beside (beside_recoloured front tile red back k j.beside) j.high

  -- and the fields of a gap stay
  gap_cell : (m : ℕ) → NodeAt c m → cells_of (bytes_of d.bytes) m ≡ cells_of (bytes_of c.bytes) m
  gap_cell m n =
      let u = n.free_tile.tile in
      let here : In u (front ++ (tile ∷ back)) = subst (λ (ts : List Tile). In u ts) b.list n.is_in_list in
      let other : tile ≡ u → ⊥ = λ q.
      none-some b.role (sym n.free_tile.free ∙ ap (λ (t : Tile). t.use_of) (sym q) ∙ b.in_use) in
      step_cell step u m here (in_other u tile (record tile { red = red }) front back other here) n.free_tile.at

  says : SaysHeap d painted
  says = record {
    said = step.says;
    apart = apart_recoloured false front tile red back
        (subst (Apart false) b.list (heap-says c heap).apart);
  }

  free : IsFreeTree current (bytes_of d.bytes) (live_of c.bytes)
  free = free_stays c d heap
      (ap (target_of 24) (step_word step)) gap_cell

  live_same : live_in (length d.bytes) painted ≡ live_of c.bytes
  unfolding live_of
  live_same =
      let size = step.same.size in let extents = extents_recoloured front tile red back ∙ ap extents_of (sym b.list) in
      λ i. record { size = size i; extents = extents i }

  laid : EncodesLiveSet current d.bytes (live_of c.bytes)
  laid =
      subst (EncodesLiveSet current d.bytes) live_same
      (says-EncodesLiveSet d painted says
      (subst (λ (l : LiveSet). IsFreeTree current (bytes_of d.bytes) l) (sym live_same) free))

  old_extents : (live_of c.bytes).extents ≡ extents_of front ++ (extent_of tile b.role ∷ extents_of back)
  unfolding live_of
  old_extents = ap extents_of b.list ∙ extents_of-around front tile back b.role b.in_use

  left_extents : others h (live_of c.bytes).extents ≡ extents_of front ++ extents_of back
  left_extents =
      ap (others h) old_extents ∙ others_between 128 front tile back (length c.bytes - 16)
      (extent_of tile b.role) h row refl b.at

  keeps : KeepsBlocks c d (others h (live_of c.bytes).extents)
  keeps = subst (KeepsBlocks c d) (sym left_extents)
      (around_keeps front (tile ∷ []) (record tile { red = red } ∷ []) back step)

  payloads : AllByRecursion (λ (x : Extent). SameBytes (bytes_of c.bytes) (bytes_of d.bytes) (handle x) (end_of x))
      (live_of c.bytes).extents
  unfolding live_of
  payloads =
      subst (λ (ts : List Tile). AllByRecursion (λ (x : Extent).
      SameBytes (bytes_of c.bytes) (bytes_of d.bytes) (handle x)
      (end_of x)) (extents_of ts)) (sym b.list)
      (all_extents (λ (x : Extent). SameBytes (bytes_of c.bytes) (bytes_of d.bytes) (handle x) (end_of x))
      (front ++ (tile ∷ back))
      (λ t i role. record { at = λ k low high. payload_byte t i k low high }))

  -- a tile that takes another colour: all else stays
  pub recoloured : Recolours current c d h red
  recoloured =
      let painted_tile : Tile = record tile { red = red } in
      record {
        live = laid;
        colour = tile_colour d painted painted_tile h step.says
            (one_tile_at_an_offset d front painted_tile back step.says) b.at;
        keeps = keeps;
        payloads = payloads;
        rest = subst (λ k. SameBytesExcept (bytes_of c.bytes) (bytes_of d.bytes) k 8) (omega arith) word;
      }
