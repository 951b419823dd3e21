-- The allocation of a gap, or of its first bytes.
use Rattle.best_fit.proofs.Common.{◌≡◌, refl, sym, ap, subst, ◌∙◌, ℕ, ◌+◌, ◌-◌, Bool, false, ◌||◌, not, List, [], ◌∷◌}
use Rattle.best_fit.proofs.Common.{◌++◌, length, IsTrue, Some, None, false≢true, WindowState, bytes_of, Role, Tile}
use Rattle.best_fit.proofs.Common.{current, tile_in, with_use_at, used_for, may_be_red, EncodesTiles, HasTileAt}
use Rattle.best_fit.proofs.Common.{CanTakeUse, Extent, insert, share, is_red, KeepsBlocks, live_of, cut_to, tiles_in}
use Rattle.best_fit.proofs.tags.TileRows.{Row, Apart, extents_of, unused-free}
use Rattle.best_fit.specs.Tiling.{ChangesTags, cut_at}
use Rattle.best_fit.proofs.tags.RowParts.{Away, apart_back, apart_front, apart_joined, away_front, changed_at-around}
use Rattle.best_fit.proofs.tags.RowParts.{tile_in-around}
use Rattle.best_fit.proofs.tags.Frames.{keeps-trans}
use Rattle.best_fit.proofs.tags.TileJoins.{CutsTo, cuts_to, extents_of-append, extents_of-around_free, insert_between}
use Rattle.best_fit.proofs.tags.TagsAndLiveSet.{SaysHeap, said_row, says_of}
use Rattle.best_fit.proofs.tags.UnchangedTags.{TagStep, around_keeps, in_stands, tag_step}
use Rattle.best_fit.proofs.gaps.Nodes.{in_around, tile_colour}
use Rattle.best_fit.proofs.deallocation.OneGap.{stands_at, tile_at_is}

-- a window with good tags, and its black free tile at an offset
pub record HasBlackGap (c : WindowState) (place : ℕ) : Type 0 where
  pub says : SaysHeap c (tiles_in c)
  pub front : List Tile
  pub tile : Tile
  pub back : List Tile
  pub list : tiles_in c ≡ front ++ (tile ∷ back)
  pub free : tile.use_of ≡ None
  pub black : tile.red ≡ false
  pub at : tile.offset ≡ place

-- the gap is cut to the length wanted (window mid), and then gets its role (window new)
module _ {old : WindowState} {at : ℕ} (p : HasBlackGap old at) (wanted : ℕ) (role : Role) where
  abbrev cut_tile : Tile
  cut_tile = record p.tile { len = share p.tile.len wanted }

  abbrev taken_tile : Tile
  taken_tile = record p.tile { len = share p.tile.len wanted; use_of = Some role }

  -- the remainder of the gap
  pub taken_cuts : CutsTo wanted p.tile p.back
  taken_cuts = cuts_to wanted p.tile p.back

  said : EncodesTiles old (p.front ++ (p.tile ∷ p.back))
  said = subst (EncodesTiles old) p.list p.says.said

  row : Row 128 (p.front ++ (p.tile ∷ p.back)) (length old.bytes - 16)
  row = said_row old (p.front ++ (p.tile ∷ p.back)) said

  away : Away at p.front
  away = subst (λ k. Away k p.front) p.at (away_front 128 p.front p.tile p.back (length old.bytes - 16) row)

  apart : Apart false (p.front ++ (taken_tile ∷ (taken_cuts.left ++ p.back)))
  apart =
      let whole : Apart false (p.front ++ (p.tile ∷ p.back)) = subst (Apart false) p.list p.says.apart in
      let behind = apart_back false p.front (p.tile ∷ p.back) whole in
      apart_joined false p.front (taken_tile ∷ (taken_cuts.left ++ p.back))
      (apart_front false p.front (p.tile ∷ p.back) whole) (
        λ _ no_one. absurd (false≢true no_one),
        taken_cuts.apart (subst (λ (v : Bool). Apart v p.back) (unused-free p.tile p.free) behind.1),
      )

  -- the conditions of the cut
  pub taking_stands : HasTileAt old at
  taking_stands = stands_at p.front away p.tile p.back p.at said

  -- the tile that is cut is the gap
  pub taking_is : (ts : List Tile) → EncodesTiles old ts → tile_in ts at ≡ Some p.tile
  taking_is = tile_at_is p.front away p.tile p.back p.at said

  module _ {mid : WindowState} (cut : ChangesTags old mid (cut_at at wanted)) where
    -- cutting the gap changes tags alone
    pub mid_step : TagStep old mid (p.front ++ (p.tile ∷ p.back)) (p.front ++ (cut_tile ∷ (taken_cuts.left ++ p.back)))
    mid_step = tag_step (p.front ++ (p.tile ∷ p.back)) (p.front ++ (cut_tile ∷ (taken_cuts.left ++ p.back))) said
        (changed_at-around at p.tile p.back p.at (cut_to wanted) p.front away
        ∙ ap (λ (us : List Tile). p.front ++ us) taken_cuts.is) cut

    -- the conditions of the change of use
    pub taking_used : CanTakeUse mid at (Some role)
    taking_used =
        record {
          tiles = p.front ++ (cut_tile ∷ (taken_cuts.left ++ p.back));
          said = mid_step.says;
          tile = cut_tile;
          stands = tile_in-around at cut_tile (taken_cuts.left ++ p.back) p.at p.front away;
          colour = subst (λ (r : Bool). IsTrue (not r || may_be_red current (Some role))) (sym p.black) refl;
        }

    module _ {new : WindowState} (change : ChangesTags mid new (with_use_at at (Some role))) where
      pub new_step : TagStep mid new (p.front ++ (cut_tile ∷ (taken_cuts.left ++ p.back)))
          (p.front ++ (taken_tile ∷ (taken_cuts.left ++ p.back)))
      new_step = tag_step (p.front ++ (cut_tile ∷ (taken_cuts.left ++ p.back)))
          (p.front ++ (taken_tile ∷ (taken_cuts.left ++ p.back))) mid_step.says
          (changed_at-around at cut_tile (taken_cuts.left ++ p.back) p.at (used_for (Some role)) p.front away) change

      old_extents : (live_of old.bytes).extents ≡ extents_of p.front ++ extents_of p.back
      unfolding live_of
      old_extents = ap extents_of p.list ∙ extents_of-around_free p.front p.tile p.back p.free

      abbrev taken_extent : Extent
      taken_extent = record { offset = p.tile.offset; len = share p.tile.len wanted; role = role }

      pub new_extents : extents_of (p.front ++ (taken_tile ∷ (taken_cuts.left ++ p.back))) ≡ insert taken_extent
          (live_of old.bytes).extents
      new_extents =
          extents_of-append p.front (taken_tile ∷ (taken_cuts.left ++ p.back))
          ∙ ap (λ xs. extents_of p.front ++ (taken_extent ∷ xs)) taken_cuts.extents
          ∙ sym (insert_between 128 p.front p.tile p.back (length old.bytes - 16) taken_extent row refl)
          ∙ ap (insert taken_extent) (sym old_extents)

      -- no two free tiles are neighbours
      pub taken_says : SaysHeap new (tiles_in new)
      taken_says = says_of new (p.front ++ (taken_tile ∷ (taken_cuts.left ++ p.back))) new_step.says apart

      -- the block has the colour that the gap had
      pub taken_black : is_red (bytes_of new.bytes) (at + 16) ≡ false
      taken_black = tile_colour new (p.front ++ (taken_tile ∷ (taken_cuts.left ++ p.back))) taken_tile (at + 16)
          new_step.says (in_stands new (p.front ++ (taken_tile ∷ (taken_cuts.left ++ p.back))) taken_tile
          new_step.says (in_around p.front taken_tile (taken_cuts.left ++ p.back))) (ap (λ k. k + 16) p.at) ∙ p.black

      -- all blocks stay
      pub taken_keeps : KeepsBlocks old new (live_of old.bytes).extents
      taken_keeps =
          let first = around_keeps p.front (p.tile ∷ []) (cut_tile ∷ taken_cuts.left) p.back mid_step in
          let second = subst (λ (xs : List Extent). KeepsBlocks mid new (extents_of p.front ++ xs)) taken_cuts.extents
          (around_keeps p.front (cut_tile ∷ []) (taken_tile ∷ []) (taken_cuts.left ++ p.back) new_step) in
          subst (KeepsBlocks old new) (sym old_extents)
          (keeps-trans old mid new (extents_of p.front ++ extents_of p.back) first second)
