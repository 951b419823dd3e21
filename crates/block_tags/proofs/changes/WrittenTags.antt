-- The tiles of the tags after words of them are written.
use Rattle.std.proofs.Common.{◌≡◌, refl, sym, subst, ◌∙◌, ℕ, ◌+◌, ◌-◌, ◌<◌, inl, inr, Some, None, Bool, List, ◌∷◌}
use Rattle.std.proofs.Common.{length, arith, ◌||◌, not, IsTrue}
use Rattle.std.specs.Prelude.{Option}
use Rattle.raw_region.specs.Memory.{WindowState, SameBytes, SameSurroundings, bytes_of}
use Rattle.raw_region.specs.Format.{current}
use Rattle.block_tags.specs.declared.tile.Role.{Role}
use Rattle.block_tags.specs.declared.tile.Tile.{Tile}
use Rattle.block_tags.specs.Format.{is_legal_size}
use Rattle.block_tags.specs.Tiles.{AreTags, may_be_red, tag_word, tile_at}
use Rattle.block_tags.specs.Lists.{tile_in, changed_at, used_for, of_colour, with_use_at, with_red_at, IsBesideTags}
use Rattle.block_tags.specs.Windows.{EncodesTiles, HasTileAt, CanTakeUse, MayHaveColour, SameExceptTags, WritesWord}
use Rattle.block_tags.proofs.tiles.ReadOff.{is_tile-IsWhole}
use Rattle.block_tags.proofs.changes.WrittenWords.{put-word, put-SameBytes}
use Rattle.block_tags.proofs.tiles.TileInList.{Standing, is_tile-made, head_word, retag}
use Rattle.block_tags.proofs.tiles.TagsSayTiles.{reads, stands_in, stood}

-- ---- the list where the tile at an offset changes, once its own tags and those after it are known
module _ (c d : WindowState) (ts : List Tile) (at : ℕ) (t : Tile) (said : EncodesTiles c ts) (stands : tile_in ts at
    ≡ Some t)
    (change : Tile → List Tile → List Tile) (size : length d.bytes ≡ length c.bytes) where
  abbrev S : Type 0
  S = Standing current (bytes_of c.bytes) 128 0 None ts (length c.bytes - 16) at t

  -- after a change of one tile the tags describe the changed list
  pub changed_says : (s : S) → SameBytes (bytes_of c.bytes) (bytes_of d.bytes) 128 at
      → AreTags current (bytes_of d.bytes) at s.before (change t s.behind) (length c.bytes - 16)
      → EncodesTiles d (changed_at at change ts)
  changed_says s same tags = record {
    size = subst (λ (n : ℕ). IsTrue (is_legal_size n)) (sym size) said.size;
    tags = subst (λ (n : ℕ). AreTags current (bytes_of d.bytes) 128 0 (changed_at at change ts) (n - 16)) (sym size)
        (s.changed change (bytes_of d.bytes) same tags);
  }

  -- after a change of one tile all bytes stay but tags
  pub changed_rest : (s : S) → SameSurroundings c d
      → ((k : ℕ) → IsBesideTags (t ∷ s.behind) k → IsBesideTags (change t s.behind) k → k < length c.bytes - 16
      → bytes_of d.bytes k ≡ bytes_of c.bytes k)
      → SameExceptTags c d ts (changed_at at change ts)
  changed_rest s place rest = record {
    place = place;
    size = size;
    bytes = λ k o n l. rest k (s.old_tags k o) (s.new_tags change k n) l;
  }

-- ---- one word: another use, another colour
module _ (c d : WindowState) (at : ℕ) (t : Tile) (u : Option Role) (r : Bool) (x : ℕ)
    (f : x ≡ tag_word (record { offset = t.offset; len = t.len; use_of = u; red = r }))
    (p : WritesWord c d (at + 8) x) (colour : IsTrue (not r || may_be_red current u)) where
  abbrev t' : Tile
  t' = record { offset = t.offset; len = t.len; use_of = u; red = r }

  marked : (before : ℕ) (behind : List Tile) (end : ℕ)
      → AreTags current (bytes_of c.bytes) at before (t ∷ behind) end
      → AreTags current (bytes_of d.bytes) at before (t' ∷ behind) end
  marked before behind end h =
      let long = (is_tile-IsWhole current t h.1).long in (
        h.0,
        is_tile-made current t.offset t.len u r long ((is_tile-IsWhole current t h.1).whole) colour,
        put-word c d (at + 8) x p at (inl (omega arith)) ∙ h.2,
        p.word ∙ f,
        retag current (bytes_of c.bytes) (bytes_of d.bytes) (at + t.len) t.len t.len behind end h.4
            (put-SameBytes c d (at + 8) x p (at + t.len + 8) (end + 16) (inr (omega arith)))
            (put-word c d (at + 8) x p (at + t.len) (inr (omega arith))
            ∙ head_word current (bytes_of c.bytes) (at + t.len) t.len behind end h.4),
      )

  module _ (change : Tile → List Tile → List Tile) (is : (ts : List Tile)
      → change t ts ≡ t' ∷ ts) (ts : List Tile) (said : EncodesTiles c ts) (stands : tile_in ts at ≡ Some t) where
    s : Standing current (bytes_of c.bytes) 128 0 None ts (length c.bytes - 16) at t
    s = stood c ts at t said stands

    marked_says : EncodesTiles d (changed_at at change ts)
    marked_says = changed_says c d ts at t said stands change p.size s
        (put-SameBytes c d (at + 8) x p 128 at (inl (omega arith)))
        (subst (λ (us : List Tile). AreTags current (bytes_of d.bytes) at s.before us (length c.bytes - 16))
        (sym (is s.behind)) (marked s.before s.behind (length c.bytes - 16) s.tags))

    marked_rest : SameExceptTags c d ts (changed_at at change ts)
    marked_rest = changed_rest c d ts at t said stands change p.size s p.place
        (λ k o n l. let there = s.tags.0
        in p.rest.at k (elim o.0 [ inl a ↦ inl (omega arith) | inr a ↦ inr (omega arith) ]))

module _ (c d : WindowState) (at : ℕ) (u : Option Role) (h : CanTakeUse c at u) (t : Tile) (e : t
    ≡ tile_at (bytes_of c.bytes) at) (x : ℕ)
    (f : x ≡ tag_word (record { offset = t.offset; len = t.len; use_of = u; red = t.red }))
    (p : WritesWord c d (at + 8) x) (ts : List Tile) (said : EncodesTiles c ts) where
  pub there_to_use : HasTileAt c at
  there_to_use = record { tiles = h.tiles; said = h.said; tile = h.tile; stands = h.stands }

  may_use : IsTrue (not t.red || may_be_red current u)
  may_use = subst (λ (v : Tile).
      IsTrue (not v.red || may_be_red current u)) (sym (e ∙ reads c h.tiles at h.tile h.said h.stands)) h.colour

  -- after the word of a use is written, the tags describe the list with this tile in the new use
  pub used_says : EncodesTiles d (with_use_at at u ts)
  used_says = marked_says c d at t u t.red x f p may_use (used_for u) (λ us.
      refl) ts said (stands_in c at there_to_use t e ts said)

  -- a word of use that is written changes tags alone
  pub used_rest : SameExceptTags c d ts (with_use_at at u ts)
  used_rest = marked_rest c d at t u t.red x f p may_use (used_for u) (λ us.
      refl) ts said (stands_in c at there_to_use t e ts said)

module _ (c d : WindowState) (at : ℕ) (r : Bool) (h : MayHaveColour c at r) (t : Tile) (e : t
    ≡ tile_at (bytes_of c.bytes) at) (x : ℕ)
    (f : x ≡ tag_word (record { offset = t.offset; len = t.len; use_of = t.use_of; red = r }))
    (p : WritesWord c d (at + 8) x) (ts : List Tile) (said : EncodesTiles c ts) where
  there_to_colour : HasTileAt c at
  there_to_colour = record { tiles = h.tiles; said = h.said; tile = h.tile; stands = h.stands }

  may_colour : IsTrue (not r || may_be_red current t.use_of)
  may_colour = subst (λ (v : Tile).
      IsTrue (not r || may_be_red current v.use_of)) (sym (e ∙ reads c h.tiles at h.tile h.said h.stands)) h.colour

  -- after the word of a use or colour is written, the tags describe the list with this tile changed
  pub coloured_says : EncodesTiles d (with_red_at at r ts)
  coloured_says = marked_says c d at t t.use_of r x f p may_colour (of_colour r) (λ us.
      refl) ts said (stands_in c at there_to_colour t e ts said)

  -- a word of use or colour that is written changes tags alone
  pub coloured_rest : SameExceptTags c d ts (with_red_at at r ts)
  coloured_rest = marked_rest c d at t t.use_of r x f p may_colour (of_colour r) (λ us.
      refl) ts said (stands_in c at there_to_colour t e ts said)
