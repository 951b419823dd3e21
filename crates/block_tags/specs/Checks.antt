-- Tests of one tile, for a call that reads all tags of a window.
use Rattle.std.specs.Prelude.{◌≡◌, ◌<◌, ℕ, zero, suc, ◌+◌, ◌-◌, ◌/◌, Bool, true, false, ◌&&◌, not, IsTrue, ◌==◌, nat_le}
use Rattle.std.specs.Prelude.{nat_lt, if◌then◌else◌}
use Rattle.raw_region.specs.Memory.{Memory, word_at}
use Rattle.block_tags.specs.declared.tile.Tile.{Tile}
use Rattle.block_tags.specs.Tiles.{is_tile, is_free, tag_word, tile_at}

-- whether the tile is legal in the format and has this second word in its tag
abbrev pub is_tagged : ℕ → Tile → ℕ → Bool
is_tagged format t word = is_tile format t && (word == tag_word t)

-- whether a tile with a whole tag is at an offset and ends by `end`, after a tile of length before, which is free or
-- not
unfoldable pub is_good_tile : ℕ → Memory → ℕ → ℕ → Bool → ℕ → Bool
is_good_tile format m at before behind_free end =
    let t : Tile = tile_at m at in
    (word_at m at == before) && nat_le t.len (end - at) && is_tagged format t (word_at m (at + 8))
    && not (behind_free && is_free t)

-- the number of good tiles from an offset on, at most this many
abbrev pub good_tiles_from : ℕ → ℕ → Memory → ℕ → ℕ → Bool → ℕ → ℕ
good_tiles_from format zero m at before behind_free end = 0
good_tiles_from format (suc more) m at before behind_free end =
    elim (nat_lt at end && is_good_tile format m at before behind_free end) [
      | false ↦ 0
      | true ↦ let t : Tile = tile_at m at in 1 + good_tiles_from format more m (at + t.len) t.len (is_free t) end
    ]

-- the number of good tiles from 128 on, up to the first bad tag or the end tag
abbrev pub good_tiles_of : ℕ → Memory → ℕ → ℕ
good_tiles_of format m size = good_tiles_from format (size / 32) m 128 0 false (size - 16)

-- ---- the first bad tag

-- the end tag, after a tile of length before
abbrev pub is_end : Memory → ℕ → ℕ → Bool
is_end m at before = (word_at m at == before) && (word_at m (at + 8) == 1)

-- starting at 128, good tags lead to this offset, after a tile of this length, which is free or not
pub data Leads (format : ℕ) (m : Memory) (end : ℕ) : ℕ → ℕ → Bool → Type 0 where
  begins : Leads format m end 128 0 false
  follows : {at before : ℕ} {free : Bool} → Leads format m end at before free → at < end
      → IsTrue (is_good_tile format m at before free end)
      → Leads format m end (at + (tile_at m at).len) (tile_at m at).len (is_free (tile_at m at))

-- whether the tag at an offset, a tile's or the end tag, is good
abbrev pub is_good_there : ℕ → Memory → ℕ → ℕ → ℕ → Bool → Bool
is_good_there format m end at before free =
    if nat_lt at end then is_good_tile format m at before free end else is_end m at before

-- good tags lead to this offset, and the tag there is bad
pub record StopsAt (format : ℕ) (m : Memory) (size at : ℕ) : Type 0 where
  pub before : ℕ
  pub free : Bool
  pub leads : Leads format m (size - 16) at before free
  pub wrong : is_good_there format m (size - 16) at before free ≡ false
