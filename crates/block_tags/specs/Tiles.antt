-- Tiles: the parts that fill a segment from 128 to its end tag, and their tags.
use Rattle.std.specs.Prelude.{◌≡◌, ℕ, zero, suc, ◌+◌, ◌-◌, ◌*◌, ◌%◌, Bool, true, false, ◌&&◌, ◌||◌, not, Option, Some}
use Rattle.std.specs.Prelude.{None, List, [], ◌∷◌, IsTrue, ◌==◌, nat_le, nat_lt, ◌/◌, ◌<◌, ◌^◌, if◌then◌else◌, is_none}
use Rattle.raw_region.specs.Memory.{Memory, word_at}
use Rattle.block_tags.specs.declared.tile.Role.{Role}
use Rattle.block_tags.specs.declared.tile.Tile.{Tile}
use Rattle.block_tags.specs.declared.tile.Role.TheVariants.{Object, Index, Storage, Node}

-- the role of a block in its tag, in bits 2 and 3; bit 0 means in use, and bit 1 means red
abbrev pub role_bits : Role → ℕ
role_bits Object = 0
role_bits Index = 4
role_bits Storage = 8
role_bits Node = 12

abbrev pub use_bits : Option Role → ℕ
use_bits None = 0
use_bits (Some role) = 1 + role_bits role

abbrev pub red_bit : Bool → ℕ
red_bit true = 2
red_bit false = 0

-- whether a tile with this use can be red: nodes can, and from format 1 on free tiles
abbrev pub may_be_red : ℕ → Option Role → Bool
may_be_red zero None = false
may_be_red (suc format) None = true
may_be_red format (Some Object) = false
may_be_red format (Some Index) = false
may_be_red format (Some Storage) = false
may_be_red format (Some Node) = true

-- whether the tile has a length of at least 32, a multiple of 16, and a colour that its use allows
abbrev pub is_tile : ℕ → Tile → Bool
is_tile format t = nat_le 32 t.len && (t.len % 16 == 0) && (not t.red || may_be_red format t.use_of)

-- the second word in front of a tile; the first is the length of the tile before, 0 for the first tile
abbrev pub tag_word : Tile → ℕ
tag_word t = t.len + use_bits t.use_of + red_bit t.red

-- the tags from an offset on, after a tile of length before, describe these tiles, which reach to the end tag
abbrev pub AreTags : ℕ → Memory → ℕ → ℕ → List Tile → ℕ → Type 0
AreTags format m at before [] end = (at ≡ end) × (word_at m at ≡ before) × (word_at m (at + 8) ≡ 1)
AreTags format m at before (t ∷ ts) end =
    (t.offset ≡ at) × IsTrue (is_tile format t) × (word_at m at ≡ before) × (word_at m (at + 8) ≡ tag_word t)
    × AreTags format m (at + t.len) t.len ts end

-- the tags of a segment of this size describe these tiles
abbrev pub AreTilesOf : ℕ → Memory → ℕ → List Tile → Type 0
AreTilesOf format m size ts = AreTags format m 128 0 ts (size - 16)

-- whether the tile is a gap
abbrev pub is_free : Tile → Bool
is_free t = is_none t.use_of

-- whether no two free tiles are neighbours
abbrev pub is_merged : List Tile → Bool
is_merged [] = true
is_merged (t ∷ []) = true
is_merged (t ∷ u ∷ ts) = not (is_free t && is_free u) && is_merged (u ∷ ts)

-- ---- the tiles of the tags, read from 128 on by their lengths

abbrev pub role_of_bits : ℕ → Role
role_of_bits b = if b == 0 then Object else if b == 4 then Index else if b == 8 then Storage else Node

-- the tile at an offset whose second word is w
abbrev pub tile_of_word : ℕ → ℕ → Tile
tile_of_word at w =
    record {
      offset = at;
      len = w / 16 * 16;
      use_of = if w % 2 == 0 then None else Some (role_of_bits (w % 16 / 4 * 4));
      red = (w / 2 % 2 == 1);
    }

-- the tile that the second word at an offset describes
abbrev pub tile_at : Memory → ℕ → Tile
tile_at m at = tile_of_word at (word_at m (at + 8))

-- at most this many tiles from an offset on
abbrev pub tiles_from : ℕ → Memory → ℕ → ℕ → List Tile
tiles_from zero m at end = []
tiles_from (suc more) m at end =
    elim (nat_lt at end) [ false ↦ [] | true ↦ let t : Tile = tile_at m at in t ∷ tiles_from more m (at + t.len) end ]

-- the tiles of a segment of this size, read by their lengths from 128 on
abbrev pub tiles_of : Memory → ℕ → List Tile
tiles_of m size = tiles_from (size / 32) m 128 (size - 16)

-- `AreTags` as a test
abbrev pub are_tags : ℕ → Memory → ℕ → ℕ → List Tile → ℕ → Bool
are_tags format m at before [] end = (at == end) && (word_at m at == before) && (word_at m (at + 8) == 1)
are_tags format m at before (t ∷ ts) end =
    (t.offset == at) && is_tile format t && (word_at m at == before) && (word_at m (at + 8) == tag_word t)
    && are_tags format m (at + t.len) t.len ts end

-- whether the tags are whole, and no two free tiles are neighbours
abbrev pub has_tags : ℕ → Memory → ℕ → Bool
has_tags format m size = are_tags format m 128 0 (tiles_of m size) (size - 16) && is_merged (tiles_of m size)

-- the law: the tags describe one list of tiles
abbrev pub SayOneList : Type 0
SayOneList = (format size : ℕ) (m : Memory) (ts : List Tile) → size < 2 ^ 63 → AreTilesOf format m size ts
    → tiles_of m size ≡ ts
