-- Laws of the tiles in the tags, for the crates above. A public function's contract names each law.
use Rattle.std.specs.Prelude.{◌≡◌, ◌↔◌, ℕ, ◌+◌, ◌-◌, ◌<◌, ◌≤◌, Some, List, [], ◌∷◌, ◌++◌, length, IsTrue}
use Rattle.std.specs.List.{AllByRecursion}
use Rattle.raw_region.specs.Memory.{Memory, WindowState, SameBytes, SameBytesExcept, bytes_of}
use Rattle.raw_region.specs.Format.{current}
use Rattle.block_tags.specs.declared.tile.Tile.{Tile}
use Rattle.block_tags.specs.Format.{is_legal_size}
use Rattle.block_tags.specs.Tiles.{has_tags, is_merged, tile_at, tiles_of}
use Rattle.block_tags.specs.Lists.{AreContiguous, tile_in, first_in, next_in, previous_in, last_in, changed_at}
use Rattle.block_tags.specs.Lists.{without_last, IsBesideTags}
use Rattle.block_tags.specs.Windows.{EncodesTiles, PrefixSaysTiles}

-- the law: the tiles that a reading finds are the tiles of the tags
abbrev pub TilesAreReadOff : Type 0
TilesAreReadOff = (c : WindowState) (ts : List Tile) → EncodesTiles c ts
    → tiles_of (bytes_of c.bytes) (length c.bytes) ≡ ts

-- the law: the tile that a tag describes is the tile in the list
abbrev pub TileIsReadOff : Type 0
TileIsReadOff = (c : WindowState) (ts : List Tile) (at : ℕ) (t : Tile) → EncodesTiles c ts → tile_in ts at ≡ Some t
    → tile_at (bytes_of c.bytes) at ≡ t

-- the law: tags are good exactly if they describe tiles of which no two free ones are neighbours
abbrev pub GoodTagsSayTiles : Type 0
GoodTagsSayTiles = (c : WindowState) → IsTrue (is_legal_size (length c.bytes))
    → (IsTrue (has_tags current (bytes_of c.bytes) (length c.bytes))
    ↔ ((ts : List Tile) × EncodesTiles c ts × IsTrue (is_merged ts)))

-- the law: the tiles fill the window from its header to its end tag, so their offsets rise
abbrev pub TilesFillTheWindow : Type 0
TilesFillTheWindow = (c : WindowState) (ts : List Tile) → EncodesTiles c ts
    → AreContiguous current 128 ts (length c.bytes - 16)

-- the law: no tag lies in the header
abbrev pub HeaderIsBesideTags : Type 0
HeaderIsBesideTags = (c : WindowState) (ts : List Tile) → EncodesTiles c ts → (k : ℕ) → k < 128
    → IsBesideTags ts k × (k < length c.bytes - 16)

-- the law: no byte of a payload lies in a tag
abbrev pub PayloadIsBesideTags : Type 0
PayloadIsBesideTags = (c : WindowState) (ts : List Tile) (at : ℕ) (t : Tile) → EncodesTiles c ts
    → tile_in ts at ≡ Some t
    → (k : ℕ) → at + 16 ≤ k → k < at + t.len → IsBesideTags ts k × (k < length c.bytes - 16)

-- a tile at an offset splits a list: the tiles before it, the tiles after it, and the list after a change of it
pub record SplitsListAt (ts : List Tile) (at : ℕ) (t : Tile) : Type 0 where
  pub prefix : List Tile
  pub back : List Tile
  pub is : ts ≡ prefix ++ t ∷ back
  pub offset : t.offset ≡ at
  pub next : next_in ts at ≡ first_in back
  pub previous : previous_in ts at ≡ last_in prefix
  pub changed : (change : Tile → List Tile → List Tile) → changed_at at change ts ≡ prefix ++ change t back

-- the law: a tile of the list splits the list
abbrev pub TileStandsInList : Type 0
TileStandsInList = (ts : List Tile) (at : ℕ) (t : Tile) → tile_in ts at ≡ Some t → SplitsListAt ts at t

-- the law: each tile of the tags is the only one at its offset
abbrev pub OneTileAtAnOffset : Type 0
OneTileAtAnOffset = (c : WindowState) (prefix : List Tile) (t : Tile) (back : List Tile)
    → EncodesTiles c (prefix ++ t ∷ back) → tile_in (prefix ++ t ∷ back) t.offset ≡ Some t

-- the law: the last tile ends the list
abbrev pub LastTileEndsList : Type 0
LastTileEndsList = (ts : List Tile) (t : Tile) → last_in ts ≡ Some t → ts ≡ without_last ts ++ t ∷ []

-- the tags of these tiles are equal, and so are the end tags
pub record SameTags (m m' : Memory) (ts : List Tile) (end : ℕ) : Type 0 where
  pub tags : AllByRecursion (λ (t : Tile). SameBytes m m' t.offset (t.offset + 16)) ts
  pub last : SameBytes m m' end (end + 16)

-- the law: equal tags describe equal tiles
abbrev pub TagsThatStaySayTheSame : Type 0
TagsThatStaySayTheSame = (c d : WindowState) (ts : List Tile) → EncodesTiles c ts → length d.bytes ≡ length c.bytes
    → SameTags (bytes_of c.bytes) (bytes_of d.bytes) ts (length c.bytes - 16) → EncodesTiles d ts

-- the law: a change of bytes in a payload keeps the tiles
abbrev pub PayloadMayChange : Type 0
PayloadMayChange = (c d : WindowState) (ts : List Tile) (at : ℕ) (t : Tile) → EncodesTiles c ts
    → tile_in ts at ≡ Some t → length d.bytes ≡ length c.bytes
    → (from n : ℕ) → at + 16 ≤ from → from + n ≤ at + t.len
    → SameBytesExcept (bytes_of c.bytes) (bytes_of d.bytes) from n → EncodesTiles d ts

-- the law: a change of bytes in the header keeps the tiles
abbrev pub HeaderMayChange : Type 0
HeaderMayChange = (c d : WindowState) (ts : List Tile) → EncodesTiles c ts → length d.bytes ≡ length c.bytes
    → (from n : ℕ) → from + n ≤ 128 → SameBytesExcept (bytes_of c.bytes) (bytes_of d.bytes) from n → EncodesTiles d ts

-- the law: the front of a window has the same tiles as a window of its own
abbrev pub PrefixIsAWindow : Type 0
PrefixIsAWindow = (c d : WindowState) (ts : List Tile) → length c.bytes ≤ length d.bytes
    → SameBytes (bytes_of c.bytes) (bytes_of d.bytes) 0 (length c.bytes)
    → (EncodesTiles c ts ↔ PrefixSaysTiles d (length c.bytes) ts)
