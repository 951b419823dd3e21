-- Words of contracts about a window: its tags encode a list of tiles. Records with a name like `HasFreeNext` are
-- conditions.
use Rattle.std.specs.Prelude.{◌≡◌, ℕ, ◌+◌, ◌-◌, ◌%◌, ◌<◌, ◌≤◌, Bool, ◌||◌, not, Option, Some, List, length, IsTrue}
use Rattle.raw_region.specs.Memory.{WindowState, SameSurroundings, SameBytesExcept, bytes_of, word_at}
use Rattle.raw_region.specs.Format.{current}
use Rattle.block_tags.specs.declared.tile.Role.{Role}
use Rattle.block_tags.specs.declared.tile.Tile.{Tile}
use Rattle.block_tags.specs.Format.{is_legal_size}
use Rattle.block_tags.specs.Tiles.{AreTilesOf, is_free, may_be_red}
use Rattle.block_tags.specs.Lists.{tile_in, next_in, last_in, IsBesideTags}

-- the window has a legal size, and its tags describe these tiles
pub record EncodesTiles (c : WindowState) (ts : List Tile) : Type 0 where
  pub size : IsTrue (is_legal_size (length c.bytes))
  pub tags : AreTilesOf current (bytes_of c.bytes) (length c.bytes) ts

-- the first n bytes of the window are a segment whose tags encode these tiles
pub record PrefixSaysTiles (c : WindowState) (n : ℕ) (ts : List Tile) : Type 0 where
  pub size : IsTrue (is_legal_size n)
  pub within : n ≤ length c.bytes
  pub tags : AreTilesOf current (bytes_of c.bytes) n ts

-- only the tags of the old tiles and of the new tiles change, and the end tag
pub record SameExceptTags (old new : WindowState) (ts us : List Tile) : Type 0 where
  pub place : SameSurroundings old new
  pub size : length new.bytes ≡ length old.bytes
  pub bytes : (k : ℕ) → IsBesideTags ts k → IsBesideTags us k → k < length old.bytes - 16
      → bytes_of new.bytes k ≡ bytes_of old.bytes k

-- the tags describe tiles
pub record IsTiledWindow (c : WindowState) : Type 0 where
  pub tiles : List Tile
  pub said : EncodesTiles c tiles

-- a tile begins at this offset
pub record HasTileAt (c : WindowState) (at : ℕ) : Type 0 where
  pub tiles : List Tile
  pub said : EncodesTiles c tiles
  pub tile : Tile
  pub stands : tile_in tiles at ≡ Some tile

-- the tile at this offset has len bytes, and at least 32 more
pub record CanSplit (c : WindowState) (at len : ℕ) : Type 0 where
  pub tiles : List Tile
  pub said : EncodesTiles c tiles
  pub tile : Tile
  pub stands : tile_in tiles at ≡ Some tile
  pub long : 32 ≤ len
  pub whole : len % 16 ≡ 0
  pub room : len + 32 ≤ tile.len

-- the tile after the one at this offset is free
pub record HasFreeNext (c : WindowState) (at : ℕ) : Type 0 where
  pub tiles : List Tile
  pub said : EncodesTiles c tiles
  pub tile : Tile
  pub stands : tile_in tiles at ≡ Some tile
  pub next : Tile
  pub behind : next_in tiles at ≡ Some next
  pub free : IsTrue (is_free next)

-- the tile at this offset keeps a legal colour if its use becomes use_of
pub record CanTakeUse (c : WindowState) (at : ℕ) (use_of : Option Role) : Type 0 where
  pub tiles : List Tile
  pub said : EncodesTiles c tiles
  pub tile : Tile
  pub stands : tile_in tiles at ≡ Some tile
  pub colour : IsTrue (not tile.red || may_be_red current use_of)

-- the tile at this offset can have this colour
pub record MayHaveColour (c : WindowState) (at : ℕ) (red : Bool) : Type 0 where
  pub tiles : List Tile
  pub said : EncodesTiles c tiles
  pub tile : Tile
  pub stands : tile_in tiles at ≡ Some tile
  pub colour : IsTrue (not red || may_be_red current tile.use_of)

-- the tags fill the first n bytes, and there is room for one more tile after them
pub record CanAppend (c : WindowState) (n : ℕ) : Type 0 where
  pub tiles : List Tile
  pub said : PrefixSaysTiles c n tiles
  pub size : IsTrue (is_legal_size (length c.bytes))
  pub room : n + 32 ≤ length c.bytes

-- there is a last tile, and it is free
pub record HasFreeLast (c : WindowState) : Type 0 where
  pub tiles : List Tile
  pub said : EncodesTiles c tiles
  pub last : Tile
  pub ends : last_in tiles ≡ Some last
  pub free : IsTrue (is_free last)

-- the word x is written at an offset, and nothing else changes
pub record WritesWord (old new : WindowState) (at x : ℕ) : Type 0 where
  pub place : SameSurroundings old new
  pub size : length new.bytes ≡ length old.bytes
  pub word : word_at (bytes_of new.bytes) at ≡ x
  pub rest : SameBytesExcept (bytes_of old.bytes) (bytes_of new.bytes) at 8
