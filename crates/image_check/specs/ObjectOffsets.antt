-- The offset that shows that a tile or the order of an index is wrong.
use Rattle.std.specs.Prelude.{◌≡◌, ◌<◌, ◌⊎◌, ℕ, zero, suc, ◌+◌, ◌*◌, Bool, true, false, not, Option, Some, None, List}
use Rattle.std.specs.Prelude.{find}
use Rattle.std.specs.List.{list_all}
use Rattle.raw_region.specs.Memory.{Memory, word_at}
use Rattle.offset_link.specs.Link.{link_at}
use Rattle.block_tags.specs.declared.tile.Tile.{Tile}
use Rattle.image_check.specs.IndexOffsets.{first_targets}
use Rattle.image_check.specs.ObjectPasses.{are_ranked, follows, is_right_tile}
use Rattle.image_check.specs.ObjectTests.{payload, targets}

-- the payload of the first tile that passes a test begins at this offset
pub record IsFirstTile (test : Tile → Bool) (ts : List Tile) (place : ℕ) : Type 0 where
  pub tile : Tile
  pub is : find test ts ≡ Some tile
  pub at : place ≡ payload tile

-- the payload of the first tile that fails a test begins at this offset
abbrev pub IsFirstWrongTile : (Tile → Bool) → List Tile → ℕ → Type 0
IsFirstWrongTile test ts place = IsFirstTile (λ t. not (test t)) ts place

-- the link before a place of a block, if there is one
abbrev pub link_before : Memory → ℕ → ℕ → Option ℕ
link_before m block zero = None
link_before m block (suc number) = link_at m (block + 8 * number)

-- Of this many entries in a block, the one at a place is the first that leads to an object of another class, or to an
-- object whose key does not follow the key of the entry before.
pub record IsOutOfOrder (class : ℕ) (m : Memory) (block count place : ℕ) : Type 0 where
  pub number : ℕ
  pub inside : number < count
  pub is : place ≡ block + 8 * number
  pub here : ℕ
  pub leads : link_at m place ≡ Some here
  pub wrong : follows class m (link_before m block number) here ≡ false
  pub first : are_ranked class m (first_targets m block number) ≡ true

-- an entry of the index at an offset is the first out of order
pub record IsMisplaced (class : ℕ) (m : Memory) (at place : ℕ) : Type 0 where
  pub block : ℕ
  pub link : link_at m at ≡ Some block
  pub entry : IsOutOfOrder class m block (word_at m (at + 8)) place

-- the first entry out of order in the named index; if there is none, in the unique index
abbrev pub IsFirstMisplaced : Memory → ℕ → Type 0
IsFirstMisplaced m place =
    IsMisplaced 1 m 32 place ⊎ ((are_ranked 1 m (targets m 32) ≡ true) × IsMisplaced 2 m 56 place)

-- the first object that is wrong by itself or lacks an entry in the index of its class; if there is none, the first
-- entry out of order
abbrev pub IsWrongObject : ℕ → Memory → List Tile → ℕ → Type 0
IsWrongObject format m ts place =
    IsFirstWrongTile (is_right_tile format m) ts place
    ⊎ ((list_all (is_right_tile format m) ts ≡ true) × IsFirstMisplaced m place)
