-- The offset that shows that an index is wrong.
use Rattle.std.specs.Prelude.{◌≡◌, ◌<◌, ◌≤◌, ◌⊎◌, ℕ, ◌+◌, ◌*◌, Bool, true, false, not, ◌&&◌, Option, Some, None, List}
use Rattle.std.specs.Prelude.{[], ◌++◌, flat_map, is_some, option_to_list, ◌==◌, nat_le, if◌then◌else◌}
use Rattle.raw_region.specs.Memory.{Memory, word_at}
use Rattle.offset_link.specs.Link.{link_at}
use Rattle.block_tags.specs.declared.tile.Role.TheVariants.{Object, Index}
use Rattle.block_tags.specs.declared.tile.Tile.{Tile}
use Rattle.image_check.specs.EarlyTests.{is_among}
use Rattle.image_check.specs.Entered.{links_in}
use Rattle.image_check.specs.ObjectTests.{are_distinct, has_index, index_capacity, is_table_link, targets, tile_of}

-- whether the words of the index at an offset are valid: at most as many entries as its capacity, and a block with room
-- for its capacity
abbrev pub is_head : Memory → List Tile → ℕ → Bool
is_head m ts at = nat_le (word_at m (at + 8)) (index_capacity m at)
    && is_table_link ts Index (link_at m at) 8 (index_capacity m at)

-- the head of an index is wrong: it has more entries than its capacity, or its link leads to no block with room for its
-- capacity
abbrev pub IsWrongHead : Memory → List Tile → ℕ → ℕ → Type 0
IsWrongHead m ts at place =
    ((place ≡ at + 8) × (index_capacity m at < word_at m (at + 8)))
    ⊎ ((place ≡ at) × (word_at m (at + 8) ≤ index_capacity m at)
    × (is_table_link ts Index (link_at m at) 8 (index_capacity m at) ≡ false))

-- the targets of the first n entries in the block of an index
abbrev pub first_targets : Memory → ℕ → ℕ → List ℕ
first_targets m block n = flat_map option_to_list (links_in m block n)

-- the targets of all entries before an index: of the named index, at 32, before the unique one
abbrev pub earlier_targets : Memory → ℕ → List ℕ
earlier_targets m at = if at == 56 then targets m 32 else []

-- whether a link leads to an object that is not in the list
abbrev pub is_new : List Tile → List ℕ → Option ℕ → Bool
is_new ts earlier None = false
is_new ts earlier (Some n) = is_some (tile_of ts Object n) && not (is_among earlier n)

-- Of this many entries in a block, after earlier entries with these objects, the one at a place is the first that leads
-- to no object, or to an object with an entry before.
pub record IsFirstWrong (m : Memory) (ts : List Tile) (earlier : List ℕ) (block count place : ℕ) : Type 0 where
  pub number : ℕ
  pub inside : number < count
  pub is : place ≡ block + 8 * number
  pub wrong : is_new ts (earlier ++ first_targets m block number) (link_at m place) ≡ false
  pub first : (i : ℕ) → i < number → is_new ts (earlier ++ first_targets m block i) (link_at m (block + 8 * i)) ≡ true

-- an entry of the index at an offset is wrong
pub record IsWrongEntry (m : Memory) (ts : List Tile) (at place : ℕ) : Type 0 where
  pub block : ℕ
  pub link : link_at m at ≡ Some block
  pub entry : IsFirstWrong m ts (earlier_targets m at) block (word_at m (at + 8)) place

-- a word of the index at an offset is wrong; if none is, one of its entries
abbrev pub IsWrongAt : Memory → List Tile → ℕ → ℕ → Type 0
IsWrongAt m ts at place = IsWrongHead m ts at place ⊎ ((is_head m ts at ≡ true) × IsWrongEntry m ts at place)

-- the named index is wrong; if it is not, the unique one
abbrev pub IsWrongIndex : Memory → List Tile → ℕ → Type 0
IsWrongIndex m ts place =
    IsWrongAt m ts 32 place ⊎ (((has_index m ts 32 && are_distinct (targets m 32)) ≡ true) × IsWrongAt m ts 56 place)
