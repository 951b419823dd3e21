-- The results of a pass over an image.
use Rattle.std.specs.Prelude.{◌≡◌, ℕ, ◌+◌, ◌≤◌, Bool, true, false, List, filter_map, length, is_some, IsTrue, Result}
use Rattle.std.specs.Prelude.{MatchResult}
use Rattle.std.specs.List.{list_any}
use Rattle.raw_region.specs.Memory.{bytes_of}
use Rattle.raw_region.specs.Format.{current}
use Rattle.block_tags.specs.Format.{is_legal_size}
use Rattle.block_tags.specs.Tiles.{tiles_of, has_tags}
use Rattle.block_tags.specs.declared.tile.Tile.{Tile}
use Rattle.image_check.specs.declared.errors.MemoryFault.{MemoryFault}
use Rattle.image_check.specs.declared.errors.MemoryFault.TheVariants.{Bytes, BlockMap}
use Rattle.image_check.specs.declared.room.NoBlockMemory.{NoBlockMemory}
use Rattle.image_check.specs.Visits.{Rates, weigh}

-- the tiles of an image
abbrev pub tiles_in : List ℕ → List Tile
tiles_in b = tiles_of (bytes_of b) (length b)

-- whether a tile is in use
abbrev pub has_block : List ℕ → Bool
has_block b = list_any (λ (t : Tile). is_some t.use_of) (tiles_in b)

-- the number of blocks in use in an image
abbrev pub blocks_in : List ℕ → ℕ
blocks_in b = length (filter_map (λ (t : Tile). t.use_of) (tiles_in b))

-- the tags of an image of a legal size are good
pub record HasTiles (b : List ℕ) : Type 0 where
  pub size : IsTrue (is_legal_size (length b))
  pub tags : IsTrue (has_tags current (bytes_of b) (length b))

-- a pass returns an error, with the offset that shows it, exactly if its test fails
abbrev pub ChecksClass : {A : Type 0} → Bool → (ℕ → Type 0) → Result A ℕ → Type 0
ChecksClass fine Shows result = MatchResult result (λ done. fine ≡ true) (λ at. (fine ≡ false) × Shows at)

-- a pass raises the count by at most this number, and these rates for each 16 bytes of a tile
abbrev pub Spends : Rates → ℕ → List ℕ → ℕ → ℕ → Type 0
Spends rates more b old new = (old ≤ new) × (new ≤ old + (more + weigh rates (tiles_in b)))

-- a pass counts at least one visit for each tile
abbrev pub CountsTiles : List ℕ → ℕ → ℕ → Type 0
CountsTiles b old new = old + length (tiles_in b) ≤ new

-- a pass counts at least one visit for each block in use
abbrev pub CountsBlocks : List ℕ → ℕ → ℕ → Type 0
CountsBlocks b old new = old + length (tiles_in b) + blocks_in b ≤ new

-- the error names as many blocks as the image has
abbrev pub IsRefusalFor : List ℕ → NoBlockMemory → Type 0
IsRefusalFor b refusal = refusal.blocks ≡ blocks_in b

-- the fault is a refused request for the block map
abbrev pub IsMapRefused : List ℕ → MemoryFault → Type 0
IsMapRefused b (Bytes refusal) = ⊥
IsMapRefused b (BlockMap refusal) = IsRefusalFor b refusal
