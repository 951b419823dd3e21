-- The number of visits of the check of an image, for each 16 bytes of a tile, by the tile's use.
use Rattle.std.specs.Prelude.{ℕ, ◌≤◌, ◌+◌, ◌*◌, ◌/◌, Option, Some, None, List, [], ◌∷◌}
use Rattle.block_tags.specs.declared.tile.Role.{Role}
use Rattle.block_tags.specs.declared.tile.Role.TheVariants.{Object, Index, Storage, Node}
use Rattle.block_tags.specs.declared.tile.Tile.{Tile}

-- a pass makes at most this many visits
abbrev pub AddsVisits : ℕ → ℕ → ℕ → Type 0
AddsVisits n old new = (old ≤ new) × (new ≤ old + n)

-- the visits of a pass for each 16 bytes of a gap, and of a block in use by its role
pub record Rates : Type 0 where
  pub free : ℕ
  pub object : ℕ
  pub index : ℕ
  pub storage : ℕ
  pub node : ℕ

-- the visits for 16 bytes of a use
abbrev pub rate_of : Rates → Option Role → ℕ
rate_of r None = r.free
rate_of r (Some Object) = r.object
rate_of r (Some Index) = r.index
rate_of r (Some Storage) = r.storage
rate_of r (Some Node) = r.node

-- the sum over all tiles
abbrev pub weigh : Rates → List Tile → ℕ
weigh r [] = 0
weigh r (t ∷ ts) = rate_of r t.use_of * (t.len / 16) + weigh r ts

-- the sum of the rates of two passes
abbrev pub both : Rates → Rates → Rates
both r s = record {
  free = r.free + s.free;
  object = r.object + s.object;
  index = r.index + s.index;
  storage = r.storage + s.storage;
  node = r.node + s.node;
}

-- bounds for each pass: the tags and the collection of blocks, the free tree with a search for each gap, and the
-- passes over the blocks
abbrev pub tag_rates : Rates
tag_rates = record { free = 1; object = 1; index = 1; storage = 1; node = 1 }

-- a search of a tree of at most 2^26 - 2 nodes visits at most 52 of them
abbrev pub planting_visits : Option Role → ℕ
planting_visits None = 53
planting_visits (Some role) = 0

-- the visits for the search of each gap in the free tree, for 16 bytes
abbrev pub planting_rates : Rates
planting_rates = record { free = 27; object = 1; index = 1; storage = 1; node = 1 }

-- the steps of the check of the tree, over links of any value
abbrev pub step_rates : Rates
step_rates = record { free = 5; object = 5; index = 5; storage = 5; node = 5 }

-- the visits of the free tree, for 16 bytes
abbrev pub tree_rates : Rates
tree_rates = both step_rates planting_rates

-- the visits of the indexes, for 16 bytes
abbrev pub index_rates : Rates
index_rates = record { free = 0; object = 4; index = 12; storage = 0; node = 0 }

-- the visits of the objects, for 16 bytes
abbrev pub object_rates : Rates
object_rates = record { free = 1; object = 22; index = 13; storage = 1; node = 1 }

-- the visits of the links, for 16 bytes
abbrev pub sharing_rates : Rates
sharing_rates = record { free = 1; object = 4; index = 1; storage = 6; node = 6 }

-- the visits of the containers, for 16 bytes
abbrev pub container_rates : Rates
container_rates = record { free = 1; object = 12; index = 1; storage = 24; node = 18 }

-- the visits of a pass over the blocks in use, for 16 bytes: for owners, and for the hints of the new heap
abbrev pub used_rates : Rates
used_rates = record { free = 0; object = 1; index = 1; storage = 1; node = 1 }

-- the tags and the free tree, the passes over the blocks, and all passes after the first words
abbrev pub frame_rates : Rates
frame_rates = both tag_rates tree_rates

-- the visits of the passes over blocks, for 16 bytes
abbrev pub block_rates : Rates
block_rates = both index_rates (both object_rates (both sharing_rates (both container_rates used_rates)))

abbrev pub all_rates : Rates
all_rates = both frame_rates (both tag_rates block_rates)
