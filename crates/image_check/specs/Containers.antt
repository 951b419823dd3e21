-- The visits of the check of containers, and its conditions on the owners of blocks.
use Rattle.std.specs.Prelude.{◌≡◌, ℕ, ◌+◌, ◌*◌, ◌/◌, ◌%◌, ◌<◌, ◌≤◌, Bool, true, false, nat_lt, Option, Some, None, List}
use Rattle.std.specs.Prelude.{[], ◌∷◌, IsTrue, if◌then◌else◌}
use Rattle.raw_region.specs.Memory.{Memory, word_at}
use Rattle.block_tags.specs.declared.tile.Role.TheVariants.{Object, Storage, Node}
use Rattle.block_tags.specs.declared.tile.Tile.{Tile}
use Rattle.seg_types.specs.declared.kinds.ScalarKind.{ScalarKind}
use Rattle.seg_types.specs.declared.kinds.Kind.{Kind}
use Rattle.seg_types.specs.declared.kinds.Kind.TheVariants.{Map}
use Rattle.image_check.specs.declared.owners.Block.{Block}
use Rattle.image_check.specs.declared.owners.Owner.{Owner}
use Rattle.image_check.specs.ObjectTests.{is_object_tile, is_use, kind_at, payload, tile_of, value_offset}
use Rattle.image_check.specs.Fields.{has_storage, is_container}
use Rattle.image_check.specs.MapNodes.{is_rooted}
use Rattle.image_check.specs.Owners.{Blocks, AreBlocks, IsMarkedLink, IsFollowed, owner_at}
use Rattle.image_check.specs.Visits.{Rates, rate_of}

-- the visits for the blocks of containers, by the offset of the first link to them
abbrev pub container_block_rates : Rates
container_block_rates = record { free = 0; object = 0; index = 0; storage = 16; node = 13 }

-- the rates of the walk over the tiles and objects for their containers
abbrev pub container_walk_rates : Rates
container_walk_rates = record { free = 1; object = 12; index = 1; storage = 1; node = 1 }

abbrev pub block_weight : Block → ℕ
block_weight b = rate_of container_block_rates (Some b.role) * (b.len / 16)

-- the sum over all blocks
abbrev pub weigh_blocks : Blocks → ℕ
weigh_blocks [] = 0
weigh_blocks (e ∷ es) = block_weight e.1 + weigh_blocks es

-- the sum over the blocks whose first link is at this offset
abbrev pub rooted_weight : ℕ → Blocks → ℕ
rooted_weight root [] = 0
rooted_weight root (e ∷ es) = (if is_rooted root e.1.owner then block_weight e.1 else 0) + rooted_weight root es

-- whether the first link to the block is before this offset
abbrev pub is_rooted_below : ℕ → Option Owner → Bool
is_rooted_below at None = false
is_rooted_below at (Some o) = nat_lt o.root at

-- the sum over the blocks whose first link is before this offset
abbrev pub weight_below : ℕ → Blocks → ℕ
weight_below at [] = 0
weight_below at (e ∷ es) = (if is_rooted_below at e.1.owner then block_weight e.1 else 0) + weight_below at es

-- the links of each owned node are entered
pub record AreFollowed (m : Memory) (ts : List Tile) (es : Blocks) : Type 0 where
  pub blocks : AreBlocks ts es
  pub followed : (n : ℕ) (o : Owner) (t : Tile) → tile_of ts Node n ≡ Some t → owner_at es n ≡ Some o
      → IsFollowed m ts es n o.root

-- the link of the container at this offset is entered, as its own first link
pub record IsLinkNoted (m : Memory) (ts : List Tile) (es : Blocks) (kind : Kind) (at : ℕ) : Type 0 where
  pub storage : IsTrue (has_storage kind) → 0 < word_at m (at + 16) → IsMarkedLink m ts es Storage at at
  pub root : (k v : ScalarKind) → kind ≡ Map k v → IsMarkedLink m ts es Node at at

-- ---- the walk over the tiles

-- whether the tile holds no object with a wrong container
abbrev pub has_container : ℕ → Memory → List Tile → Tile → Bool
has_container format m ts t =
    if is_use Object t
    then elim (kind_at format m (payload t)) [
      | None ↦ true
      | Some kind ↦ is_container m ts (kind, value_offset m (payload t))
    ]
    else true

-- the tile is in a window of this many bytes
pub record LiesInWindow (size : ℕ) (t : Tile) : Type 0 where
  pub low : 128 ≤ t.offset
  pub whole : t.offset % 16 ≡ 0
  pub long : 32 ≤ t.len
  pub high : t.offset + t.len + 16 ≤ size

-- the tile's object is valid, and the link of its value is entered
pub record IsCheckedTile (format : ℕ) (m : Memory) (ts : List Tile) (es : Blocks) (t : Tile) : Type 0 where
  pub object : is_use Object t ≡ true → is_object_tile format m t ≡ true
  pub noted : (kind : Kind) → is_use Object t ≡ true → kind_at format m (payload t) ≡ Some kind
      → IsLinkNoted m ts es kind (value_offset m (payload t))

-- the visits of a tile are at most its own rate and the rates of the blocks whose first link is in it
abbrev pub PaysFor : Blocks → Tile → ℕ → ℕ → Type 0
PaysFor es t old new = (old ≤ new)
    × (new + weight_below t.offset es ≤ old + rate_of container_walk_rates t.use_of * (t.len / 16)
    + weight_below (t.offset + t.len) es)
