-- The definitions at one window of 1024 bytes: an index of 48 bytes, an object of 48 bytes, and a gap.
use Rattle.std.specs.Prelude.{◌≡◌, Bool, true, false, Some, None, List, [], ◌∷◌, map, IsTrue}
use Rattle.block_tags.specs.declared.tile.Role.TheVariants.{Object, Index, Node}
use Rattle.block_tags.specs.declared.tile.Tile.{Tile}
use Rattle.raw_region.specs.Format.{current}
use Rattle.block_tags.specs.Format.{is_legal_size}
use Rattle.block_tags.specs.Tiles.{tag_word, tile_of_word, is_tile, is_merged}
use Rattle.block_tags.specs.Lists.{AreContiguous, tile_in, first_in, next_in, previous_in, last_in, free_tile, split_at}
use Rattle.block_tags.specs.Lists.{joined_at, with_use_at, with_red_at, with_free, without_last, laid}

abbrev pub index : Tile
index = record { offset = 128; len = 48; use_of = Some Index; red = false }

abbrev pub object : Tile
object = record { offset = 176; len = 48; use_of = Some Object; red = false }

abbrev pub tiles : List Tile
tiles = index ∷ object ∷ free_tile 224 784 ∷ []

-- a node of 64 bytes, black or red
abbrev pub node : Bool → Tile
node red = record { offset = 128; len = 64; use_of = Some Node; red = red }

-- worked examples of sizes, words and tiles
pub record WorkedTiles : Type 0 where
  pub legal : map is_legal_size (128 ∷ 144 ∷ 160 ∷ 176 ∷ 180 ∷ 1024 ∷ 1073741840 ∷ [])
      ≡ false ∷ true ∷ false ∷ true ∷ false ∷ true ∷ false ∷ []
  pub words : map tag_word (node true ∷ tiles) ≡ 79 ∷ 53 ∷ 49 ∷ 784 ∷ []
  pub read : tile_of_word 128 53 ≡ index
  pub read_red : tile_of_word 128 79 ≡ node true
  pub black_alone : is_tile current (record object { red = true }) ≡ false
  pub too_short : is_tile current (free_tile 128 16) ≡ false
  pub fill : AreContiguous current 128 tiles 1008
  pub merged : IsTrue (is_merged tiles)
  pub not_merged : is_merged (split_at 224 64 tiles) ≡ false
  pub there : tile_in tiles 176 ≡ Some object
  pub nowhere : tile_in tiles 192 ≡ None
  pub first : first_in tiles ≡ Some index
  pub last : last_in tiles ≡ Some (free_tile 224 784)
  pub next : next_in tiles 176 ≡ Some (free_tile 224 784)
  pub no_next : next_in tiles 224 ≡ None
  pub previous : previous_in tiles 176 ≡ Some index
  pub no_previous : previous_in tiles 128 ≡ None
  pub split : split_at 224 64 tiles ≡ index ∷ object ∷ free_tile 224 64 ∷ free_tile 288 720 ∷ []
  pub joined : joined_at 224 (split_at 224 64 tiles) ≡ tiles
  pub lengthened : joined_at 176 tiles ≡ index ∷ record object { len = 832 } ∷ []
  pub used : with_use_at 176 None tiles ≡ index ∷ free_tile 176 48 ∷ free_tile 224 784 ∷ []
  pub coloured : with_red_at 128 true (node false ∷ []) ≡ node true ∷ []
  pub shorter : without_last tiles ≡ index ∷ object ∷ []
  pub longer : with_free (without_last tiles) 224 1008 ≡ tiles
  pub laid_out : laid 1024 ≡ free_tile 128 880 ∷ []
  pub laid_none : laid 144 ≡ []
