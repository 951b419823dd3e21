use Rattle.std.proofs.Common.{refl, true, false, Some, [], ◌∷◌}
use Rattle.block_tags.specs.declared.tile.Role.TheVariants.{Node}
use Rattle.block_tags.specs.declared.tile.Tile.{Tile}
use Rattle.block_tags.specs.Lists.{free_tile}
use Rattle.layer_tests.proofs.calls.Windows.{has_tile, may_be_used, may_have_colour}
use Rattle.layer_tests.proofs.block_tags_tests.gives_use_and_colour.Goals as goal

-- the tile in use, black and red
abbrev black : Tile
black = record { offset = 128; len = 880; use_of = Some Node; red = false }

abbrev red : Tile
red = record { offset = 128; len = 880; use_of = Some Node; red = true }

pub set_use-requires : goal.set_use-requires
set_use-requires g c = may_be_used _ (free_tile 128 880 ∷ []) c.laid-window.ensures 128 (Some Node) _ refl refl

pub red-requires : goal.red-requires
red-requires g c = has_tile _ (black ∷ []) (c.set_use.ensures.tags (free_tile 128 880 ∷ []) c.laid-window.ensures)
    128 black refl

pub set_red-requires : goal.set_red-requires
set_red-requires g c = may_have_colour _ (black ∷ [])
    (c.set_use.ensures.tags (free_tile 128 880 ∷ []) c.laid-window.ensures) 128 true black refl refl

pub red-requires-2 : goal.red-requires-2
red-requires-2 g c =
    has_tile _ (red ∷ []) (c.set_red.ensures.tags (black ∷ [])
    (c.set_use.ensures.tags (free_tile 128 880 ∷ []) c.laid-window.ensures)) 128 red refl

pub tile_at-requires : goal.tile_at-requires
tile_at-requires g c =
    has_tile _ (red ∷ []) (c.set_red.ensures.tags (black ∷ [])
    (c.set_use.ensures.tags (free_tile 128 880 ∷ []) c.laid-window.ensures)) 128 red refl

pub check-requires : goal.check-requires
check-requires g c =
    (c.set_red.ensures.tags (black ∷ []) (c.set_use.ensures.tags (free_tile 128 880 ∷ []) c.laid-window.ensures)).size
