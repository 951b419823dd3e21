-- The tile that was read at the position of a walk over the tiles of a window.
use Rattle.image_check.proofs.Common.{EncodesTiles, List, Option, Some, Tile, WindowState, ◌<◌, ◌≡◌}
use Rattle.block_tags.specs.Lists.{next_in}
use Rattle.best_fit.proofs.Laws.{Meets}
use Rattle.image_check.proofs.walks.Tiles.{Walks, WalksAt, at-meets, left_from, walk-at, walk-nearer, walk-read}

module _ (c : WindowState) (Kept : List Tile → Type 0) (tile : Option Tile) (unread here : Tile) (w : Walks c Kept tile)
    (is : tile ≡ Some unread) (same : here ≡ unread) where
  -- the walk is at the tile that was read
  pub read-at : WalksAt c Kept here
  read-at = walk-at c Kept tile here w (walk-read tile unread here is same)

  -- the tile that was read is the one at the walk's position
  pub read-met : Meets c here
  read-met = at-meets c Kept here read-at

  -- the next is nearer to the end
  pub read-nearer : (next : Option Tile) → ((ts : List Tile) → EncodesTiles c ts → next ≡ next_in ts here.offset)
      → left_from c next < left_from c tile
  read-nearer next n = walk-nearer c Kept tile here next read-at (walk-read tile unread here is same) n
