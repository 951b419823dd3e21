-- The tiles of good tags: a row, of which no two free tiles are neighbours.
use Rattle.image_check.proofs.Common.{Apart, HasTiles, IsTrue, List, Memory, Row, Tile, bytes_of, false, has_tags}
use Rattle.image_check.proofs.Common.{length}
use Rattle.image_check.proofs.Common.{tiles_of, ℕ, ◌-◌}
use Rattle.raw_region.specs.Format.{current}
use Rattle.image_check.specs.Passes.{tiles_in}
use Rattle.block_tags.proofs.Laws.{AreTags-AreContiguous, has_tags-AreTilesOf, has_tags-is_merged}
use Rattle.best_fit.proofs.Laws.{AreContiguous-Row, is_merged-Apart}

-- the tiles of a segment of this size
pub record AreWholeTiles (ts : List Tile) (size : ℕ) : Type 0 where
  pub row : Row 128 ts (size - 16)
  pub apart : Apart false ts

-- good tags describe such tiles, in each format
pub has_tags-AreWholeTiles : (format : ℕ) (m : Memory) (size : ℕ) → IsTrue (has_tags format m size)
    → AreWholeTiles (tiles_of m size) size
has_tags-AreWholeTiles format m size h = record {
  row = AreContiguous-Row format 128 (tiles_of m size) (size - 16)
      (AreTags-AreContiguous format m 128 0 (tiles_of m size) (size - 16) (has_tags-AreTilesOf format m size h));
  apart = is_merged-Apart (tiles_of m size) (has_tags-is_merged format m size h);
}

-- the tiles of an image are a row
pub image-row : (b : List ℕ) → HasTiles b → Row 128 (tiles_in b) (length b - 16)
image-row b h = (has_tags-AreWholeTiles current (bytes_of b) (length b) h.tags).row
