-- The payload of a tile of an image is a place.
use Rattle.image_check.proofs.Common.{HasTiles, Node, Some, Tile, WindowState, bytes_of, is_target, is_target-from}
use Rattle.image_check.proofs.Common.{legal_size, length, refl, tile_of, true, ℕ, ◌≡◌}
use Rattle.image_check.proofs.Common.{arith}
use Rattle.raw_region.specs.Format.{current}
use Rattle.image_check.specs.Passes.{tiles_in}
use Rattle.image_check.proofs.block_collection.Places.{found}
use Rattle.image_check.proofs.free_tree.Meaning.{handle_from}

-- the payload of a node is a place
pub node-place : (c : WindowState) (n : ℕ) (t : Tile) → HasTiles c.bytes → tile_of (tiles_in c.bytes) Node n ≡ Some t
    → is_target c n ≡ true
node-place c n t h e =
    let k = found current (bytes_of c.bytes) (length c.bytes) Node n t h.tags e in
    let at = k.there in
    let low = k.lies.low in
    let whole = k.lies.whole refl in
    let long = k.lies.long in
    let high = k.lies.high in
    let least = (legal_size (length c.bytes) h.size).low in
    is_target-from c n h.size (handle_from (length c.bytes) n (omega arith) (omega arith) (omega arith))
