-- The heap's tile after one of an index is that of the next.
use Rattle.segment_manager.proofs.Common.{◌≡◌, sym, subst, Some, ◌+◌, length, slice_get, bytes_of, tiles_of}
use Rattle.segment_manager.proofs.{Common.IsTileOfIndex, Common.SegmentState, directory.AnyDirectory.tile-is}
use Rattle.segment_manager.proofs.blocks.tiles.next_tile.Goals as goal

pub returns : goal.returns
returns c i e =
    let s : SegmentState = record { cut = c.segment.inside.heap; mode = c.segment.inside.mode } in
    let stands : slice_get (tiles_of (bytes_of s.cut.bytes) (length s.cut.bytes)) i ≡ Some c.args.tile =
    subst (λ (t : SegmentState). slice_get (tiles_of (bytes_of t.cut.bytes) (length t.cut.bytes)) i ≡ Some c.args.tile)
    (sym c.segment.view_is) e in
    subst (λ t. IsTileOfIndex t (i + 1) c.next_tile.result) c.segment.view_is
    (tile-is (c.next_tile.ensures.tile i stands) (c.next_tile.ensures.span i stands))
