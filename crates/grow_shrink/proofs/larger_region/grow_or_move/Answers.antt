-- The region has no room, and nothing else is in the way.
use Rattle.grow_shrink.proofs.ShortRegions.{short_of_room}
use Rattle.grow_shrink.proofs.larger_region.grow_or_move.Goals as goal

pub grow_elsewhere-requires-clause-max_len : goal.grow_elsewhere-requires-clause-max_len
grow_elsewhere-requires-clause-max_len c =
    let why = c.in-Err-RegionTooSmall.field-0 in
    rw c.in-Err-RegionTooSmall.ensures.unchanged
    (short_of_room c.args.segment.now c.args.extra why c.in-Err-RegionTooSmall.field-0-is
    c.in-Err-RegionTooSmall.ensures.refused
    (rw c.in-Err-RegionTooSmall.ensures.unchanged at c.size_of-size.ensures.denotation))
