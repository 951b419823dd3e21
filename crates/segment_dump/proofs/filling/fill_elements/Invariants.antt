use Rattle.segment_dump.proofs.filling.fill_elements.Given as goal
use Rattle.segment_dump.proofs.{Common.◌≡◌, Common.length, filling.EmptyObjects.InElements}
use Rattle.raw_region.specs.Memory.{SameSurroundings}
use Rattle.segment_dump.specs.Builders.{HasLocatedObject}

abbrev pub invariant-elements : goal.invariant-elements
invariant-elements l = InElements l.fn.segment l.segment l.object.handle l.object.kind l.fn.lines l.lines
    (length l.fn.room) l.index × (length l.room ≡ length l.fn.room) × HasLocatedObject l.segment l.object
    × SameSurroundings l.fn.segment.cut l.segment.cut
