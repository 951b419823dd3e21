use Rattle.segment_dump.proofs.building.build.Given as goal
use Rattle.raw_region.specs.Memory.{SameSurroundings}
use Rattle.segment_dump.proofs.{Common.◌≡◌, Common.length, building.Objects.InBuild}

abbrev pub invariant-objects : goal.invariant-objects
invariant-objects l = InBuild l.fn.segment l.segment l.fn.lines l.lines l.most (length l.fn.room) l.counter
    × (length l.room ≡ length l.fn.room) × SameSurroundings l.fn.segment.cut l.segment.cut
