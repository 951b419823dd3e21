use Rattle.segment_dump.proofs.filling_texts.fill_string.Given as goal
use Rattle.segment_dump.proofs.{Common.ℕ, filling.Strings.InString}
use Rattle.raw_region.specs.Memory.{SameSurroundings}
use Rattle.segment_dump.specs.Builders.{HasLocatedObject}

abbrev pub invariant-pieces : goal.invariant-pieces
invariant-pieces l =
    ((room : ℕ) → InString l.fn.segment l.segment l.object.handle l.fn.lines l.lines room l.len l.counter)
    × HasLocatedObject l.segment l.object × SameSurroundings l.fn.segment.cut l.segment.cut
