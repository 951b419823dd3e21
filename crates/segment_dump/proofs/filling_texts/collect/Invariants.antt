use Rattle.segment_dump.proofs.filling_texts.collect.Given as goal
use Rattle.segment_dump.proofs.{Common.◌≡◌, Common.◌≤◌, Common.length, reading.Pieces.InPieces}

abbrev pub invariant-pieces : goal.invariant-pieces
invariant-pieces l = InPieces l.fn.lines l.fn.room l.lines l.room l.len l.filled l.counter
    × (l.filled ≤ length l.room) × (length l.room ≡ length l.fn.room)
