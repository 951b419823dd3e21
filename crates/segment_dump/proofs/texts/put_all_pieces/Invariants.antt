use Rattle.segment_dump.proofs.texts.put_all_pieces.Given as goal
use Rattle.segment_dump.proofs.{Common.Writes, Common.parts_until, Common.piece_line, texts.Parts.well}

abbrev pub invariant-pieces : goal.invariant-pieces
invariant-pieces g l = Writes (g.W.Sink.history l.initial.out) (g.W.Sink.history l.out) well
    (parts_until (piece_line l.text) l.index)
