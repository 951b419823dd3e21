use Rattle.std.proofs.Common.{◌≡◌, ◌++◌, take}
use Rattle.std.specs.List.{flat_map}
use Rattle.segment_lang.specs.Pieces.{piece_text}
use Rattle.segment_lang.proofs.pieces.put_pieces.Given as goal

abbrev pub invariant-pieces : goal.invariant-pieces
invariant-pieces g l = record {
  taken : (g.S.Sink.history l.out).bytes ≡ (g.S.Sink.history l.initial.out).bytes ++ flat_map piece_text
      (take l.piece-index l.pieces);
  failures : (g.S.Sink.history l.out).failures ≡ (g.S.Sink.history l.initial.out).failures;
}
