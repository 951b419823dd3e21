use Rattle.segment_lang.specs.Pieces.{piece_text}
use Rattle.raw_region.proofs.Laws.{writes-element}
use Rattle.segment_lang.proofs.pieces.put_pieces.Goals as goal

pub returns-in_err-put_piece : goal.returns-in_err-put_piece
returns-in_err-put_piece g c =
    writes-element piece_text c.args.pieces.now c.pieces.piece-index _ (g.S.Sink.history c.args.out.now)
    (g.S.Sink.history c.pieces.out) (g.S.Sink.history c.put_piece.new.out) _ c.from_residual.result
    c.pieces-test.true c.pieces.invariant.taken c.pieces.invariant.failures c.from_residual.ensures.0
    c.in_err-put_piece.ensures
