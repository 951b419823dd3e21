use Rattle.segment_dump.proofs.reading.Pieces.{piece-unread_copied, was-copied}
use Rattle.segment_dump.proofs.filling_texts.copy_piece.Goals as goal

pub returns-in_err-piece-clause-piece : goal.returns-in_err-piece-clause-piece
returns-in_err-piece-clause-piece c =
    piece-unread_copied c.args.tokens.now c.args.room.now c.args.room.now c.args.from _ c.from_residual.result
    c.in_err-piece.ensures.piece

pub returns-clause-piece : goal.returns-clause-piece
returns-clause-piece c = was-copied c.args.tokens.now c.args.room.now c.put_at.new.room c.bytes-bytes.result.now
    c.in_ok-piece.piece c.args.from c.in_ok-piece.ensures.piece c.bytes-bytes.ensures c.put_at.ensures
