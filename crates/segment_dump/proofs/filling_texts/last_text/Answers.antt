use Rattle.segment_dump.proofs.reading.Pieces.{piece-more, piece-some, piece-unread}
use Rattle.segment_dump.proofs.filling_texts.last_text.Goals as goal

pub returns-in_err-piece-clause-piece : goal.returns-in_err-piece-clause-piece
returns-in_err-piece-clause-piece c =
    piece-unread c.texts_are_spelled.ensures c.args.tokens.now c.next_text.new.self _ c.from_residual.result
    c.in_err-piece.ensures.token

pub returns-in_err-finish-clause-piece : goal.returns-in_err-finish-clause-piece
returns-in_err-finish-clause-piece c =
    piece-more c.texts_are_spelled.ensures c.args.tokens.now c.next_text.new.self c.in_ok-piece.piece _
    c.from_residual-in_err-finish.result c.in_ok-piece.ensures.token c.in_err-finish.ensures

pub returns-clause-piece : goal.returns-clause-piece
returns-clause-piece c = piece-some c.texts_are_spelled.ensures c.args.tokens.now c.next_text.new.self
    c.in_ok-piece.piece c.in_ok-piece.ensures.token
