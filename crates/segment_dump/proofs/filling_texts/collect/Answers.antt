use Rattle.segment_dump.proofs.filling_texts.collect.Goals as goal
use Rattle.segment_dump.proofs.{Common.arith, Common.◌∙◌, reading.Pieces.pieces-end, reading.Pieces.pieces-more}
use Rattle.segment_dump.proofs.reading.Pieces.{collect-no_first, collect-no_copy, collect-start, more-no_copy}
use Rattle.segment_dump.proofs.reading.Pieces.{more-no_line}

pub returns-in_err-tokens-clause-text : goal.returns-in_err-tokens-clause-text
returns-in_err-tokens-clause-text c =
    collect-no_first c.args.lines.now c.first_line.new.lines c.args.room.now _ c.args.room.now
    c.from_residual.result c.in_err-tokens.ensures c.first_line.new.lines

pub returns-in_err-filled-clause-text : goal.returns-in_err-filled-clause-text
returns-in_err-filled-clause-text c =
    collect-no_copy c.args.lines.now c.first_line.new.lines c.args.room.now c.in_ok-tokens.tokens c.in_ok-tokens.len
    c.copy_piece.new.room _ c.from_residual-in_err-filled.result c.in_ok-tokens.ensures c.in_err-filled.ensures.piece
    c.first_line.new.lines

pub pieces-init : goal.pieces-init
pieces-init c = (
  collect-start c.args.lines.now c.first_line.new.lines c.args.room.now c.in_ok-tokens.tokens c.in_ok-tokens.len
      c.copy_piece.new.room c.in_ok-filled.filled c.in_ok-tokens.ensures c.in_ok-filled.ensures.piece,
  c.in_ok-filled.ensures.in_bounds,
  c.copy_piece.auto.room,
)

pub pieces-preserved : goal.pieces-preserved
pieces-preserved c = (
  pieces-more c.args.lines.now c.args.room.now c.pieces.lines c.pieces.room c.in_ok-tokens.len c.pieces.filled
      c.pieces.counter c.pieces.invariant.0 (omega (arith, c.pieces-test.true, c.pieces_behind-end.ensures))
      c.next_line.new.self
      c.in_ok-tokens-2.tokens c.copy_piece-in-pieces.new.room c.in_ok-filled-2.filled c.pieces.invariant.2
      c.in_ok-tokens-2.ensures.line c.in_ok-filled-2.ensures.piece,
  c.in_ok-filled-2.ensures.in_bounds,
  c.copy_piece-in-pieces.auto.room ∙ c.pieces.invariant.2,
)

pub returns-clause-text : goal.returns-clause-text
returns-clause-text c =
    pieces-end c.args.lines.now c.args.room.now c.pieces.lines c.pieces.room c.in_ok-tokens.len c.pieces.filled
    c.pieces.counter c.pieces.invariant.0 (omega (arith, c.pieces-test.false, c.pieces_behind-end.ensures))

pub returns-in_err-tokens-2-clause-text : goal.returns-in_err-tokens-2-clause-text
returns-in_err-tokens-2-clause-text c =
    more-no_line c.args.lines.now c.args.room.now c.pieces.lines c.pieces.room c.in_ok-tokens.len c.pieces.filled
    c.pieces.counter c.pieces.invariant.0 (omega (arith, c.pieces-test.true, c.pieces_behind-end.ensures))
    c.next_line.new.self _
    c.pieces.room c.from_residual-in_err-tokens-2.result c.in_err-tokens-2.ensures.line c.next_line.new.self

pub returns-in_err-filled-2-clause-text : goal.returns-in_err-filled-2-clause-text
returns-in_err-filled-2-clause-text c =
    more-no_copy c.args.lines.now c.args.room.now c.pieces.lines c.pieces.room c.in_ok-tokens.len c.pieces.filled
    c.pieces.counter c.pieces.invariant.0 (omega (arith, c.pieces-test.true, c.pieces_behind-end.ensures))
    c.next_line.new.self c.in_ok-tokens-2.tokens c.copy_piece-in-pieces.new.room _
    c.from_residual-in_err-filled-2.result
    c.pieces.invariant.2 c.in_ok-tokens-2.ensures.line c.in_err-filled-2.ensures.piece c.next_line.new.self
    c.copy_piece-in-pieces.new.room
