use Rattle.raw_region.proofs.Laws.{SameSurroundings-trans}
use Rattle.segment_dump.proofs.filling_texts.fill_string.Goals as goal
use Rattle.segment_dump.proofs.{Common.arith, Common.refl, building.Presence.still-here}
use Rattle.segment_dump.proofs.filling.Strings.{string-end, string-more, string-no_first, string-no_line}
use Rattle.segment_dump.proofs.filling.Strings.{string-no_more}
use Rattle.segment_dump.proofs.filling.Strings.{string-no_piece, string-refused, string-start}

pub returns-in_err-tokens-clause-filling : goal.returns-in_err-tokens-clause-filling
returns-in_err-tokens-clause-filling c = λ room. string-no_first c.in_err-tokens.ensures

pub returns-in-Err-clause-filling : goal.returns-in-Err-clause-filling
returns-in-Err-clause-filling c =
    λ room. string-refused c.args.segment.now c.reserve_object.new.segment c.args.object.handle room
    c.args.lines.now c.first_line.new.lines c.in_ok-tokens.tokens c.in_ok-tokens.len c.reserve_object.result
    c.reserve_object.ensures.step c.in_ok-tokens.ensures c.in-Err.is

pub returns-in_err-append_piece-clause-filling : goal.returns-in_err-append_piece-clause-filling
returns-in_err-append_piece-clause-filling c =
    λ room. string-no_piece c.args.segment.now c.reserve_object.new.segment c.args.object.handle room c.args.lines.now
    c.first_line.new.lines c.in_ok-tokens.tokens c.in_ok-tokens.len c.reserve_object.result
    c.reserve_object.ensures.step c.in_ok-tokens.ensures c.in_err-append_piece.ensures.append

pub pieces-init : goal.pieces-init
pieces-init c = (
  λ room. string-start c.args.segment.now c.reserve_object.new.segment c.args.object.handle room
      c.args.lines.now c.first_line.new.lines c.in_ok-tokens.tokens c.in_ok-tokens.len c.reserve_object.result
      c.reserve_object.ensures.step c.in_ok-tokens.ensures c.in_ok-append_piece.ensures.append,
  c.in_ok-append_piece.ensures.in_place,
  SameSurroundings-trans _ _ _ c.reserve_object.ensures.step.stays.place c.in_ok-append_piece.ensures.place,
)

pub returns-in_err-tokens-2-clause-filling : goal.returns-in_err-tokens-2-clause-filling
returns-in_err-tokens-2-clause-filling c = λ room. string-no_line (c.pieces.invariant.0 room)
    (omega (arith, c.pieces-test.true, c.pieces_behind-end.ensures)) c.in_err-tokens-2.ensures.line

pub returns-in_err-append_piece-2-clause-filling : goal.returns-in_err-append_piece-2-clause-filling
returns-in_err-append_piece-2-clause-filling c = λ room. string-no_more (c.pieces.invariant.0 room)
    (omega (arith, c.pieces-test.true, c.pieces_behind-end.ensures)) c.in_ok-tokens-2.ensures.line
    c.in_err-append_piece-2.ensures.append

pub pieces-preserved : goal.pieces-preserved
pieces-preserved c = (
  λ room. string-more (c.pieces.invariant.0 room)
      (omega (arith, c.pieces-test.true, c.pieces_behind-end.ensures)) c.in_ok-tokens-2.ensures.line
      c.in_ok-append_piece-2.ensures.append,
  c.in_ok-append_piece-2.ensures.in_place,
  SameSurroundings-trans _ _ _ c.pieces.invariant.2 c.in_ok-append_piece-2.ensures.place,
)

pub returns-clause-filling : goal.returns-clause-filling
returns-clause-filling c = λ room. string-end (c.pieces.invariant.0 room)
    (omega (arith, c.pieces-test.false, c.pieces_behind-end.ensures))

pub reserve_object-requires : goal.reserve_object-requires
reserve_object-requires c = c.requires.object.object

pub append_piece-requires-clause-object : goal.append_piece-requires-clause-object
append_piece-requires-clause-object c = still-here c.requires.object _ _ c.reserve_object.ensures.step refl

pub append_piece-requires-in-pieces-clause-object : goal.append_piece-requires-in-pieces-clause-object
append_piece-requires-in-pieces-clause-object c = c.pieces.invariant.1

pub returns-in_err-append_piece-clause-place : goal.returns-in_err-append_piece-clause-place
returns-in_err-append_piece-clause-place c = SameSurroundings-trans _ _ _ c.reserve_object.ensures.step.stays.place
    c.in_err-append_piece.ensures.place

pub returns-in_err-tokens-2-clause-place : goal.returns-in_err-tokens-2-clause-place
returns-in_err-tokens-2-clause-place c = c.pieces.invariant.2

pub returns-in_err-append_piece-2-clause-place : goal.returns-in_err-append_piece-2-clause-place
returns-in_err-append_piece-2-clause-place c =
    SameSurroundings-trans _ _ _ c.pieces.invariant.2 c.in_err-append_piece-2.ensures.place

pub returns-clause-place : goal.returns-clause-place
returns-clause-place c = c.pieces.invariant.2
