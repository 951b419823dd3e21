use Rattle.segment_dump.proofs.reading.Pieces.{first-no_line, first-no_number, first-some}
use Rattle.segment_dump.proofs.filling_texts.first_line.Goals as goal

pub returns-in_err-tokens : goal.returns-in_err-tokens
returns-in_err-tokens c = first-no_line c.numbers_are_decimals.ensures c.args.lines.now c.next_line.new.self _
    c.from_residual.result c.in_err-tokens.ensures.line

pub returns-in_err-len : goal.returns-in_err-len
returns-in_err-len c = first-no_number c.numbers_are_decimals.ensures c.args.lines.now c.next_line.new.self
    c.in_ok-tokens.tokens c.next_number.new.self _ c.from_residual-in_err-len.result c.in_ok-tokens.ensures.line
    c.in_err-len.ensures.token

pub returns : goal.returns
returns c = first-some c.numbers_are_decimals.ensures c.args.lines.now c.next_line.new.self c.in_ok-tokens.tokens
    c.next_number.new.self c.in_ok-len.len c.in_ok-tokens.ensures.line c.in_ok-len.ensures.token
