use Rattle.segment_dump.proofs.reading.Elements.{element-more, element-no_line, element-no_value, element-some}
use Rattle.segment_dump.proofs.tokens.next_value.Goals as goal

pub returns-in_err-tokens-clause-value : goal.returns-in_err-tokens-clause-value
returns-in_err-tokens-clause-value c = element-no_line c.wholes_are_decimals.ensures c.args.kind c.args.lines.now
    c.next_line.new.self
    _ c.from_residual.result c.in_err-tokens.ensures.line

pub returns-in_err-value-clause-value : goal.returns-in_err-value-clause-value
returns-in_err-value-clause-value c = element-no_value c.wholes_are_decimals.ensures c.args.kind c.args.lines.now
    c.next_line.new.self c.in_ok-tokens.tokens c.next_value.new.self _ c.from_residual-in_err-value.result
    c.in_ok-tokens.ensures.line c.in_err-value.ensures.value

pub returns-in_err-finish-clause-value : goal.returns-in_err-finish-clause-value
returns-in_err-finish-clause-value c = element-more c.wholes_are_decimals.ensures c.args.kind
    c.args.lines.now c.next_line.new.self c.in_ok-tokens.tokens c.next_value.new.self c.in_ok-value.value _
    c.from_residual-in_err-finish.result c.in_ok-tokens.ensures.line c.in_ok-value.ensures.value c.in_err-finish.ensures

pub returns-clause-value : goal.returns-clause-value
returns-clause-value c = element-some c.wholes_are_decimals.ensures c.args.kind c.args.lines.now c.next_line.new.self
    c.in_ok-tokens.tokens c.next_value.new.self c.in_ok-value.value c.in_ok-tokens.ensures.line
    c.in_ok-value.ensures.value
