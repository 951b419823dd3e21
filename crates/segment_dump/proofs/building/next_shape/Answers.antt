use Rattle.segment_dump.proofs.reading.ObjectHeads.{shape-more, shape-no_count, shape-no_kind, shape-some}
use Rattle.segment_dump.proofs.building.next_shape.Goals as goal

pub returns-in_err-kind : goal.returns-in_err-kind
returns-in_err-kind c = shape-no_kind c.numbers_are_decimals.ensures c.args.tokens.now c.next_kind.new.self _
    c.from_residual.result c.in_err-kind.ensures

pub returns-in_err-count : goal.returns-in_err-count
returns-in_err-count c = shape-no_count c.numbers_are_decimals.ensures c.args.tokens.now c.next_kind.new.self
    c.next_number.new.self c.in_ok-kind.kind _ c.from_residual-in_err-count.result c.in_ok-kind.ensures
    c.in_err-count.ensures.token

pub returns-in_err-finish : goal.returns-in_err-finish
returns-in_err-finish c = shape-more c.numbers_are_decimals.ensures c.args.tokens.now c.next_kind.new.self
    c.next_number.new.self c.in_ok-kind.kind c.in_ok-count.count _ c.from_residual-in_err-finish.result
    c.in_ok-kind.ensures c.in_ok-count.ensures.token c.in_err-finish.ensures

pub returns : goal.returns
returns c = shape-some c.numbers_are_decimals.ensures c.args.tokens.now c.next_kind.new.self c.next_number.new.self
    c.in_ok-kind.kind c.in_ok-count.count c.at-at.result c.in_ok-kind.ensures c.in_ok-count.ensures.token
