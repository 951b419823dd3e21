use Rattle.segment_dump.proofs.counting.text_len.Goals as goal
use Rattle.segment_dump.proofs.Common.{length, Some, None, sym, Any, text_lines}
use Rattle.segment_dump.proofs.{reading.Sizes.text-by, counting.Contents.IsShort, counting.Contents.text-none}
use Rattle.segment_dump.proofs.{counting.Contents.text-some, reading.Prefixes.as-seen}

pub returns-in_err-len-clause-value : goal.returns-in_err-len-clause-value
returns-in_err-len-clause-value c =
    as-seen text_lines IsShort Any length c.args.text.now None c.from_residual-in_err-len.result
    (sym c.from_residual-in_err-len.ensures)
    (text-none c.args.text.now c.in_ok-behind.field-0.now c.in_ok-behind.ensures c.in_err-len.ensures.value)

pub returns-in_err-behind_lines-clause-value : goal.returns-in_err-behind_lines-clause-value
returns-in_err-behind_lines-clause-value c =
    as-seen text_lines IsShort Any length c.args.text.now None c.from_residual-in_err-behind_lines.result
    (sym c.from_residual-in_err-behind_lines.ensures)
    (text-some c.args.text.now c.in_ok-behind.field-0.now c.in_ok-len.len c.in_ok-len.rest.now c.pieces_in.result
    None c.in_ok-behind.ensures c.in_ok-len.ensures.value c.pieces_in.ensures c.in_err-behind_lines.ensures.skip_count)

pub returns-clause-value : goal.returns-clause-value
returns-clause-value c =
    text-some c.args.text.now c.in_ok-behind.field-0.now c.in_ok-len.len c.in_ok-len.rest.now c.pieces_in.result
    (Some c.in_ok-behind_lines.field-0.now) c.in_ok-behind.ensures c.in_ok-len.ensures.value c.pieces_in.ensures
    c.in_ok-behind_lines.ensures.skip_count

pub returns-clause-text : goal.returns-clause-text
returns-clause-text c =
    text-by c.args.text.now c.in_ok-behind.field-0.now c.in_ok-len.rest.now c.in_ok-behind_lines.field-0.now
    c.in_ok-len.len c.pieces_in.result c.in_ok-behind.ensures c.in_ok-len.ensures.spelled c.pieces_in.ensures
    c.in_ok-behind_lines.ensures.line
