use Rattle.std.proofs.Common.{arith}
use Rattle.segment_lang.specs.Seen.{reader_of}
use Rattle.segment_lang.proofs.commands.Lexing.{command_in_prefix}
use Rattle.segment_lang.proofs.line.line_start.Goals as goal

pub returns-in-Some : goal.returns-in-Some
returns-in-Some c =
    let short = c.if-line-gt-MAX_LINE_LEN.false in
    command_in_prefix c.args.line.now c.without_return-line.result.now c.in-Some.rest.now (reader_of c.in-Some.form)
    c.without_return-line.ensures (grind arith) c.in-Some.ensures
