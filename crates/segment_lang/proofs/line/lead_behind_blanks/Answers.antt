use Rattle.std.proofs.Common.{◌∙◌, ap, cond, sym}
use Rattle.raw_region.specs.Format.{current}
use Rattle.seg_types.specs.Commands.{Nothing}
use Rattle.segment_lang.specs.Language.{whole_language}
use Rattle.segment_lang.specs.Reading.{command_line, skip_blanks}
use Rattle.segment_lang.specs.Seen.{reader_of}
use Rattle.segment_lang.proofs.commands.Lexing.{known_command}
use Rattle.segment_lang.proofs.line.lead_behind_blanks.Goals as goal

pub returns-in-Some : goal.returns-in-Some
returns-in-Some c =
    known_command c.skip_blanks-line.result.now c.in-Some.rest.now (reader_of c.in-Some.form) (sym c.is_empty.ensures
    ∙ c.if-is_empty.false) c.in-Some.ensures
    ∙ ap (command_line (whole_language current)) c.skip_blanks-line.ensures.value
    ∙ ap (λ b. cond b Nothing (command_line (whole_language current) (skip_blanks c.args.line.now)))
    (sym c.if-is_comment.false
    ∙ c.is_comment.ensures)
