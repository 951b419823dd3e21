use Rattle.std.proofs.Common.{◌∙◌, ◌≡◌, Option, Some, None, false, ap, option_map, sym}
use Rattle.seg_types.specs.Commands as asked
use Rattle.segment_lang.specs.Seen.{is_wrong, reading_of}
use Rattle.segment_lang.proofs.line.line_error.Goals as goal

nothing-right : (r : asked.Reading) → Some asked.Nothing ≡ Some r → is_wrong r ≡ false
nothing-right r e = let same : asked.Nothing ≡ r = cc in sym (ap is_wrong same)

command-right : (command : Option asked.Command) (r : asked.Reading) → option_map asked.Asked command ≡ Some r
    → is_wrong r ≡ false
command-right None r e = absurd (cc)
command-right (Some command) r e = let same : asked.Asked command ≡ r = cc in sym (ap is_wrong same)

pub returns-in-Nothing : goal.returns-in-Nothing
returns-in-Nothing c = nothing-right _ (sym (ap reading_of c.in-Nothing.is) ∙ c.read_line.ensures)

pub returns-in-Command : goal.returns-in-Command
returns-in-Command c = command-right _ _ (sym (ap reading_of c.in-Command.is) ∙ c.read_line.ensures)
