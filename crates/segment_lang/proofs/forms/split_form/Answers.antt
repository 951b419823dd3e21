use Rattle.std.proofs.Common.{map, rules}
use Rattle.segment_lang.specs.declared.forms.TheConstants.{FORMS}
use Rattle.segment_lang.proofs.commands.Forms.{form_in_tables, found_reader, slot_of-lt}
use Rattle.segment_lang.proofs.forms.split_form.Goals as goal

pub returns : goal.returns
returns c =
    found_reader c.args.line.now _ _ _ c.find_form.ensures
    (form_in_tables (map (λ rows. map (λ row. (row.0.now, row.1)) rows.now) FORMS) c.args.line.now (search rules)
    (slot_of-lt c.args.line.now))
