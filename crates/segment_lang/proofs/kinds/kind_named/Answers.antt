use Rattle.std.proofs.Common.{◌∙◌, map, refl, rules}
use Rattle.segment_lang.specs.declared.kinds.TheConstants.{KINDS}
use Rattle.segment_lang.proofs.commands.KindTables.{kind_in_table}
use Rattle.segment_lang.proofs.kinds.kind_named.Goals as goal

pub returns : goal.returns
returns c = c.find_kind.ensures ∙ kind_in_table (map (λ row. (row.0.now, row.1)) KINDS) c.args.token.now refl
    (search rules)
