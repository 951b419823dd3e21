use Rattle.std.proofs.Common.{rules, tests}
use Rattle.std.proofs.lemmas.Iterator.{YieldsList-from_slice}
use Rattle.std.proofs.lemmas.Iterator.Search.{find_from_yields_List}
use Rattle.segment_lang.specs.Lexing.{is_token}
use Rattle.seg_types.specs.declared.kinds.Kind.{Kind}
use Rattle.segment_lang.proofs.commands.Forms.{LentRow, found_row}
use Rattle.segment_lang.proofs.kinds.find_kind.Goals as goal

pub returns : goal.returns
returns c =
    let found = find_from_yields_List (λ (row : LentRow Kind). is_token c.args.token.now row.0.now) _ _ c.find.result
    c.find.ensures.ran (YieldsList-from_slice c.args.rows.now c.iter.ensures.rest)
    (λ x b q k. search (rules, tests)) in
    found_row c.args.rows.now c.args.token.now c.find.result c.map.result found (search rules)
