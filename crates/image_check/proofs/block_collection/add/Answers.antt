use Rattle.image_check.proofs.Common.{ap, arith, length, option_to_list, sym, ◌++◌, ◌∙◌}
use Rattle.image_check.proofs.block_collection.Lookup.{entry-is}
use Rattle.image_check.proofs.block_collection.add.Goals as goal

pub add-requires-clause-room : goal.add-requires-clause-room
add-requires-clause-room c =
    let one = ap (λ o. length (option_to_list o)) (entry-is c.args.tile c.in-Some.role c.in-Some.is) in
    let room = c.requires.room in
    omega arith

pub returns-in-Some-clause-entries : goal.returns-in-Some-clause-entries
returns-in-Some-clause-entries c =
    c.add.ensures.entries ∙ ap (λ o.
    c.args.blocks.now.entries ++ option_to_list o) (sym (entry-is c.args.tile c.in-Some.role c.in-Some.is))

pub returns-in-Some-clause-room : goal.returns-in-Some-clause-room
returns-in-Some-clause-room c =
    let one = ap (λ o. length (option_to_list o)) (entry-is c.args.tile c.in-Some.role c.in-Some.is) in
    let room = c.add.ensures.room in
    omega arith
