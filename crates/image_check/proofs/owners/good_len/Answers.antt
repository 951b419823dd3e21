use Rattle.image_check.proofs.Common.{ap, good_for, sym, ◌∙◌}
use Rattle.image_check.proofs.block_collection.UsedTile.{same_role-is}
use Rattle.image_check.proofs.block_collection.GoodLinks.{differ, len_of, none-there, one-tile, other-there}
use Rattle.image_check.proofs.owners.good_len.Goals as goal

pub returns-in-Some-clause-value : goal.returns-in-Some-clause-value
returns-in-Some-clause-value c ts a =
    one-tile ts c.args.blocks.now.entries a c.in_ok-target.target c.args.role c.in-Some.block
    (sym c.block_of.ensures.value ∙ c.in-Some.is)
    (same_role-is c.in-Some.block.role c.args.role (sym c.is_same.ensures ∙ c.if-is_same.true))
    ∙ ap (λ l. len_of (good_for ts c.args.role l)) (sym c.in_ok-target.was)

pub returns-in_default-clause-value : goal.returns-in_default-clause-value
returns-in_default-clause-value c ts a =
    other-there ts c.args.blocks.now.entries a c.in_ok-target.target c.args.role c.in-Some.block
    (sym c.block_of.ensures.value ∙ c.in-Some.is) (differ c.in-Some.block.role c.args.role (sym c.is_same.ensures
    ∙ c.if-is_same.false))
    ∙ ap (λ l. len_of (good_for ts c.args.role l)) (sym c.in_ok-target.was)

pub returns-in_default-2-clause-value : goal.returns-in_default-2-clause-value
returns-in_default-2-clause-value c ts a =
    none-there ts c.args.blocks.now.entries a c.in_ok-target.target c.args.role (sym c.block_of.ensures.value
    ∙ c.in_default.is)
    ∙ ap (λ l. len_of (good_for ts c.args.role l)) (sym c.in_ok-target.was)
