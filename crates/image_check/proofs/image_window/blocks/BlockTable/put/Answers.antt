use Rattle.image_check.proofs.Common.{Block, BlockMap, IsRow, ap, nat_eq, set_value, subst, sym, ◌∙◌}
use Rattle.indexmap.specs.IndexMap.{set_value_at}
use Rattle.image_check.proofs.block_collection.ByNumber.{order-put, put-row}
use Rattle.image_check.proofs.image_window.blocks.BlockTable.put.Goals as goal

pub invariant_of-self : goal.invariant_of-self
invariant_of-self c = order-put c.self.inside.map.entries c.args.number c.new.result c.self.invariant

pub returns-clause-value : goal.returns-clause-value
returns-clause-value c =
    let row = subst (λ (v : BlockMap). IsRow v.entries c.args.target c.args.number) (sym c.self.view_is) c.requires in
    ap (λ (b : Block). set_value_at c.self.inside.map.entries c.args.number b) c.new.ensures
    ∙ put-row c.self.inside.map.entries c.args.target c.args.number c.args.block c.self.invariant.rises row
    ∙ ap (λ (v : BlockMap). set_value (nat_eq c.args.target) v.entries c.args.block) c.self.view_is
