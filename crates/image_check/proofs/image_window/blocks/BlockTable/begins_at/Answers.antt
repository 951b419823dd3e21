use Rattle.image_check.proofs.Common.{BlockMap, IsRow, subst}
use Rattle.image_check.proofs.block_collection.ByNumber.{row-here}
use Rattle.image_check.proofs.image_window.blocks.BlockTable.begins_at.Goals as goal

pub returns-in-Some : goal.returns-in-Some
returns-in-Some c h =
    subst (λ (v : BlockMap). IsRow v.entries c.args.target c.args.nth) c.self.view_is
    (row-here c.self.inside.map.entries c.args.nth c.args.target _ _ c.get_index.ensures.entry c.in-Some.is h)
