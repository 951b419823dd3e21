use Rattle.image_check.proofs.Common.{Block, BlockMap, Some, ap, block_at, sym, ◌∙◌}
use Rattle.std.specs.Option.{option_map}
use Rattle.std.specs.Map.Iter.{deref_pair}
use Rattle.image_check.proofs.block_collection.ByNumber.{entry-found}
use Rattle.image_check.proofs.image_window.blocks.BlockTable.entry.Goals as goal

pub returns-clause-block : goal.returns-clause-block
returns-clause-block c =
    let es = c.self.inside.map.entries in
    let here = sym c.get_index.ensures.entry ∙ ap (option_map deref_pair) c.unwrap.ensures in
    ap (λ (v : BlockMap). block_at v.entries c.unwrap.result.0.now) (sym c.self.view_is)
    ∙ entry-found es c.args.nth (c.unwrap.result.0.now, c.unwrap.result.1.now) c.self.invariant.rises here
    ∙ ap (λ (b : Block). Some b) (sym c.block.ensures)
