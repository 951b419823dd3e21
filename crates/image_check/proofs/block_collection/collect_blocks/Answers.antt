use Rattle.image_check.proofs.Common.{arith, ◌∙◌}
use Rattle.image_check.specs.Passes.{tiles_in}
use Rattle.image_check.proofs.block_collection.Lookup.{gathering-weigh}
use Rattle.image_check.proofs.block_collection.Owners.{entries-count}
use Rattle.image_check.proofs.block_collection.collect_blocks.Goals as goal

pub returns-in-Ok-clause-visits : goal.returns-in-Ok-clause-visits
returns-in-Ok-clause-visits c =
    let most = gathering-weigh c.args.window.now.bytes c.requires.tiles in
    let y = c.add_all.ensures.visits.0 in
    let z = c.add_all.ensures.visits.1 in
    (omega arith, omega arith)

pub returns-in-Err-clause-refused : goal.returns-in-Err-clause-refused
returns-in-Err-clause-refused c =
    c.in-Err.ensures.refused ∙ c.requires.steps_lower.used ∙ entries-count (tiles_in c.args.window.now.bytes)
