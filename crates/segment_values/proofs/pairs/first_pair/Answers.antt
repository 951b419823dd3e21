-- The first pair is the one from the least map key on.
use Rattle.std.specs.Prelude.{option_map}
use Rattle.segment_manager.specs.containers.Walks.{item_seen}
use Rattle.segment_values.proofs.pairs.Walk.{first-of-kinds}
use Rattle.segment_values.proofs.pairs.first_pair.Goals as goal

pub returns : goal.returns
returns c = first-of-kinds c.requires c.least.result c.least.ensures.kind c.least.ensures.value
    (option_map item_seen c.pair_past.result) c.pair_past.ensures.pair
