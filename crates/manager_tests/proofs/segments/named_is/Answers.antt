use Rattle.std.proofs.lemmas.Bool.{ltb-true}
use Rattle.segment_manager.proofs.Laws.{named-below}
use Rattle.manager_tests.proofs.segments.named_is.Goals as goal

pub named_at-requires : goal.named_at-requires
named_at-requires g c = named-below _ c.num_named.result c.args.i c.num_named.ensures
    (ltb-true c.args.i c.num_named.result c.holds.ensures)
