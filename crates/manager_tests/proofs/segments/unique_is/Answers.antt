use Rattle.std.proofs.lemmas.Bool.{ltb-true}
use Rattle.segment_manager.proofs.Laws.{unique-below}
use Rattle.manager_tests.proofs.segments.unique_is.Goals as goal

pub unique_at-requires : goal.unique_at-requires
unique_at-requires g c = unique-below _ c.num_unique.result c.args.i c.num_unique.ensures
    (ltb-true c.args.i c.num_unique.result c.holds.ensures)
