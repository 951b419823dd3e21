-- An empty map is made, and then its pairs are put.
use Rattle.segment_salvage.proofs.Steps.{construct-stands, then_salvages}
use Rattle.segment_salvage.proofs.map_rebuilding.rebuild_map.Goals as goal

pub returns-in_err-handle-clause-effect : goal.returns-in_err-handle-clause-effect
returns-in_err-handle-clause-effect c =
    construct-stands c.args.image.now _ _ c.args._at c.args.head.value _ _ _ c.construct_map_of.ensures.step
    c.requires.head tt

pub returns-clause-effect : goal.returns-clause-effect
returns-clause-effect c =
    then_salvages _ _ _ _
    (construct-stands c.args.image.now _ _ c.args._at c.args.head.value _ _ _ c.construct_map_of.ensures.step
    c.requires.head tt) c.put_or_destroy.ensures
