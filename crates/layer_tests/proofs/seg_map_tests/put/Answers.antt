-- The map stands with the pair, or as it was.
use Rattle.layer_tests.proofs.calls.Maps.{after_put}
use Rattle.layer_tests.proofs.seg_map_tests.put.Goals as goal

pub returns : goal.returns
returns g c =
    after_put g.K.Plain g.V.Plain c.args.heap.now c.put.new.heap c.args.map.place.handle c.args.map.place.at
    c.args.key c.args.value c.put.result c.requires c.put.ensures.effect
