-- The words of the located container are read.
use Rattle.segment_manager.proofs.containers.storage.measure_container.Goals as goal
use Rattle.segment_manager.proofs.{Common.ap, Common.arith, Common.bytes_of, Common.sym, bound.ByKey.container-there}
use Rattle.segment_manager.proofs.containers.ElementRuns.{measured, places-otherwise, places_in, word-room}
use Rattle.segment_manager.specs.objects.BoundObjects.{key_of}

pub word-len-requires : goal.word-len-requires
word-len-requires c = word-room c.segment.view_is (key_of c.args.object) c.args.object.kind _
    (container-there c.requires.object c.own_container-place.ensures) c.requires.container c.segment.invariant 8
    (omega arith)

pub word-requires : goal.word-requires
word-requires c = word-room c.segment.view_is (key_of c.args.object) c.args.object.kind _
    (container-there c.requires.object c.own_container-place.ensures) c.requires.container c.segment.invariant 16
    (omega arith)

pub returns-in-Map : goal.returns-in-Map
returns-in-Map c = measured c.segment.view_is (key_of c.args.object) c.args.object.kind _
    (container-there c.requires.object c.own_container-place.ensures) c.requires.container _ _ c.word-len.ensures
    (sym (ap (places_in (bytes_of c.segment.inside.heap.bytes) _) c.in-Map.is))

pub returns-in_default : goal.returns-in_default
returns-in_default c = measured c.segment.view_is (key_of c.args.object) c.args.object.kind _
    (container-there c.requires.object c.own_container-place.ensures) c.requires.container _ _ c.word-len.ensures
    (places-otherwise _ c.own_container-place.result _ c.in_default.not-Map _ c.word.ensures)
