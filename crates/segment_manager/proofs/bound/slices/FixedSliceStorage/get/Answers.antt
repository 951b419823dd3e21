-- The bytes at the place are read.
use Rattle.segment_manager.proofs.bound.slices.FixedSliceStorage.get.Goals as goal
use Rattle.segment_manager.proofs.{Common.current, Common.exit-is, Common.◌∙◌, directory.AnyDirectory.denotes-heap}
use Rattle.segment_manager.proofs.bound.ByKey.{array-past}
use Rattle.segment_manager.proofs.objects.Stored.{found-there, number-read, place-room, places-bound}
use Rattle.segment_manager.specs.objects.BoundObjects.{key_of}

pub element-requires-2-clause-heap : goal.element-requires-2-clause-heap
element-requires-2-clause-heap g c =
    denotes-heap current c.segment.inside.heap.bytes c.segment.invariant.0 c.segment.invariant.1.denotes

pub element-requires-2-clause-room : goal.element-requires-2-clause-room
element-requires-2-clause-room g c = place-room (key_of c.args.object) g.T.Scalar.kind c.args.index c.segment.view_is
    (c.SIZE.ensures ∙ g.met.T.Scalar.size) (places-bound c.requires c.args.index c.kind.ensures c.in_ok-place.ensures)
    c.segment.invariant

pub returns-in_err-place : goal.returns-in_err-place
returns-in_err-place g c = rw (exit-is c.from_residual.result _ c.from_residual.ensures.1)
    (array-past c.requires c.args.index c.kind.result c.in_err-place.ensures)

pub returns : goal.returns
returns g c = found-there (key_of c.args.object) g.T.Scalar.kind c.args.index c.segment.view_is (c.SIZE.ensures
    ∙ g.met.T.Scalar.size)
    (places-bound c.requires c.args.index c.kind.ensures c.in_ok-place.ensures) c.element-2.ensures.bytes
    (λ z v e. number-read g.T.Scalar.kind z g.T.Scalar.whole c.scalar_is_number.result c.ok_or.ensures.value v e
    c.scalar_is_number.ensures)
