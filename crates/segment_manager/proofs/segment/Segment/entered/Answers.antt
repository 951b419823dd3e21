-- The object at the entry is read.
use Rattle.segment_manager.proofs.segment.Segment.entered.Goals as goal
use Rattle.segment_manager.proofs.Common.{SaysAt, SegmentState, current, objects_of, subst}
use Rattle.segment_manager.proofs.directory.AnyDirectory.{denotes-heap}
use Rattle.segment_manager.proofs.objects.Destroys.{below-count, entered-object, entered-says, segment-index}

pub at-handle-requires-clause-index : goal.at-handle-requires-clause-index
at-handle-requires-clause-index c = segment-index c.args.index c.self.invariant

pub at-handle-requires-clause-in_range : goal.at-handle-requires-clause-in_range
at-handle-requires-clause-in_range c = below-count c.self.view_is c.args.index c.self.invariant c.requires

pub read_instance-requires-clause-heap : goal.read_instance-requires-clause-heap
read_instance-requires-clause-heap c =
    denotes-heap current c.self.inside.heap.bytes c.self.invariant.0 c.self.invariant.1.denotes

pub read_instance-requires-clause-object : goal.read_instance-requires-clause-object
read_instance-requires-clause-object c =
    let s : SegmentState = record { cut = c.self.inside.heap; mode = c.self.inside.mode } in
    entered-object s c.args.index c.args.i c.at-handle.result c.self.invariant c.at-handle.ensures

pub returns : goal.returns
returns c =
    let s : SegmentState = record { cut = c.self.inside.heap; mode = c.self.inside.mode } in
    subst (λ t. SaysAt t (objects_of c.args.index) c.args.i c.read_instance.result) c.self.view_is
    (entered-says c.args.index c.at-handle.ensures c.read_instance.ensures)
