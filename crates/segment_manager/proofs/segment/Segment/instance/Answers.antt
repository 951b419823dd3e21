-- The object of the key is read.
use Rattle.segment_manager.proofs.segment.Segment.instance.Goals as goal
use Rattle.segment_manager.proofs.{Common.SaysOf, Common.current, Common.subst, directory.AnyDirectory.denotes-heap}
use Rattle.segment_manager.proofs.objects.Destroys.{key-says, seen-handle, seen-object}

pub read_instance-requires-clause-heap : goal.read_instance-requires-clause-heap
read_instance-requires-clause-heap g c =
    denotes-heap current c.self.inside.heap.bytes c.self.invariant.0 c.self.invariant.1.denotes

pub read_instance-requires-clause-object : goal.read_instance-requires-clause-object
read_instance-requires-clause-object g c =
    seen-object _ _ c.self.view_is (g.O.ObjectRef.key c.args.key.now) _ c.self.invariant
    c.in-Some.ensures

pub returns-in-Some : goal.returns-in-Some
returns-in-Some g c =
    subst (λ t. SaysOf t (g.O.ObjectRef.key c.args.key.now) c.read_instance.result) c.self.view_is (key-says
    (seen-handle _ _ c.self.view_is (g.O.ObjectRef.key c.args.key.now) _
    c.in-Some.ensures) c.read_instance.ensures)
