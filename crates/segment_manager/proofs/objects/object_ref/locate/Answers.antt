-- What is found by the key is found by its handle.
use Rattle.segment_manager.proofs.objects.object_ref.locate.Goals as goal
use Rattle.segment_manager.proofs.objects.{Destroys.seen-object, Locating.head-located, Locating.locates}

pub read_object-requires : goal.read_object-requires
read_object-requires g c =
    seen-object _ _ c.segment.view_is (g.O.ObjectRef.key c.args.key.now) _ c.segment.invariant c.in-Some.ensures

pub returns-in-Some : goal.returns-in-Some
returns-in-Some g c = locates (head-located c.segment.view_is (g.O.ObjectRef.key c.args.key.now) c.in-Some.ensures
    c.read_object.ensures.text)
