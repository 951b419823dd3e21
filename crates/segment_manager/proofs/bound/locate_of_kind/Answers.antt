-- The object that is found has the kind or not.
use Rattle.segment_manager.proofs.bound.locate_of_kind.Goals as goal
use Rattle.segment_manager.proofs.{bound.ByKey.of-found, objects.Destroys.seen-object}

pub read_of_kind-requires : goal.read_of_kind-requires
read_of_kind-requires g c =
    seen-object _ _ c.segment.view_is (g.O.ObjectRef.key c.args.key.now) _ c.segment.invariant c.in-Some.ensures

pub returns-in-Some-clause-location : goal.returns-in-Some-clause-location
returns-in-Some-clause-location g c = of-found c.segment.view_is (g.O.ObjectRef.key c.args.key.now) c.args.kind
    c.read_of_kind.result c.segment.invariant c.in-Some.ensures c.read_of_kind.ensures.object
