-- The object of the handle has the kind or not.
use Rattle.segment_manager.proofs.bound.object_of_kind.Goals as goal
use Rattle.segment_manager.proofs.objects.Locating.{has-own_object}
use Rattle.segment_manager.proofs.{Common.ByHandle, bound.ByKey.of-found, objects.Destroys.handle-answers}

pub read_of_kind-requires : goal.read_of_kind-requires
read_of_kind-requires c = has-own_object c.segment.view_is c.args.handle c.segment.invariant c.requires

pub returns-clause-location : goal.returns-clause-location
returns-clause-location c = of-found c.segment.view_is (ByHandle c.args.handle) c.args.kind c.read_of_kind.result
    c.segment.invariant (handle-answers c.args.handle c.requires) c.read_of_kind.ensures.object
