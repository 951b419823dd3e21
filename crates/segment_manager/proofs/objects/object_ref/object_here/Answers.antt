-- The head of the object of the handle is read.
use Rattle.segment_manager.proofs.objects.object_ref.object_here.Goals as goal
use Rattle.segment_manager.proofs.Common.{ByHandle, IsLocated, subst, sym}
use Rattle.segment_manager.proofs.objects.Destroys.{handle-answers}
use Rattle.segment_manager.proofs.objects.Locating.{has-own_object, head-located, locates}

pub read_object-requires : goal.read_object-requires
read_object-requires c = has-own_object c.segment.view_is c.args.handle c.segment.invariant c.requires

pub returns-clause-location : goal.returns-clause-location
returns-clause-location c = subst (λ h. IsLocated c.args.segment.now (ByHandle h) c.read_object.result)
    (sym c.read_object.ensures.handle)
    (locates (head-located c.segment.view_is (ByHandle c.args.handle) (handle-answers c.args.handle c.requires)
    c.read_object.ensures.text))
