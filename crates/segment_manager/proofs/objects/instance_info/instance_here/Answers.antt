-- The object of the handle is read.
use Rattle.segment_manager.proofs.objects.instance_info.instance_here.Goals as goal
use Rattle.segment_manager.proofs.Common.{AnswersWith, ByHandle, SaysOf, current, is_object_at, subst, sym, true}
use Rattle.segment_manager.proofs.objects.{Destroys.key-says, Locating.has-own_object}
use Rattle.segment_manager.proofs.{directory.AnyDirectory.denotes-heap, objects.Destroys.handle-answers}

pub read_instance-requires-clause-heap : goal.read_instance-requires-clause-heap
read_instance-requires-clause-heap c =
    denotes-heap current c.segment.inside.heap.bytes c.segment.invariant.0 c.segment.invariant.1.denotes

pub read_instance-requires-clause-object : goal.read_instance-requires-clause-object
read_instance-requires-clause-object c = has-own_object c.segment.view_is c.args.handle c.segment.invariant c.requires

pub returns : goal.returns
returns c = subst (λ t. SaysOf t (ByHandle c.args.handle) c.read_instance.result) c.segment.view_is
    (key-says (handle-answers c.args.handle (subst (λ t. AnswersWith t (λ d. is_object_at d c.args.handle) true)
    (sym c.segment.view_is) c.requires)) c.read_instance.ensures)
