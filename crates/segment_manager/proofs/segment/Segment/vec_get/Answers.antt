-- The element is read from the vector that is found.
use Rattle.segment_manager.proofs.segment.Segment.vec_get.Goals as goal
use Rattle.segment_manager.proofs.{bound.ByKey.lacks-replies, bound.ByKey.replies-element, objects.Stored.vector-gets}
use Rattle.segment_manager.proofs.Common.{Get, Vector, exit-is, refl}

pub returns-in_err-of : goal.returns-in_err-of
returns-in_err-of g c = rw (exit-is c.from_residual.result _ c.from_residual.ensures.1) (lacks-replies c.args.self.now
    (g.O.ObjectRef.key c.args.key.now) (Vector g.T.Scalar.kind) _ (Get (g.O.ObjectRef.key c.args.key.now) c.args.index)
    refl c.in_err-of.ensures.location)

pub returns : goal.returns
returns g c = replies-element c.in_ok-of.ensures.segment c.in_ok-of.ensures.location c.in_ok-of.field-0.live.of_kind
    g.T.Scalar.kind g.T.Scalar.whole c.args.index c.get.result
    (λ d v. vector-gets d g.T.Scalar.kind c.args.index v) c.get.ensures
