-- The value is read from the map that is found.
use Rattle.segment_manager.proofs.Common.{exit-is, refl, Lookup, Map, literal_of}
use Rattle.segment_manager.proofs.bound.ByKey.{lacks-replies, replies}
use Rattle.segment_manager.proofs.segment.Segment.map_get.Goals as goal

pub returns-in_err-of : goal.returns-in_err-of
returns-in_err-of g c = rw (exit-is c.from_residual.result _ c.from_residual.ensures.1) (lacks-replies c.args.self.now
    (g.O.ObjectRef.key c.args.key.now) (Map g.K.Scalar.kind g.V.Scalar.kind) _
    (Lookup (g.O.ObjectRef.key c.args.key.now) (literal_of g.K.Scalar.kind (g.K.Scalar.whole c.args.at))) refl
    c.in_err-of.ensures.location)

pub returns : goal.returns
returns g c = replies c.in_ok-of.ensures.segment c.in_ok-of.ensures.location
    (Map g.K.Scalar.kind g.V.Scalar.kind)
    (Lookup (g.O.ObjectRef.key c.args.key.now) (literal_of g.K.Scalar.kind (g.K.Scalar.whole c.args.at))) c.get.ensures
