-- A value is appended.
use Rattle.segment_manager.proofs.{Common.refl, Common.◌∙◌, containers.ScalarTypes.of-vector}
use Rattle.segment_manager.proofs.containers.VectorAnswers.{some-vector, vector-pushed}
use Rattle.segment_manager.proofs.bound.slices.BoundMut+Slice+T+Growable.push.Goals as goal

pub push-requires : goal.push-requires
push-requires g c = some-vector (of-vector g.met.T.Scalar) c.segment.view_is c.args.self.now.live
    (c.at.ensures ∙ c.own_container.ensures) c.segment.invariant

pub invariant_of-segment : goal.invariant_of-segment
invariant_of-segment g c = (vector-pushed (of-vector g.met.T.Scalar) c.segment.view_is c.args.self.now.live
    (c.at.ensures ∙ c.own_container.ensures) c.segment.invariant _ c.args.self.now.writing
    _ _ c.holds_value.ensures c.push.ensures).segment

pub invariant_of-self : goal.invariant_of-self
invariant_of-self g c = (vector-pushed (of-vector g.met.T.Scalar) c.segment.view_is c.args.self.now.live
    (c.at.ensures ∙ c.own_container.ensures) c.segment.invariant _ c.args.self.now.writing
    _ _ c.holds_value.ensures c.push.ensures).kept

pub returns : goal.returns
returns g c =
    let d = vector-pushed (of-vector g.met.T.Scalar) c.segment.view_is c.args.self.now.live (c.at.ensures ∙
    c.own_container.ensures) c.segment.invariant _ c.args.self.now.writing _ _ c.holds_value.ensures c.push.ensures in
    record { unchanged = record { loan = refl; object = refl }; step = d.steps; gaps = d.gaps }
