-- Values are appended.
use Rattle.segment_manager.proofs.bound.slices.BoundMut+Slice+T+Growable.extend.Goals as goal
use Rattle.segment_manager.proofs.{Common.ap, Common.is_read_only, Common.map, Common.◌∙◌, bound.ByKey.lengthened}
use Rattle.segment_manager.proofs.containers.ScalarTypes.{of-vector}
use Rattle.segment_manager.proofs.containers.VectorAnswers.{extend-error, extend-gaps, some-vector, vector-extended}

pub extend-requires : goal.extend-requires
extend-requires g c = some-vector (of-vector g.met.T.Scalar) c.segment.view_is c.args.self.now.live
    (c.at.ensures ∙ c.own_container.ensures) c.segment.invariant

pub invariant_of-segment : goal.invariant_of-segment
invariant_of-segment g c = (vector-extended (of-vector g.met.T.Scalar) c.segment.view_is c.args.self.now.live
    (c.at.ensures ∙ c.own_container.ensures) c.segment.invariant _ c.args.self.now.writing _ _
    c.extend.ensures).segment

pub invariant_of-self : goal.invariant_of-self
invariant_of-self g c = record {
  live = lengthened c.segment.view_is c.args.self.now.live c.segment.invariant (map g.T.Scalar.whole c.args.values.now)
      c.extend.result (vector-extended (of-vector g.met.T.Scalar) c.segment.view_is c.args.self.now.live
      (c.at.ensures ∙ c.own_container.ensures) c.segment.invariant _ c.args.self.now.writing _ _
      c.extend.ensures);
  writing = ap (λ u. is_read_only u.mode) c.segment.view_is ∙ c.args.self.now.writing;
}

pub returns-clause-step : goal.returns-clause-step
returns-clause-step g c = (vector-extended (of-vector g.met.T.Scalar) c.segment.view_is c.args.self.now.live
    (c.at.ensures ∙ c.own_container.ensures) c.segment.invariant _ c.args.self.now.writing _ _
    c.extend.ensures).step

pub returns-clause-refused : goal.returns-clause-refused
returns-clause-refused g c = (vector-extended (of-vector g.met.T.Scalar) c.segment.view_is c.args.self.now.live
    (c.at.ensures ∙ c.own_container.ensures) c.segment.invariant _ c.args.self.now.writing _ _
    c.extend.ensures).refused

pub returns-clause-error : goal.returns-clause-error
returns-clause-error g c = extend-error (of-vector g.met.T.Scalar) c.segment.view_is c.args.self.now.live
    (c.at.ensures ∙ c.own_container.ensures) c.segment.invariant _ c.args.self.now.writing _ _ c.extend.ensures

pub returns-clause-gaps : goal.returns-clause-gaps
returns-clause-gaps g c = extend-gaps (of-vector g.met.T.Scalar) c.segment.view_is c.args.self.now.live
    (c.at.ensures ∙ c.own_container.ensures) c.segment.invariant _ _ c.extend.ensures
