-- Values are replaced from an index on.
use Rattle.segment_manager.proofs.bound.slices.BoundMut+Slice+T+Growable.overwrite.Goals as goal
use Rattle.segment_manager.proofs.{Common.ap, Common.is_read_only, Common.◌∙◌, containers.ScalarTypes.of-vector}
use Rattle.segment_manager.proofs.bound.ByKey.{overwritten}
use Rattle.segment_manager.proofs.containers.VectorAnswers.{overwrite-gaps, some-vector, vector-overwritten}

pub overwrite-requires : goal.overwrite-requires
overwrite-requires g c = some-vector (of-vector g.met.T.Scalar) c.segment.view_is c.args.self.now.live
    (c.at.ensures ∙ c.own_container.ensures) c.segment.invariant

pub invariant_of-segment : goal.invariant_of-segment
invariant_of-segment g c = (vector-overwritten (of-vector g.met.T.Scalar) c.segment.view_is c.args.self.now.live
    (c.at.ensures ∙ c.own_container.ensures) c.segment.invariant _ c.args.self.now.writing _ _ _
    c.overwrite.ensures.sets).segment

pub invariant_of-self : goal.invariant_of-self
invariant_of-self g c = record {
  live = overwritten c.segment.view_is c.args.self.now.live c.segment.invariant _ _ _ _ (vector-overwritten
      (of-vector g.met.T.Scalar) c.segment.view_is c.args.self.now.live (c.at.ensures
      ∙ c.own_container.ensures) c.segment.invariant _ c.args.self.now.writing _ _ _ c.overwrite.ensures.sets);
  writing = ap (λ u. is_read_only u.mode) c.segment.view_is ∙ c.args.self.now.writing;
}

pub returns-clause-step : goal.returns-clause-step
returns-clause-step g c = (vector-overwritten (of-vector g.met.T.Scalar) c.segment.view_is c.args.self.now.live
    (c.at.ensures ∙ c.own_container.ensures) c.segment.invariant _ c.args.self.now.writing _ _ _
    c.overwrite.ensures.sets).step

pub returns-clause-refused : goal.returns-clause-refused
returns-clause-refused g c = (vector-overwritten (of-vector g.met.T.Scalar) c.segment.view_is c.args.self.now.live
    (c.at.ensures ∙ c.own_container.ensures) c.segment.invariant _ c.args.self.now.writing _ _ _
    c.overwrite.ensures.sets).refused

pub returns-clause-gaps : goal.returns-clause-gaps
returns-clause-gaps g c = overwrite-gaps (of-vector g.met.T.Scalar) c.segment.view_is c.args.self.now.live
    (c.at.ensures ∙ c.own_container.ensures) c.segment.invariant _ _ _ c.overwrite.ensures.sets
