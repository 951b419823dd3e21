-- The key is erased from the map.
use Rattle.segment_manager.proofs.{Common.◌∙◌, containers.ScalarTypes.of-map}
use Rattle.segment_manager.proofs.containers.MapAnswers.{erased-there, some-there}
use Rattle.segment_manager.proofs.bound.maps.BoundMut+Pairs+K+V.erase.Goals as goal

pub erase-requires : goal.erase-requires
erase-requires g c = some-there (of-map g.met.K.Scalar) (of-map g.met.V.Scalar) c.segment.view_is
    c.args.self.now.live (c.at-map.ensures ∙ c.own_container.ensures) c.segment.invariant

pub invariant_of-segment : goal.invariant_of-segment
invariant_of-segment g c = (erased-there (of-map g.met.K.Scalar) (of-map g.met.V.Scalar) c.segment.view_is
    c.args.self.now.live (c.at-map.ensures ∙ c.own_container.ensures) c.segment.invariant _
    c.args.self.now.writing _ _ c.holds_value.ensures c.erase.ensures.changes).segment

pub invariant_of-self : goal.invariant_of-self
invariant_of-self g c = (erased-there (of-map g.met.K.Scalar) (of-map g.met.V.Scalar) c.segment.view_is
    c.args.self.now.live (c.at-map.ensures ∙ c.own_container.ensures) c.segment.invariant _
    c.args.self.now.writing _ _ c.holds_value.ensures c.erase.ensures.changes).kept

pub returns-clause-step : goal.returns-clause-step
returns-clause-step g c = (erased-there (of-map g.met.K.Scalar) (of-map g.met.V.Scalar) c.segment.view_is
    c.args.self.now.live (c.at-map.ensures ∙ c.own_container.ensures) c.segment.invariant _
    c.args.self.now.writing _ _ c.holds_value.ensures c.erase.ensures.changes).steps.step

pub returns-clause-absent : goal.returns-clause-absent
returns-clause-absent g c = (erased-there (of-map g.met.K.Scalar) (of-map g.met.V.Scalar) c.segment.view_is
    c.args.self.now.live (c.at-map.ensures ∙ c.own_container.ensures) c.segment.invariant _
    c.args.self.now.writing _ _ c.holds_value.ensures c.erase.ensures.changes).gaps
