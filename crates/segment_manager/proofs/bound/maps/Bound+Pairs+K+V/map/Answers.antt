-- There is a map where the head of the object says.
use Rattle.segment_manager.proofs.{Common.◌∙◌, containers.MapAnswers.some-there, containers.ScalarTypes.of-map}
use Rattle.segment_manager.proofs.bound.maps.Bound+Pairs+K+V.map.Goals as goal

pub returns-clause-map : goal.returns-clause-map
returns-clause-map g c = some-there (of-map g.met.K.Scalar) (of-map g.met.V.Scalar) c.segment.view_is
    c.args.self.now.live (c.at.ensures ∙ c.own_container.ensures) c.segment.invariant
