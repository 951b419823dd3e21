-- The pair is put into the map.
use Rattle.segment_manager.proofs.Common.{◌≡◌, refl, ◌∙◌, Bool, Ok, Err, Result, NoSpace}
use Rattle.segment_manager.proofs.containers.{MapAnswers.put-there, MapAnswers.some-there, MapCalls.put_result}
use Rattle.segment_manager.proofs.containers.ScalarTypes.{of-map}
use Rattle.segment_manager.proofs.bound.maps.BoundMut+Pairs+K+V.insert.Goals as goal
use Rattle.std.specs.Result.{result_or}

or-put : {E : Type 0} (r : Result Bool E) → result_or r (Err NoSpace) ≡ put_result r
or-put (Ok new) = refl
or-put (Err why) = refl

pub put-requires : goal.put-requires
put-requires g c = some-there (of-map g.met.K.Scalar) (of-map g.met.V.Scalar) c.segment.view_is
    c.args.self.now.live (c.at-map.ensures ∙ c.own_container.ensures) c.segment.invariant

pub invariant_of-segment : goal.invariant_of-segment
invariant_of-segment g c = (put-there (of-map g.met.K.Scalar) (of-map g.met.V.Scalar) c.segment.view_is
    c.args.self.now.live (c.at-map.ensures ∙ c.own_container.ensures) c.segment.invariant _
    c.args.self.now.writing _ _ c.put.result _ refl c.holds_value.ensures
    c.holds_value-2.ensures c.put.ensures.effect).segment

pub invariant_of-self : goal.invariant_of-self
invariant_of-self g c = (put-there (of-map g.met.K.Scalar) (of-map g.met.V.Scalar) c.segment.view_is
    c.args.self.now.live (c.at-map.ensures ∙ c.own_container.ensures) c.segment.invariant _
    c.args.self.now.writing _ _ c.put.result _ refl c.holds_value.ensures
    c.holds_value-2.ensures c.put.ensures.effect).kept

pub returns-clause-step : goal.returns-clause-step
returns-clause-step g c = (put-there (of-map g.met.K.Scalar) (of-map g.met.V.Scalar) c.segment.view_is
    c.args.self.now.live (c.at-map.ensures ∙ c.own_container.ensures) c.segment.invariant _
    c.args.self.now.writing _ _ c.put.result c.or.result (c.or.ensures ∙ or-put c.put.result) c.holds_value.ensures
    c.holds_value-2.ensures c.put.ensures.effect).steps.step

pub returns-clause-refused : goal.returns-clause-refused
returns-clause-refused g c = (put-there (of-map g.met.K.Scalar) (of-map g.met.V.Scalar) c.segment.view_is
    c.args.self.now.live (c.at-map.ensures ∙ c.own_container.ensures) c.segment.invariant _
    c.args.self.now.writing _ _ c.put.result c.or.result (c.or.ensures ∙ or-put c.put.result) c.holds_value.ensures
    c.holds_value-2.ensures c.put.ensures.effect).steps.refused

pub returns-clause-overwrite : goal.returns-clause-overwrite
returns-clause-overwrite g c = (put-there (of-map g.met.K.Scalar) (of-map g.met.V.Scalar) c.segment.view_is
    c.args.self.now.live (c.at-map.ensures ∙ c.own_container.ensures) c.segment.invariant _
    c.args.self.now.writing _ _ c.put.result _ refl c.holds_value.ensures
    c.holds_value-2.ensures c.put.ensures.effect).gaps
