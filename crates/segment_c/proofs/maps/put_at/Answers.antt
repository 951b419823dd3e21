-- The pair is put into the handle's map.
use Rattle.segment_c.proofs.maps.put_at.Goals as goal
use Rattle.std.proofs.Common.{of_z, rules, subst, to_z, w64, ℤ, ◌≡◌}
use Rattle.std.proofs.lemmas.Int.{to_z-of_z}
use Rattle.seg_types.specs.{declared.kinds.Kind.TheVariants.Map, declared.kinds.ScalarKind.TheVariants.I64}
use Rattle.seg_types.specs.{Commands.Integer, Commands.Put, Names.ByHandle}
use Rattle.segment_manager.specs.{objects.BoundObjects.key_of, State.TakesStepOfKind, State.truth_answer}
use Rattle.segment_manager.proofs.Laws.{located-steps, of-change}

-- the call passes its own numbers on
pub returns-clause-step : goal.returns-clause-step
returns-clause-step c =
    let e : c.insert.new.self.segment.now ≡ c.segment-1.given.0 = search rules in
    let step = λ (y z : ℤ). TakesStepOfKind c.args.segment.now c.segment-1.given.0 (key_of c.args.object)
    (Map I64 I64) (Put (key_of c.args.object) (Integer y) (Integer z)) (truth_answer c.insert.result) in
    located-steps _ _ _ c.requires.location _ _
    (Put (ByHandle c.args._handle) (Integer c.args.at) (Integer c.args.value)) _ c.requires.kind
    (subst (λ (y : ℤ). step y c.args.value) (to_z-of_z w64 c.args.at c.ranges.at)
    (subst (step (to_z w64 (of_z w64 c.args.at))) (to_z-of_z w64 c.args.value c.ranges.value)
    (of-change (λ o s t. TakesStepOfKind s t (key_of o) (Map I64 I64)
    (Put (key_of o) (Integer (to_z w64 (of_z w64 c.args.at))) (Integer (to_z w64 (of_z w64 c.args.value))))
    (truth_answer c.insert.result)) c.at.ensures.object c.at.ensures.segment e c.insert.ensures.step)))
