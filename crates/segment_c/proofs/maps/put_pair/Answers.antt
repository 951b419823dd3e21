-- What is not refused by its kind is done.
use Rattle.segment_c.proofs.maps.put_pair.Goals as goal
use Rattle.std.proofs.Common.{◌≡◌, ℤ, rules, subst, w64}
use Rattle.std.proofs.lemmas.Int.{to_z-of_z}
use Rattle.seg_types.specs.{Commands.Integer, Commands.Put, Keys.key_seen, declared.kinds.Kind.TheVariants.Map}
use Rattle.seg_types.specs.declared.kinds.ScalarKind.TheVariants.{I64}
use Rattle.seg_types.specs.Names.{Key}
use Rattle.segment_manager.specs.{Answers.Answer, Answers.Boolean, Answers.Refused, State.SegmentState}
use Rattle.segment_manager.specs.State.{TakesStep, TakesStepOfKind}
use Rattle.seg_types.specs.declared.refusals.Refusal.TheVariants.{WrongKind}
use Rattle.segment_c.proofs.views.OwnKinds.{put-step}

-- the call passes its own numbers on
put-of_numbers : (old new : SegmentState) (key : Key) (at value its_at its_value : ℤ) (a : Answer)
    → (a ≡ Refused WrongKind → ⊥) → its_at ≡ at → its_value ≡ value
    → TakesStepOfKind old new key (Map I64 I64) (Put key (Integer its_at) (Integer its_value)) a
    → TakesStep old new (Put key (Integer at) (Integer value)) a
put-of_numbers old new key at value its_at its_value a not e f m =
    put-step old new key (Map I64 I64) (Integer at) (Integer value) a not
    (subst (λ (z : ℤ). TakesStepOfKind old new key (Map I64 I64) (Put key (Integer z) (Integer value)) a) e
    (subst (λ (z : ℤ). TakesStepOfKind old new key (Map I64 I64) (Put key (Integer its_at) (Integer z)) a) f m))

pub returns-in-Ok-clause-step : goal.returns-in-Ok-clause-step
returns-in-Ok-clause-step c =
    let it = c.in-I64-I64 in
    let step = put-of_numbers c.args.segment.now c.map_put.new.self (key_seen c.args.key.now) it.number it.new _ _
    (Boolean c.in-Ok.is_new) (λ e. cc) (to_z-of_z w64 it.number (search rules)) (to_z-of_z w64 it.new (search rules))
    c.in-Ok.ensures.step in
    search (step, rules)

pub returns-in_default-refusal-clause-step : goal.returns-in_default-refusal-clause-step
returns-in_default-refusal-clause-step c =
    let it = c.in-I64-I64 in
    let step = put-of_numbers c.args.segment.now c.map_put.new.self (key_seen c.args.key.now) it.number it.new _ _
    (Refused c.in-Err.refusal) (λ e. c.in_default-refusal.not-WrongKind (cc))
    (to_z-of_z w64 it.number (search rules)) (to_z-of_z w64 it.new (search rules)) c.in-Err.ensures.step in
    search (step, rules)
