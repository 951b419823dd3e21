-- The value is read from the handle's map.
use Rattle.segment_c.proofs.maps.number_at.Goals as goal
use Rattle.std.proofs.Common.{of_z, refl, rules, subst, to_z, true, w64, ℤ, ◌≡◌}
use Rattle.std.proofs.lemmas.Int.{to_z-of_z}
use Rattle.seg_types.specs.{declared.kinds.Kind.TheVariants.Map, declared.values.ScalarValue.TheVariants.I64 as Number}
use Rattle.seg_types.specs.{Commands.Integer, Commands.Lookup, declared.kinds.ScalarKind.TheVariants.I64}
use Rattle.seg_types.specs.Kinds.{is_value}
use Rattle.segment_manager.specs.{containers.Maps.any_or_absent, objects.BoundObjects.key_of, State.AnswersQueryOfKind}
use Rattle.segment_manager.proofs.{CommandLaws.looks-up-key, ElementLaws.literal-read, Laws.of-bound}

-- the call passes its own number on
pub returns : goal.returns
returns c =
    let same = to_z-of_z w64 c.args.at c.ranges.at in
    let value : is_value I64 c.args.at ≡ true = subst (λ (z : ℤ). is_value I64 z ≡ true) same c.holds_value.ensures in
    looks-up-key c.requires.location c.requires.kind (Integer c.args.at) (Number c.args.at)
    (refl, literal-read I64 c.args.at value, value)
    (subst (λ (z : ℤ). AnswersQueryOfKind c.args.segment.now (key_of c.args.object) (Map I64 I64)
    (Lookup (key_of c.args.object) (Integer z)) (any_or_absent c.map.result)) same
    (of-bound (λ o s. AnswersQueryOfKind s (key_of o) (Map I64 I64)
    (Lookup (key_of o) (Integer (to_z w64 (of_z w64 c.args.at)))) (any_or_absent c.map.result))
    c.at.ensures.object c.at.ensures.segment (search rules)))
