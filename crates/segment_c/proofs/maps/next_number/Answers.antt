-- The pair of a map from `i64` to `i64` is the next one.
use Rattle.segment_c.proofs.maps.next_number.Goals as goal
use Rattle.std.proofs.Common.{◌≡◌, refl, Ok, None, Option, Some, ℤ, option_map, subst, true, w64}
use Rattle.std.proofs.lemmas.Int.{to_z-of_z}
use Rattle.seg_types.specs.{Commands.Integer, Kinds.is_value, Names.ByHandle}
use Rattle.seg_types.specs.declared.kinds.ScalarKind.TheVariants.{I64}
use Rattle.segment_manager.proofs.{ElementLaws.literal-read, Laws.of-bound}
use Rattle.segment_manager.specs.{State.AnswersWith, State.SegmentState, objects.BoundObjects.key_of}
use Rattle.segment_manager.specs.containers.Maps.{answer_of_map, pair_above}
use Rattle.segment_manager.specs.declared.objects.object_ref.Object.{Object}
use Rattle.segment_c.proofs.views.Neighbours.{next-of_kinds}

same-pair : (p : Option (ℤ × ℤ)) → option_map (λ (x : ℤ × ℤ). (let y : ℤ × ℤ = (x.0, x.1) in y)) p ≡ p
same-pair None = refl
same-pair (Some (x, y)) = refl

-- the pair above the number that is passed is the one above the number of the call
above : {s t : SegmentState} {o q : Object} {its_after after : ℤ} (p : Option (ℤ × ℤ)) → its_after ≡ after → q ≡ o
    → t ≡ s → AnswersWith t (λ d. answer_of_map d (key_of q) I64 I64 (pair_above its_after))
    (Ok (option_map (λ (x : ℤ × ℤ). (let y : ℤ × ℤ = (x.0, x.1) in y)) p))
    → AnswersWith s (λ d. answer_of_map d (key_of o) I64 I64 (pair_above after)) (Ok p)
above {t = t} {q = q} {its_after = its_after} {after = after} p e is same a =
    of-bound (λ o s. AnswersWith s (λ d. answer_of_map d (key_of o) I64 I64 (pair_above after)) (Ok p)) is same
    (subst (λ (z : ℤ). AnswersWith t (λ d. answer_of_map d (key_of q) I64 I64 (pair_above z)) (Ok p)) e
    (subst (λ (r : Option (ℤ × ℤ)). AnswersWith t (λ d. answer_of_map d (key_of q) I64 I64 (pair_above its_after))
    (Ok r)) (same-pair p) a))

pub returns-clause-read : goal.returns-clause-read
returns-clause-read c =
    next-of_kinds c.args.segment.now (ByHandle c.args._handle) c.numbers_out.new.at c.numbers_out.new.value
    c.requires.location I64 I64 c.requires.kind (Integer c.args.after) c.args.after (literal-read I64 c.args.after
    (subst (λ (z : ℤ). is_value I64 z ≡ true) (to_z-of_z w64 c.args.after c.ranges.after) c.holds_value.ensures))
    c.next_after-pair.result (above c.next_after-pair.result (to_z-of_z w64 c.args.after c.ranges.after)
    c.at.ensures.object c.at.ensures.segment c.next_after-pair.ensures) c.numbers_out.result c.numbers_out.ensures.read
