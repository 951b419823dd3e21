-- New elements of vectors, inserted at a position of the vector of a handle.
use Rattle.std.proofs.Common.{◌≡◌, List, ℕ}
use Rattle.seg_types.specs.Commands.{Insert, Literal, Push, Quoted}
use Rattle.seg_types.specs.{declared.kinds.Kind.TheVariants.Strings, declared.kinds.Kind.TheVariants.Vector, Names.Key}
use Rattle.seg_types.specs.{declared.refusals.Refusal.Refusal, declared.values.ScalarValue.ScalarValue, Names.ByHandle}
use Rattle.seg_types.specs.{Values.kind_of_scalar, Written.literal_seen}
use Rattle.segment_manager.specs.{declared.objects.object_ref.Object.Object as Located, Answers.Answer, Answers.Refused}
use Rattle.segment_manager.specs.{containers.Changeable.IsElement, containers.Changeable.IsNoElement, State.TakesStep}
use Rattle.segment_manager.specs.{objects.Located.IsLocated, State.TakesStepOfKind, State.SegmentState}
use Rattle.segment_manager.proofs.CommandLaws.{insert-element, push-element}
use Rattle.segment_manager.proofs.Laws.{located-steps}
use Rattle.segment_values.specs.Changes.{command_at}
use Rattle.segment_values.specs.declared.elements.InsertSpot.{InsertSpot}
use Rattle.segment_values.specs.declared.elements.InsertSpot.TheVariants.{End, Before}

module _ {s : SegmentState} {key : Key} {l : Literal} where
  -- a literal that is no element is refused
  pub add-refused : (spot : InsertSpot) {why : Refusal} → IsNoElement s key l why
      → TakesStep s s (command_at spot key l) (Refused why)
  add-refused End n = n.push
  add-refused (Before i) n = n.insert i

  module _ {o : Located} (located : IsLocated s key o) {new : SegmentState} {answer : Answer} where
    -- an added scalar is the step of the command
    pub scalar-added : (spot : InsertSpot) {v : ScalarValue} → IsElement s key l v
        → TakesStepOfKind s new (ByHandle o.handle) (Vector (kind_of_scalar v))
        (command_at spot (ByHandle o.handle) (literal_seen v)) answer
        → TakesStep s new (command_at spot key l) answer
    scalar-added End e r = push-element located e r
    scalar-added (Before i) e r = insert-element located e i r

    -- an added string is the step of the command
    pub text-added : (spot : InsertSpot) {bs : List ℕ} → o.kind ≡ Strings → l ≡ Quoted bs
        → TakesStepOfKind s new (ByHandle o.handle) Strings (command_at spot (ByHandle o.handle) (Quoted bs)) answer
        → TakesStep s new (command_at spot key l) answer
    text-added End {bs} same is r =
        rw is (located-steps s key o located new Strings (Push key (Quoted bs)) answer same r)
    text-added (Before i) {bs} same is r =
        rw is (located-steps s key o located new Strings (Insert key i (Quoted bs)) answer same r)
