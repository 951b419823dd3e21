-- Calls that change bound objects.
use Rattle.std.specs.Prelude.{◌≡◌, IfErr, OnErr, Result}
use Rattle.seg_types.specs.{Commands.Command, Names.Key, declared.kinds.Kind.Kind, declared.refusals.Refusal.Refusal}
use Rattle.segment_manager.specs.{declared.objects.object_ref.Object.Object as Located, Answers.Answer}
use Rattle.segment_manager.specs.{objects.BoundObjects.key_of, State.TakesStepOfKind, State.SegmentState}

-- A call on a bound object of a kind takes this step. It fails for these reasons alone, and then it changes nothing.
pub record StepsBound {R : Type 0} (o : Located) (kind : Kind) (old new : SegmentState) (c : Key → Command)
    (says : Result R Refusal → Answer) (reasons : Refusal → Type 0) (result : Result R Refusal) : Type 0 where
  pub step : TakesStepOfKind old new (key_of o) kind (c (key_of o)) (says result)
  pub refused : OnErr result (new ≡ old)
  pub error : IfErr result reasons
