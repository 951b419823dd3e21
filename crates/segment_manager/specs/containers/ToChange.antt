-- The result of looking up a container for a change.
use Rattle.std.specs.Prelude.{◌≡◌, false, true, Ok}
use Rattle.seg_types.specs.{declared.kinds.Kind.Kind, Names.Key, Commands.Command, Commands.is_changing}
use Rattle.seg_types.specs.declared.refusals.Refusal.{Refusal}
use Rattle.best_fit.specs.declared.places.Place.{Place}
use Rattle.segment_manager.specs.{Answers.Refused, containers.Contents.container_at, Step.is_read_only}
use Rattle.segment_manager.specs.State.{AnswersWith, TakesStepOfKind, SegmentState}

-- the segment is open for writing, and the container of the key's object is at this place
pub record IsChangeableContainer (s : SegmentState) (key : Key) (kind : Kind) (p : Place) : Type 0 where
  pub writing : is_read_only s.mode ≡ false
  pub at : AnswersWith s (λ d. container_at d key kind) (Ok p)

-- each command that would change the container fails with this error
pub record IsNotToChange (s : SegmentState) (key : Key) (kind : Kind) (why : Refusal) : Type 0 where
  pub refused : (c : Command) → is_changing c ≡ true → TakesStepOfKind s s key kind c (Refused why)
