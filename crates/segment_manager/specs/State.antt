-- A segment in contracts: its bytes, which denote one directory, its mode, and its place.
use Rattle.std.specs.Prelude.{◌≡◌, ℕ, Bool, true, List, Option, Some, None, Result, Ok, Err, IfErr}
use Rattle.raw_region.specs.{Memory.WindowState, Memory.SameSurroundings, Format.current}
use Rattle.seg_types.specs.{Names.Key, Commands.Command, declared.kinds.Kind.Kind, declared.refusals.Refusal.Refusal}
use Rattle.seg_types.specs.{Values.kind_of_scalar, Values.value_of_scalar, declared.values.ScalarValue.ScalarValue}
use Rattle.segment_manager.specs.declared.modes.Mode.{Mode}
use Rattle.segment_manager.specs.{Directory.Directory, Step.step, Step.step_of_kind, Denotes.Denotes}
use Rattle.segment_manager.specs.Answers.{Answer, Made, Boolean, Element, Refused, Done, is_untouched, refusal_of}

-- a window and a mode
pub record SegmentState : Type 0 where
  pub cut : WindowState
  pub mode : Mode

-- the bytes denote the directory, in the current format
pub record DenotesCurrent (b : List ℕ) (d : Directory) : Type 0 where
  pub denotes : Denotes current b d

-- the bytes denote a directory of the current format
abbrev pub IsSegment : List ℕ → Type 0
IsSegment b = (d : Directory) × DenotesCurrent b d

-- the segment keeps its mode and its place; its bytes can change
pub record KeepsModeAndPlace (old new : SegmentState) : Type 0 where
  pub mode : new.mode ≡ old.mode
  pub place : SameSurroundings old.cut new.cut

-- a call that changes nothing, and returns this function of the directory
pub record AnswersWith {A : Type 0} (s : SegmentState) (say : Directory → A) (result : A) : Type 0 where
  pub answers : (d : Directory) → DenotesCurrent s.cut.bytes d → result ≡ say d

-- For each directory that the old bytes denote, the answer is this one and the new bytes denote the next directory.
-- Mode and surroundings stay.
pub record Transitions {A : Type 0} (old new : SegmentState) (answer : A) (next : Directory
    → A × Directory) : Type 0 where
  pub stays : KeepsModeAndPlace old new
  pub answers : (d : Directory) → DenotesCurrent old.cut.bytes d → answer ≡ (next d).0
  pub denotes : (d : Directory) → DenotesCurrent old.cut.bytes d → DenotesCurrent new.cut.bytes (next d).1

-- the call is one step of the directory machine
abbrev pub TakesStep : SegmentState → SegmentState → Command → Answer → Type 0
TakesStep old new c answer = Transitions old new answer (λ d. step old.mode d c)

-- a call for objects of one kind is one step of the directory machine
abbrev pub TakesStepOfKind : SegmentState → SegmentState → Key → Kind → Command → Answer → Type 0
TakesStepOfKind old new key kind c answer = Transitions old new answer (λ d. step_of_kind old.mode d key kind c)

-- The call fails exactly if the step does, with the same error, and leads to the step's directory. This is for a call
-- that returns less than the machine's answer.
abbrev pub StepsWithoutAnswer : SegmentState → SegmentState → Command → Option Refusal → Type 0
StepsWithoutAnswer old new c refusal =
    Transitions old new refusal (λ d. (refusal_of (step old.mode d c).0, (step old.mode d c).1))

-- a call that changes nothing, and returns the machine's answer
abbrev pub AnswersQuery : SegmentState → Command → Answer → Type 0
AnswersQuery s c answer = AnswersWith s (λ d. (step s.mode d c).0) answer

-- a call for objects of one kind that changes nothing, and returns the machine's answer
abbrev pub AnswersQueryOfKind : SegmentState → Key → Kind → Command → Answer → Type 0
AnswersQueryOfKind s key kind c answer = AnswersWith s (λ d. (step_of_kind s.mode d key kind c).0) answer

-- a call that failed before it allocated a block changed nothing
abbrev pub UnchangedIfRefused : {A : Type 0} → SegmentState → SegmentState → Result A Refusal → Type 0
UnchangedIfRefused old new result = IfErr result (λ why. is_untouched (Refused why) ≡ true → new ≡ old)

-- ---- a call's result as an answer

-- a result as an answer
abbrev pub answer_of : {A : Type 0} → (A → Answer) → Result A Refusal → Answer
answer_of f (Ok a) = f a
answer_of f (Err r) = Refused r

-- the error of a call, if it failed
abbrev pub refusal_in : {A : Type 0} → Result A Refusal → Option Refusal
refusal_in (Ok a) = None
refusal_in (Err r) = Some r

-- the result of a call that makes an object, as an answer
abbrev pub handle_answer : Result ℕ Refusal → Answer
handle_answer = answer_of Made

-- the result of a call without a value, as an answer
abbrev pub done_answer : Result (Unit {0}) Refusal → Answer
done_answer = answer_of (λ u. Done)

-- the result of a call without a value, whose command prints `true`, as an answer
abbrev pub gone_answer : Result (Unit {0}) Refusal → Answer
gone_answer = answer_of (λ u. Boolean true)

-- the result of a test, as an answer
abbrev pub truth_answer : Result Bool Refusal → Answer
truth_answer = answer_of Boolean

-- the result of a call that reads an element, as an answer
abbrev pub scalar_answer : Result ScalarValue Refusal → Answer
scalar_answer = answer_of (λ v. Element (kind_of_scalar v) (value_of_scalar v))
