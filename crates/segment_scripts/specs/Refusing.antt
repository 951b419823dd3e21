-- Which lines are refused, and how a call tells it.
use Rattle.std.specs.Prelude.{◌≡◌, Bool, true, false, Result, Ok, Err, IfOk}
use Rattle.raw_region.specs.Device.{WriterHistory}
use Rattle.seg_types.specs.Commands.{Reading, Nothing, Asked, UnknownCommand, LineTooLong, BadSyntax}
use Rattle.segment_manager.specs.declared.modes.Mode.{Mode}
use Rattle.segment_manager.specs.Answers.{Answer, Refused as RefusedFor}
use Rattle.segment_manager.specs.Directory.{Directory}
use Rattle.segment_manager.specs.Step.{step}
use Rattle.segment_scripts.specs.declared.answered.Answered.{Answered}
use Rattle.segment_scripts.specs.declared.answered.Answered.TheVariants.{Done, Refused}
use Rattle.segment_scripts.specs.Answer.{answer_text}
use Rattle.segment_scripts.specs.Writing.{WritesFor}

-- the answer says that its line was refused
abbrev pub was_refused : Answered → Bool
was_refused Done = false
was_refused Refused = true

-- if all of the answer went out, the call tells whether the line was refused
abbrev pub Tells : {E : Type 0} → Result Answered E → Bool → Type 0
Tells result refused = IfOk result (λ answered. was_refused answered ≡ refused)

-- a line was answered so once its answer went out; otherwise the writer's error
abbrev pub once : {E : Type 0} → Answered → Result (Unit {0}) E → Result Answered E
once answered (Ok u) = Ok answered
once answered (Err e) = Err e

-- the directory machine refuses the command
abbrev pub is_refusal : Answer → Bool
is_refusal (RefusedFor r) = true
is_refusal answer = false

-- a line of this reading is refused: it is no command, or its step is refused
abbrev pub refuses : Mode → Directory → Reading → Bool
refuses mode d Nothing = false
refuses mode d (Asked c) = is_refusal (step mode d c).0
refuses mode d UnknownCommand = true
refuses mode d LineTooLong = true
refuses mode d BadSyntax = true

-- the answer that is due where a machine stands goes out, and the call tells whether it is a refusal
pub record AnswersFor {P E : Type 0} (old new : WriterHistory) (result : Result Answered E) (Stands : P
    → Type 0) (due : P → Answer) : Type 0 where
  pub writes : WritesFor old new result Stands (λ state. answer_text (due state))
  pub tells : (state : P) → Stands state → Tells result (is_refusal (due state))
