-- A call for objects of one kind that returns less than the machine's answer.
use Rattle.std.specs.Prelude.{Option}
use Rattle.seg_types.specs.{declared.kinds.Kind.Kind, declared.refusals.Refusal.Refusal, Names.Key, Commands.Command}
use Rattle.segment_manager.specs.{Answers.refusal_of, State.Transitions, State.SegmentState, Step.step_of_kind}

-- the call fails exactly if the step does, with the same error, and it leads to the step's directory
abbrev pub LeadsOnOfKind : SegmentState → SegmentState → Key → Kind → Command → Option Refusal → Type 0
LeadsOnOfKind old new key kind c refusal = Transitions old new refusal
    (λ d. (refusal_of (step_of_kind old.mode d key kind c).0, (step_of_kind old.mode d key kind c).1))
