-- What a call of a handle does: what is asked of its segment, what a refusal leaves, and its marks.
use Rattle.std.specs.Prelude.{◌≡◌, ◌≤◌, ℕ, IsTrue, MatchResult, None, Result, Some}
use Rattle.seg_types.specs.{Commands.Command, declared.kinds.Kind.Kind}
use Rattle.segment_manager.specs.{Answers.Answer, Answers.Done, Directory.Directory}
use Rattle.segment_manager.specs.State.{AnswersQuery, DenotesCurrent, SegmentState, TakesStep, TakesStepOfKind}
use Rattle.segment_c.specs.Calls.{PerformsCall, PerformsRead, RefusesCall, UnchangedOnCode}
use Rattle.segment_c.specs.{Codes.answer_for, Codes.is_answer, Marked.RaisesMoves}
use Rattle.segment_c.specs.declared.slot.{Marks.Marks, Slot.Slot}
use Rattle.segment_c.specs.{declared.keys.CKey.CKey, Passed.key_of, Passed.key_wrong}

-- a call begins: this holds of what is passed, and the segment is taken out of the handle; or the call is refused
pub record Enters {A : Type 0} (wrong : ℕ) (Reads : A → Type 0) (segment_of : A → SegmentState) (it : Result A ℕ)
    (before after : Slot) : Type 0
  where
    pub entry : MatchResult it (λ a. (wrong ≡ 0) × Reads a × (before.segment.value ≡ Some (segment_of a))
        × (after.segment.value ≡ None)) (λ code. RefusesCall wrong code before.segment.value after.segment.value)
    pub marks : after.marks ≡ before.marks

-- a call that changes the segment: if it is refused nothing changes
pub record ChangesHandle (wrong code : ℕ) (old new : Slot) (P : SegmentState → SegmentState → Type 0) :
    Type 0 where
  pub call : PerformsCall wrong code old.segment.value new.segment.value P
  pub unchanged_on_error : 1 ≤ code → new.segment.value ≡ old.segment.value
  pub marks : RaisesMoves code old.marks new.marks

-- a call that asks for several blocks: if there was no space for one, bytes of gaps may differ
pub record MakesInHandle (wrong code : ℕ) (old new : Slot) (P : SegmentState → SegmentState → Type 0) :
    Type 0 where
  pub call : PerformsCall wrong code old.segment.value new.segment.value P
  pub refused : UnchangedOnCode code old.segment.value new.segment.value
  pub marks : RaisesMoves code old.marks new.marks

-- a call that asks the segment, and changes nothing
pub record AsksHandle (wrong code : ℕ) (old new : Slot) (P : SegmentState → SegmentState → Type 0) :
    Type 0 where
  pub call : PerformsCall wrong code old.segment.value new.segment.value P
  pub unchanged : new.segment.value ≡ old.segment.value
  pub marks : new.marks ≡ old.marks

-- a call that reads the segment, and changes nothing
pub record ReadsHandle (wrong code : ℕ) (old new : Slot) (P : SegmentState → Type 0) : Type 0 where
  pub read : PerformsRead wrong code old.segment.value new.segment.value P
  pub marks : new.marks ≡ old.marks

-- a call that reads what the directory says, and changes nothing
abbrev pub ReadsDirectory : ℕ → ℕ → Slot → Slot → (Directory → Type 0) → Type 0
ReadsDirectory wrong code old new P =
    ReadsHandle wrong code old new (λ s. (d : Directory) → DenotesCurrent s.cut.bytes d → P d)

-- the code says what a segment answers, with its outputs, which are kept if it is a refusal; and the segment is back
pub record PutsBack (said told : Answer) (Kept : Type 0) (code : ℕ) (s : SegmentState) (after : Slot) (marks : Marks) :
    Type 0 where
  pub outcome : answer_for code said ≡ told
  pub answer : IsTrue (is_answer code)
  pub unchanged_on_error : 1 ≤ code → Kept
  pub effect : after.segment.value ≡ Some s
  pub marked : after.marks ≡ marks

-- a call that asks the segment by a command, and says the answer if the code is 0
pub record AsksSegment {A : Type 0} (say : A → Answer) (wrong : ℕ) (c : Command) (code : ℕ)
    (before after : Slot) (old new : A) : Type 0
  where
    pub call : AsksHandle wrong code before after (λ s t. AnswersQuery s c (answer_for code (say new)))
    pub outputs_on_error : 1 ≤ code → new ≡ old

-- a call whose command changes the segment, and that says the answer if the code is 0
pub record StepsSegment {A : Type 0} (say : A → Answer) (wrong : ℕ) (c : Command) (code : ℕ)
    (before after : Slot) (old new : A) : Type 0
  where
    pub call : ChangesHandle wrong code before after (λ s t. TakesStep s t c (answer_for code (say new)))
    pub outputs_on_error : 1 ≤ code → new ≡ old

-- a call whose command changes the segment, and that says no more than its code
abbrev pub DoesCommand : ℕ → Command → ℕ → Slot → Slot → Type 0
DoesCommand wrong c code before after =
    ChangesHandle wrong code before after (λ s t. TakesStep s t c (answer_for code Done))

-- a call whose command is for an object of a kind, and that says no more than its code
abbrev pub DoesOfKind : CKey → Kind → Command → ℕ → Slot → Slot → Type 0
DoesOfKind key kind c code before after = ChangesHandle (key_wrong key) code before after (λ s t.
    TakesStepOfKind s t (key_of key) kind c (answer_for code Done))

-- the same of a call that asks for several blocks
abbrev pub MakesOfKind : CKey → Kind → Command → ℕ → Slot → Slot → Type 0
MakesOfKind key kind c code before after = MakesInHandle (key_wrong key) code before after (λ s t.
    TakesStepOfKind s t (key_of key) kind c (answer_for code Done))
