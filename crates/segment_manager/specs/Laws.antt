-- Laws of all steps of the directory machine.
use Rattle.seg_types.specs.Commands as asked
use Rattle.std.specs.Prelude.{◌≡◌, ◌<◌, ℕ, true, false, Some, List, Result, length}
use Rattle.seg_types.specs.{declared.refusals.Refusal.Refusal, declared.kinds.Kind.Kind, Names.Key, Names.ByHandle}
use Rattle.seg_types.specs.declared.refusals.Refusal.TheVariants.{ReadOnly}
use Rattle.seg_types.specs.Commands.{Command, NumNamed, NumUnique, Pop, is_changing}
use Rattle.segment_manager.specs.{declared.modes.Mode.Mode, Step.step, Step.step_of_kind, Step.is_read_only}
use Rattle.segment_manager.specs.{State.answer_of, State.refusal_in, objects.Found.IsBelow, objects.Located.IsLocated}
use Rattle.segment_manager.specs.declared.objects.object_ref.Object.{Object as Located}
use Rattle.segment_manager.specs.Directory.{Directory, named_objects, object_at, unique_objects}
use Rattle.segment_manager.specs.Answers.{Answer, Number, Refused, TextElement, refusal_of}
use Rattle.segment_manager.specs.State.{SegmentState, DenotesCurrent, AnswersQuery, TakesStep, StepsWithoutAnswer}

-- a step with an error keeps the directory; a segment that is open for reading refuses a command that can change it
pub record IsSafe (mode : Mode) (d : Directory) (c : Command) : Type 0 where
  pub refused : (r : Refusal) → (step mode d c).0 ≡ Refused r → (step mode d c).1 ≡ d
  pub read_only : is_read_only mode ≡ true → is_changing c ≡ true → step mode d c ≡ (Refused ReadOnly, d)

-- a step of a call for objects of one kind is safe
pub record IsSafeOfKind (mode : Mode) (d : Directory) (key : Key) (kind : Kind) (c : Command) : Type 0 where
  pub refused : (r : Refusal) → (step_of_kind mode d key kind c).0 ≡ Refused r → (step_of_kind mode d key kind c).1 ≡ d
  pub read_only : is_read_only mode ≡ true → is_changing c ≡ true
      → step_of_kind mode d key kind c ≡ (Refused ReadOnly, d)

-- the law: a command that fails changes nothing
abbrev pub RefusalsChangeNothing : Type 0
RefusalsChangeNothing = (mode : Mode) (d : Directory) (c : Command) → IsSafe mode d c

-- the law: a command for one kind that fails keeps the directory
abbrev pub RefusalsOfKindChangeNothing : Type 0
RefusalsOfKindChangeNothing = (mode : Mode) (d : Directory) (key : Key) (kind : Kind) (c : Command)
    → IsSafeOfKind mode d key kind c

-- the law: a command that only reads keeps the directory
abbrev pub ReadsChangeNothing : Type 0
ReadsChangeNothing = (mode : Mode) (d : Directory) (c : Command) → is_changing c ≡ false → (step mode d c).1 ≡ d

-- the law: a command for one kind that only reads keeps the directory
abbrev pub ReadsOfKindChangeNothing : Type 0
ReadsOfKindChangeNothing = (mode : Mode) (d : Directory) (key : Key) (kind : Kind) (c : Command) → is_changing c ≡ false
    → (step_of_kind mode d key kind c).1 ≡ d

-- the law: a call that takes a step with an answer also takes it without one, with the error of the answer
abbrev pub StepsLeadOn : Type 0
StepsLeadOn = (old new : SegmentState) (c : Command) (answer : Answer) → TakesStep old new c answer
    → StepsWithoutAnswer old new c (refusal_of answer)

-- the law for a call that removes the last text: without the text it is the same step, with the same error
abbrev pub PoppedTextsLeadOn : Type 0
PoppedTextsLeadOn = (old new : SegmentState) (key : Key) (result : Result (List ℕ) Refusal)
    → TakesStep old new (Pop key) (answer_of TextElement result)
    → StepsWithoutAnswer old new (Pop key) (refusal_in result)

-- the law: a call that returns less than its command prints, and fails, keeps the directory
abbrev pub RefusedCallsStay : Type 0
RefusedCallsStay = (old new : SegmentState) (c : Command) (r : Refusal) → StepsWithoutAnswer old new c (Some r)
    → (d : Directory) → DenotesCurrent old.cut.bytes d → DenotesCurrent new.cut.bytes d

-- the law: an index below the returned number of objects is the place of an object
pub record CountedAreBelow : Type 0 where
  pub named : (s : SegmentState) (n i : ℕ) → AnswersQuery s NumNamed (Number n) → i < n
      → IsBelow s (λ d. length (named_objects d)) i
  pub unique : (s : SegmentState) (n i : ℕ) → AnswersQuery s NumUnique (Number n) → i < n
      → IsBelow s (λ d. length (unique_objects d)) i

-- a command on the object of one key, with another key instead
abbrev pub at_key : Key → Command → Command
at_key key (asked.Show old) = asked.Show key
at_key key (asked.Info old) = asked.Info key
at_key key (asked.Get old i) = asked.Get key i
at_key key (asked.Set old i l) = asked.Set key i l
at_key key (asked.Push old l) = asked.Push key l
at_key key (asked.Pop old) = asked.Pop key
at_key key (asked.Insert old i l) = asked.Insert key i l
at_key key (asked.Erase old i) = asked.Erase key i
at_key key (asked.Reserve old n) = asked.Reserve key n
at_key key (asked.Shrink old) = asked.Shrink key
at_key key (asked.Clear old) = asked.Clear key
at_key key (asked.Assign old ls) = asked.Assign key ls
at_key key (asked.Append old bs) = asked.Append key bs
at_key key (asked.Put old l m) = asked.Put key l m
at_key key (asked.Lookup old l) = asked.Lookup key l
at_key key (asked.Remove old l) = asked.Remove key l
at_key key c = c

-- the law: a command means the same with each of two keys of one object
abbrev pub KeysMeanObjects : Type 0
KeysMeanObjects = (mode : Mode) (d : Directory) (key other : Key) (c : Command) → object_at d key ≡ object_at d other
    → step mode d (at_key key c) ≡ step mode d (at_key other c)

-- the law: a command for one kind means the same with each key of an object
abbrev pub KeysOfKindMeanObjects : Type 0
KeysOfKindMeanObjects = (mode : Mode) (d : Directory) (key other : Key) (kind : Kind) (c : Command) → object_at d key
    ≡ object_at d other → step_of_kind mode d key kind (at_key key c) ≡ step_of_kind mode d other kind (at_key other c)

-- the law: a located object is the object of its handle
abbrev pub HandlesMeanObjects : Type 0
HandlesMeanObjects = (s : SegmentState) (key : Key) (o : Located) → IsLocated s key o → (d : Directory)
    → DenotesCurrent s.cut.bytes d → object_at d key ≡ object_at d (ByHandle o.handle)
