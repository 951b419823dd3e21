-- Objects that stay.
use Rattle.seg_types.specs.Commands as asked
use Rattle.std.specs.Prelude.{◌≡◌, Bool, true, false}
use Rattle.seg_types.specs.{declared.kinds.Kind.Kind, Names.Key, Commands.Command}
use Rattle.segment_manager.specs.declared.objects.object_ref.Object.{Object as Located}
use Rattle.segment_manager.specs.{objects.Located.IsObject, Answers.Answer}
use Rattle.segment_manager.specs.State.{IsSegment, TakesStep, TakesStepOfKind, SegmentState}

-- whether the command is on the elements of an object, or only reads
abbrev pub is_elementwise : Command → Bool
is_elementwise (asked.Construct key content) = false
is_elementwise (asked.ConstructIt key k count zs) = false
is_elementwise (asked.FindOrConstruct key content) = false
is_elementwise (asked.Destroy key) = false
is_elementwise (asked.DestroyPtr h) = false
is_elementwise (asked.ReserveNamed n) = false
is_elementwise (asked.ReserveUnique n) = false
is_elementwise asked.ShrinkIndexes = false
is_elementwise c = true

-- each object is still there
abbrev pub KeepsObjects : SegmentState → SegmentState → Type 0
KeepsObjects old new = (o : Located) → IsObject o old → IsObject o new

-- the law: commands on elements of an object, and commands that only read, keep each object
pub record ObjectsStay : Type 0 where
  pub any : (old new : SegmentState) (c : Command) (answer : Answer) → IsSegment old.cut.bytes → is_elementwise c ≡ true
      → TakesStep old new c answer → KeepsObjects old new
  pub of_kind : (old new : SegmentState) (key : Key) (kind : Kind) (c : Command) (answer : Answer)
      → IsSegment old.cut.bytes
      → is_elementwise c ≡ true → TakesStepOfKind old new key kind c answer → KeepsObjects old new
