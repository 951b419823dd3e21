-- Objects that a command changes, and literals of the change, whose kind is known only at run time.
use Rattle.std.specs.Prelude.{◌≡◌, ℕ, true, false, None, Ok}
use Rattle.seg_types.specs.{Names.Key, Kinds.is_value, declared.kinds.Kind.Kind, declared.refusals.Refusal.Refusal}
use Rattle.seg_types.specs.{declared.kinds.Kind.TheVariants.Vector, Values.kind_of_scalar, Values.value_of_scalar}
use Rattle.seg_types.specs.{declared.values.ScalarValue.ScalarValue, declared.refusals.Refusal.TheVariants.NotFound}
use Rattle.seg_types.specs.Commands.{Command, Insert, Literal, Push, is_changing, value_of_literal}
use Rattle.segment_manager.specs.declared.objects.object_ref.Object.{Object}
use Rattle.segment_manager.specs.{Answers.Refused, Calls.kind_at, Directory.Directory, Directory.object_at}
use Rattle.segment_manager.specs.{objects.Located.IsLocated, Plan.Refuse, Step.effect, Step.is_read_only}
use Rattle.segment_manager.specs.State.{AnswersWith, TakesStep, SegmentState}

-- ---- the object

-- the segment is open for writing, and the object of the key has the kind
pub record IsChangeable (s : SegmentState) (key : Key) (kind : Kind) : Type 0 where
  pub writing : is_read_only s.mode ≡ false
  pub is : AnswersWith s (λ d. kind_at d key) (Ok kind)

-- the object of the key is located, and the segment is open for writing
pub record IsChangeableObject (s : SegmentState) (key : Key) (o : Object) : Type 0 where
  pub writing : is_read_only s.mode ≡ false
  pub located : IsLocated s key o

-- each command that changes the object of the key fails with this error
pub record IsUnchangeable (s : SegmentState) (key : Key) (why : Refusal) : Type 0 where
  pub refuses : (c : Command) → is_changing c ≡ true
      → ((d : Directory) → object_at d key ≡ None → effect d c ≡ Refuse NotFound) → TakesStep s s c (Refused why)

-- ---- the literals

-- the literal is a value for the vector of the key
pub record IsElement (s : SegmentState) (key : Key) (l : Literal) (v : ScalarValue) : Type 0 where
  pub is : AnswersWith s (λ d. kind_at d key) (Ok (Vector (kind_of_scalar v)))
  pub value : value_of_literal (kind_of_scalar v) l ≡ Ok (value_of_scalar v)
  pub range : is_value (kind_of_scalar v) (value_of_scalar v) ≡ true

-- the literal can be no new element: push and insert fail with this error
pub record IsNoElement (s : SegmentState) (key : Key) (l : Literal) (why : Refusal) : Type 0 where
  pub push : TakesStep s s (Push key l) (Refused why)
  pub insert : (i : ℕ) → TakesStep s s (Insert key i l) (Refused why)
