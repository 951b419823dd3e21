-- The answers of commands.
use Rattle.std.specs.Prelude.{ℕ, ℤ, Bool, true, false, Option, Some, None, List}
use Rattle.best_fit.specs.Extents.{Span}
use Rattle.seg_types.specs.{declared.kinds.ScalarKind.ScalarKind, declared.refusals.Refusal.Refusal}
use Rattle.seg_types.specs.declared.refusals.Refusal.TheVariants.{NoSpace}
use Rattle.segment_manager.specs.Directory.{Value, Object}

-- the answer of the directory machine to a command, before it is printed
pub data Answer : Type 0 where
  Done Absent : Answer
  Boolean : Bool → Answer
  Number : ℕ → Answer
  -- a handle, and a handle with a count
  Made : ℕ → Answer
  Found : ℕ → ℕ → Answer
  TextElement : List ℕ → Answer
  Element : ScalarKind → ℤ → Answer
  Shown : Value → Answer
  Told : Object → Answer
  -- named objects by name; unique objects by kind; extents and gaps by offset
  Names : List Object → Answer
  Kinds : List Object → Answer
  Blocks : List Span → Answer
  Refused : Refusal → Answer

-- the error in an answer, if it is one
abbrev pub refusal_of : Answer → Option Refusal
refusal_of (Refused r) = Some r
refusal_of answer = None

-- A command failed before it allocated a block, and changed no byte. After `NoSpace` an earlier block was freed again,
-- whose tag can remain in the gap. (`ConstructIt` with too few items also allocates first; no script has this case.)
abbrev pub is_untouched : Answer → Bool
is_untouched (Refused NoSpace) = false
is_untouched (Refused r) = true
is_untouched a = false
