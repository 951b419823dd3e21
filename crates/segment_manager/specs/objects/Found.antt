-- The results of the calls that find objects.
use Rattle.std.specs.Prelude.{ℕ, ◌<◌, Bool, Option, Some, None, Result, is_some, option_map}
use Rattle.best_fit.specs.Extents.{handle}
use Rattle.seg_types.specs.{declared.refusals.Refusal.Refusal, Names.Key, Names.ByHandle}
use Rattle.segment_manager.specs.{Answers.Answer, Answers.Absent, Answers.Found, Directory.Object, Directory.Directory}
use Rattle.segment_manager.specs.{Directory.object_at, State.SegmentState, State.DenotesCurrent, State.answer_of}

-- the handle of the object of a key
abbrev pub handle_at : Directory → Key → Option ℕ
handle_at d key = option_map (λ (o : Object). handle o.extent) (object_at d key)

-- whether an object has the handle
abbrev pub is_object_at : Directory → ℕ → Bool
is_object_at d h = is_some (object_at d (ByHandle h))

-- the number is below this number of the directory
pub record IsBelow (s : SegmentState) (count : Directory → ℕ) (n : ℕ) : Type 0 where
  pub below : (d : Directory) → DenotesCurrent s.cut.bytes d → n < count d

-- a handle and a count, or none, as an answer
abbrev pub found_or_absent : Option (ℕ × ℕ) → Answer
found_or_absent None = Absent
found_or_absent (Some (h, n)) = Found h n

-- a handle with a count, or none, as an answer
abbrev pub found_answer : Result (Option (ℕ × ℕ)) Refusal → Answer
found_answer = answer_of found_or_absent

-- a handle and a count as an answer
abbrev pub found_object : ℕ × ℕ → Answer
found_object (h, n) = Found h n

-- the result of a call that returns a handle and a count, as an answer
abbrev pub found_object_answer : Result (ℕ × ℕ) Refusal → Answer
found_object_answer = answer_of found_object
