-- Elements that a line changes: the kind of the object says which call it is.
use Rattle.std.specs.Prelude.{◌≡◌, ℤ, true, Ok, Err, Result, List, map, IsTrue}
use Rattle.std.specs.List.{list_all}
use Rattle.seg_types.specs.declared.kinds.ScalarKind.{ScalarKind}
use Rattle.seg_types.specs.declared.refusals.Refusal.{Refusal}
use Rattle.seg_types.specs.Kinds.{is_value}
use Rattle.seg_types.specs.Commands.{Command, Literal}
use Rattle.segment_manager.specs.Answers.{is_untouched}
use Rattle.segment_manager.specs.Directory.{Directory}
use Rattle.segment_manager.specs.State.{SegmentState, DenotesCurrent, KeepsModeAndPlace}
use Rattle.segment_manager.specs.Step.{step}
use Rattle.seg_types.specs.Literals.{values_of}
-- the object can be changed
pub use Rattle.segment_manager.proofs.CommandLaws.{IsChangeable, IsChangeableObject}

-- the values that literals are for a vector of a kind, as a type has them in a row, or why they are none
abbrev pub ReadsInto : {T : Type 0} → ScalarKind → (T → ℤ) → List Literal → List T → Result (Unit {0}) Refusal → Type 0
ReadsInto k whole ls buffer (Ok u) = (values_of k ls ≡ Ok (map whole buffer)) × IsTrue (list_all (is_value k)
    (map whole buffer))
ReadsInto k whole ls buffer (Err why) = values_of k ls ≡ Err why

-- The command is executed: the directory is the one after its step, and nothing changes if it is refused before it
-- asks for a block.
pub record Executes (old new : SegmentState) (c : Command) : Type 0 where
  pub stays : KeepsModeAndPlace old new
  pub denotes : (d : Directory) → DenotesCurrent old.cut.bytes d → DenotesCurrent new.cut.bytes (step old.mode d c).1
  pub refused : (d : Directory) → DenotesCurrent old.cut.bytes d → is_untouched (step old.mode d c).0 ≡ true → new ≡ old
