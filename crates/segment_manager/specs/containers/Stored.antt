-- Containers with storage of their own, at a place: the results and effects of calls on them, for any key of the
-- object.
use Rattle.seg_types.specs.Commands as asked
use Rattle.std.specs.Prelude.{◌≡◌, ◌≤◌, ℕ, List, Result, Ok, OnErr}
use Rattle.raw_region.specs.Memory.{WindowState}
use Rattle.seg_types.specs.{declared.kinds.Kind.Kind, declared.refusals.Refusal.Refusal}
use Rattle.seg_types.specs.{declared.kinds.Kind.TheVariants.Vector, Kinds.size_of, Commands.Command, Names.Key}
use Rattle.best_fit.specs.declared.places.Place.{Place}
use Rattle.seg_vector.specs.Elements.{ShrinksStorage, Truncates}
use Rattle.seg_vector.specs.Containers.{ReservesStorage, IsStanding}
use Rattle.seg_vector.specs.TextsCalls.{ClearsTexts, ReservesNoTexts, ReservesTexts, ShrinksTexts}
use Rattle.segment_manager.specs.declared.containers.storage.Change.{Change}
use Rattle.segment_manager.specs.declared.containers.storage.Change.TheVariants.{Clear, Reserve, Shrink}
use Rattle.segment_manager.specs.{Answers.Answer, Directory.Directory, Keeping.HasCapacity}
use Rattle.segment_manager.specs.State.{TakesStepOfKind, SegmentState, done_answer}

-- A call that changes a container is one step of the machine, and if it fails nothing changes.
pub record AnswersSafely {R : Type 0} (says : Result R Refusal
    → Answer) (s : SegmentState) (new : WindowState) (key : Key)
    (kind : Kind) (c : Command) (r : Result R Refusal) : Type 0 where
  pub step : TakesStepOfKind s (record s { cut = new }) key kind c (says r)
  pub refused : OnErr r (new ≡ s.cut)

-- such a call without a value as its result
abbrev pub StepsSafely : SegmentState → WindowState → Key → Kind → Command → Result (Unit {0}) Refusal → Type 0
StepsSafely = AnswersSafely done_answer

-- ---- changes of storage

-- the command of a change
abbrev pub command_of : Change → Key → Command
command_of (Reserve n) key = asked.Reserve key n
command_of Shrink key = asked.Shrink key
command_of Clear key = asked.Clear key

-- the change is a reservation, and the vector or string of the key already has this capacity
abbrev pub HasEnough : Change → Key → Directory → Type 0
HasEnough (Reserve n) key d = HasCapacity key n d
HasEnough Shrink key d = ⊥
HasEnough Clear key d = ⊥

-- ---- storage with elements of this length

-- the length of an element: of a vector of numbers, or of a text
abbrev pub each_of : Kind → ℕ
each_of (Vector k) = size_of k
each_of kind = 1

-- elements of 1 to 8 bytes are at a place
pub record IsElements (b : List ℕ) (p : Place) (each : ℕ) : Type 0 where
  pub stands : IsStanding b p each
  pub some : 1 ≤ each
  pub short : each ≤ 8

-- the effect of a change on a container with such elements
abbrev pub ChangesElements : Change → WindowState → WindowState → Place → ℕ → Result (Unit {0}) Refusal → Type 0
ChangesElements (Reserve n) old new p each result = ReservesStorage old new p each n result
ChangesElements Shrink old new p each result = (result ≡ Ok tt) × ShrinksStorage old new p each
ChangesElements Clear old new p each result = (result ≡ Ok tt) × Truncates old new p each 0

-- the storage of a vector of texts changes
abbrev pub ChangesTexts : Change → WindowState → WindowState → Place → Result (Unit {0}) Refusal → Type 0
ChangesTexts (Reserve n) old new p result = ReservesTexts old new p n result × ReservesNoTexts old new p n result
ChangesTexts Shrink old new p result = (result ≡ Ok tt) × ShrinksTexts old new p
ChangesTexts Clear old new p result = (result ≡ Ok tt) × ClearsTexts old new p
