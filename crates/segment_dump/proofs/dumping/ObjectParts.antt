-- What the calls answer of a segment, and what an object says of itself.
use Rattle.seg_types.specs.Commands as asked
use Rattle.segment_dump.proofs.Common.{◌≡◌, ℕ, List, [], ◌∷◌, ◌++◌, length, map, refl, sym, ap, ◌∙◌, flat_map}
use Rattle.segment_dump.proofs.Common.{free_bytes, Instance, Number, Directory, live, named_objects, ByHandle}
use Rattle.segment_dump.proofs.Common.{unique_objects, SaysOf, SegmentState, step, true}
use Rattle.std.specs.Prelude.{is_some}
use Rattle.segment_manager.specs.{declared.modes.Mode.Mode, objects.Found.is_object_at, State.AnswersWith}
pub use Rattle.segment_manager.proofs.CommandLaws.{answered-reads}
pub use Rattle.segment_values.proofs.LaidElements.{count_of_object, length-made, sizes_of_object}

-- the numbers that are answered
pub size-is : (mode : Mode) (d : Directory) (n : ℕ) → Number n ≡ (step mode d asked.Size).0 → n ≡ d.size
size-is mode d n e = let same : Number n ≡ Number d.size = e ∙ answered-reads mode d asked.Size refl in cc

-- the free bytes that are answered are the directory's
pub free-is : (mode : Mode) (d : Directory) (n : ℕ) → Number n ≡ (step mode d asked.Free).0 → n ≡ free_bytes (live d)
free-is mode d n e = let same : Number n ≡ Number (free_bytes (live d)) = e ∙ answered-reads mode d asked.Free refl
    in cc

-- the number of names that is answered is the directory's
pub named-is : (mode : Mode) (d : Directory) (n : ℕ) → Number n ≡ (step mode d asked.NumNamed).0
    → n ≡ length (named_objects d)
named-is mode d n e = let same : Number n ≡ Number (length (named_objects d)) =
    e ∙ answered-reads mode d asked.NumNamed refl in cc

-- the number of unique objects that is answered is the directory's
pub unique-is : (mode : Mode) (d : Directory) (n : ℕ) → Number n ≡ (step mode d asked.NumUnique).0
    → n ≡ length (unique_objects d)
unique-is mode d n e = let same : Number n ≡ Number (length (unique_objects d)) =
    e ∙ answered-reads mode d asked.NumUnique refl in cc

-- the texts of what is made of each element
pub flat_map-made : {X Y : Type 0} (f : Y → List ℕ) (g : X → Y) (xs : List X)
    → flat_map f (map g xs) ≡ flat_map (λ x. f (g x)) xs
flat_map-made f g [] = refl
flat_map-made f g (x ∷ xs) = ap (λ l. f (g x) ++ l) (flat_map-made f g xs)

-- an object that says something of itself has the handle
pub said-here : (s : SegmentState) (said : Instance) → SaysOf s (ByHandle said.handle) said
    → AnswersWith s (λ d. is_object_at d said.handle) true
said-here s said h = record { answers = λ d st. sym (ap is_some (h.says d st).1) }
