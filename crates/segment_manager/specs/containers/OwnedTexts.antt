-- The blocks of several texts, as a list of allocations.
use Rattle.std.specs.Prelude.{◌≡◌, ℕ, Option, Some, None, List, [], ◌∷◌, length, IsTrue, ◌==◌, if◌then◌else◌}
use Rattle.block_tags.specs.{declared.tile.Role.Role, declared.tile.Role.TheVariants.Storage}
use Rattle.best_fit.specs.{Extents.Extent, Extents.LiveSet, Extents.is_proper, Requests.place_all, Requests.all_added}
use Rattle.seg_types.specs.declared.refusals.Refusal.TheVariants.{NoSpace}
use Rattle.seg_vector.specs.Vector.{OwnedText}
use Rattle.segment_manager.specs.{Directory.Directory, Answers.Answer, Answers.Refused}
use Rattle.segment_manager.specs.Plan.{Plan, perform, with_owned_texts}

-- one allocation for each text that is not empty
abbrev pub text_needs : List (List ℕ) → List (ℕ × Role)
text_needs [] = []
text_needs (bs ∷ bss) = if length bs == 0 then text_needs bss else (length bs, Storage) ∷ text_needs bss

-- the texts; each text that is not empty gets the next of these blocks
abbrev pub owned_texts : List (List ℕ) → List Extent → List OwnedText
owned_texts [] xs = []
owned_texts (bs ∷ bss) [] = record { bytes = bs; extent = None } ∷ owned_texts bss []
owned_texts (bs ∷ bss) (x ∷ xs) =
    if length bs == 0 then record { bytes = bs; extent = None } ∷ owned_texts bss (x ∷ xs)
    else record { bytes = bs; extent = Some x } ∷ owned_texts bss xs

-- the answer of a plan that continues with texts in these blocks, or has no space for them
abbrev pub with_blocks : Directory → LiveSet → List (List ℕ) → (List OwnedText → Plan) → Option (List Extent) → Answer
    × Directory
with_blocks d l bss next None = (Refused NoSpace, d)
with_blocks d l bss next (Some xs) = perform d (all_added l xs) (next (owned_texts bss xs))

-- the law: a plan that allocates several texts continues with the extents of `place_all`, one for each text that is not
-- empty; it is refused if there is no space
abbrev pub TextsArePlaced : Type 0
TextsArePlaced = (d : Directory) (l : LiveSet) (bss : List (List ℕ)) (next : List OwnedText → Plan)
    → IsTrue (is_proper l)
    → perform d l (with_owned_texts bss next) ≡ with_blocks d l bss next (place_all l (text_needs bss))
