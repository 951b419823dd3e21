-- Several requests, placed one after another.
use Rattle.std.proofs.Common.{◌≡◌, refl, ℕ, List, [], ◌∷◌, Some, None}
use Rattle.block_tags.specs.declared.tile.Role.TheVariants.{Object, Storage}
use Rattle.best_fit.specs.Extents.{LiveSet, gaps}
use Rattle.best_fit.specs.Fit.{place, fit}
use Rattle.best_fit.specs.Requests.{place_all, all_added}
use Rattle.segment_manager.specs.containers.OwnedTexts.{text_needs, owned_texts}
use Rattle.rows.proofs.Images.{extent}

-- gaps of 32 and 48 bytes
abbrev two_gaps : LiveSet
two_gaps = record { size = 256; extents = extent 160 32 Object ∷ [] }

-- the second goes where the first has left room
both_placed : place_all two_gaps ((1, Storage) ∷ (20, Storage) ∷ [])
    ≡ Some (extent 128 32 Storage ∷ extent 192 48 Storage ∷ [])
unfolding place fit gaps
both_placed = refl

-- each has a fit alone, and not both
without_room : place_all two_gaps ((20, Storage) ∷ (20, Storage) ∷ []) ≡ None
unfolding place fit gaps
without_room = refl

all_live : all_added two_gaps (extent 192 48 Storage ∷ extent 128 32 Storage ∷ [])
    ≡ record { size = 256; extents = extent 128 32 Storage ∷ extent 160 32 Object ∷ extent 192 48 Storage ∷ [] }
all_live = refl

-- of three texts the empty one asks for nothing
abbrev three_texts : List (List ℕ)
three_texts = (7 ∷ []) ∷ [] ∷ (8 ∷ 9 ∷ []) ∷ []

needs : text_needs three_texts ≡ (1, Storage) ∷ (2, Storage) ∷ []
needs = refl

texts : owned_texts three_texts (extent 128 32 Storage ∷ extent 192 48 Storage ∷ [])
    ≡ record { bytes = 7 ∷ []; extent = Some (extent 128 32 Storage) } ∷ record {
      bytes = [];
      extent = None;
    } ∷ record { bytes = 8 ∷ 9 ∷ []; extent = Some (extent 192 48 Storage) } ∷ []
texts = refl
