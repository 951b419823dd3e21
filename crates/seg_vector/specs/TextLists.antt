-- An array with texts, stored in new blocks next to all other contents of a heap.
use Rattle.std.specs.Prelude.{◌≡◌, ℕ, ◌*◌, ◌<◌, ◌≤◌, Some, None, Result, MatchResult, List, [], ◌∷◌, ◌++◌, drop, length}
use Rattle.std.specs.{Prelude.option_map, List.AllByRecursion}
use Rattle.raw_region.specs.{Memory.WindowState, Memory.bytes_of, Format.current}
use Rattle.block_tags.specs.declared.tile.Role.TheVariants.{Storage}
use Rattle.best_fit.specs.{Exchange.KeepsLiveSet, Extents.Extent, Extents.handle, Fit.place, Fit.resized}
use Rattle.best_fit.specs.Heap.{extent_at, live_of}
use Rattle.seg_types.specs.{declared.refusals.Refusal.Refusal, declared.refusals.Refusal.TheVariants.NoSpace}
use Rattle.seg_vector.specs.TextParts.{IsServed, SwapsBlocks}
use Rattle.seg_vector.specs.TextsCalls.{requested_texts, new_array, placed_texts, text_blocks}
use Rattle.seg_vector.specs.Vector.{AreTextLinks, IsOwnedText, OwnedText}

-- The first n texts are stored: each has its element in the block of an array, and, if it is not empty, a block of its
-- own.
pub record StoresFirstTexts (old now : WindowState) (y : Extent) (n : ℕ) (more : List (List ℕ)) : Type 0 where
  pub texts : List OwnedText
  pub long : length texts ≡ n
  pub placed : placed_texts (live_of old.bytes) more ≡ option_map (λ (qs : List OwnedText). texts ++ qs)
      (placed_texts (live_of now.bytes) (drop n more))
  pub change : SwapsBlocks old now (y ∷ []) (y ∷ text_blocks texts)
  pub links : AreTextLinks (bytes_of now.bytes) (handle y) texts
  pub owned : AllByRecursion (IsOwnedText (bytes_of now.bytes)) texts
  pub served : AllByRecursion IsServed texts

-- all texts are stored, or the texts before the first one without a fit
pub record StoresArrayUpTo (old new : WindowState) (y : Extent) (n : ℕ) (more : List (List ℕ)) : Type 0 where
  pub laid : StoresFirstTexts old new y n more
  pub within : n ≤ length more
  pub stopped : n < length more → placed_texts (live_of new.bytes) (drop n more) ≡ None

-- texts are stored in new blocks: all of them, or the texts before the first one without a fit
abbrev pub LaysTexts : WindowState → WindowState → ℕ → List (List ℕ) → ℕ → Type 0
LaysTexts old new array more n = (y : Extent) → handle y ≡ array → extent_at (live_of old.bytes) array ≡ Some y
    → StoresArrayUpTo old new y n more

-- the array and all texts are stored
pub record StoresArrayOk (old new : WindowState) (more : List (List ℕ)) (array : ℕ) : Type 0 where
  pub block : Extent
  pub at : array ≡ handle block
  pub fit : place (live_of old.bytes) (16 * length more) Storage ≡ Some block
  pub texts : List OwnedText
  pub long : length texts ≡ length more
  pub placed : placed_texts (resized (live_of old.bytes) block) more ≡ Some texts
  pub change : SwapsBlocks old new [] (block ∷ text_blocks texts)
  pub links : AreTextLinks (bytes_of new.bytes) (handle block) texts
  pub owned : AllByRecursion (IsOwnedText (bytes_of new.bytes)) texts
  pub served : AllByRecursion IsServed texts

-- the array or a text has no fit; if it is the array, nothing changes
pub record StoresArrayErr (old new : WindowState) (more : List (List ℕ)) (e : Refusal) : Type 0 where
  pub refusal : e ≡ NoSpace
  pub none : requested_texts (live_of old.bytes) more ≡ None
  pub restored : KeepsLiveSet current old new
  pub first : new_array (live_of old.bytes) (length more) ≡ None → new ≡ old

-- an array and its texts are stored in new blocks, or there is no space
abbrev pub StoresArray : WindowState → WindowState → List (List ℕ) → Result ℕ Refusal → Type 0
StoresArray old new more result = MatchResult result (StoresArrayOk old new more) (StoresArrayErr old new more)
