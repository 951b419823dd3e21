-- The counts of tiles, with one more tile.
use Rattle.image_check.proofs.Common.{AreCounted, IsTrue, List, None, Option, Role, Some, Tile, WindowState, [], ap}
use Rattle.image_check.proofs.Common.{arith, false, is_legal_size, is_none, is_some, length, refl, small_size}
use Rattle.image_check.proofs.Common.{◌++◌, ◌+◌, ◌<◌, ◌^◌, ◌∷◌, ◌≡◌}
use Rattle.image_check.specs.declared.counting.Counts.{Counts}
use Rattle.image_check.proofs.frame.Formats.{few-free}
use Rattle.image_check.proofs.free_tree.Meaning.{free-more, none-free}
use Rattle.image_check.proofs.block_collection.Lookup.{count-free, count-most, count-push, count-used}
use Rattle.image_check.proofs.walks.Tiles.{WalksAt, walk-few}

module _ (ts : List Tile) (old new : Counts) (here : Tile) (k : AreCounted ts old) where
  -- a free one
  pub counted-free : here.use_of ≡ None → new.free ≡ old.free + 1 → new.used ≡ old.used
      → AreCounted (ts ++ here ∷ []) new
  counted-free e f u =
      let more = free-more ts here (ap is_none e) in
      let push = count-push ts here in
      let one = count-free here (ap is_some e) in
      let free = k.free in
      let used = k.used in
      record {
        free = omega arith;
        used = omega arith;
      }

  -- one tile in use
  pub counted-used : (role : Role) → here.use_of ≡ Some role → new.free ≡ old.free → new.used ≡ old.used + 1
      → AreCounted (ts ++ here ∷ []) new
  counted-used role e f u =
      let same = none-free ts here (ap is_none e) in
      let push = count-push ts here in
      let one = count-used here (ap is_some e) in
      let free = k.free in
      let used = k.used in
      record {
        free = omega arith;
        used = omega arith;
      }

-- so the counts stay small
pub counted-few : (c : WindowState) (Kept : List Tile → Type 0) (here : Tile) (counts : Counts)
    → IsTrue (is_legal_size (length c.bytes)) → (a : WalksAt c Kept here)
    → AreCounted a.front counts → (counts.free < 2 ^ 63) × (counts.used < 2 ^ 63)
counted-few c Kept here counts legal a k =
    let few = walk-few c Kept here a in
    let free = few-free a.front in
    let used = count-most a.front in
    let small = small_size (length c.bytes) legal in
    let f = k.free in
    let u = k.used in
    (omega arith, omega arith)

-- an option that is never some is none
pub not-given : {X : Type 0} (o : Option X) → ((x : X) → o ≡ Some x → ⊥) → is_some o ≡ false
not-given None h = refl
not-given (Some x) h = absurd (h x refl)
