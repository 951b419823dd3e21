-- What stands under the path of a file while an image is written.
use Rattle.std.proofs.Common.{◌≡◌, ◌≢◌, ◌⊎◌, ℕ, zero, suc, Bool, true, false, inl, inr, List, [], ◌∷◌, None, fold, take}
use Rattle.std.proofs.Common.{bytes_eq, refl, sym, subst}
use Rattle.std.proofs.lemmas.Slice.Eq.{bytes_eq-Decides}
use Rattle.raw_region.specs.Device.{WriteDelta}
use Rattle.segment_disk.specs.Events.{CreateMode, New, Truncate, Replacement, Event}
use Rattle.segment_file.specs.Files.{WriteOutcome, Overtaken, Unchanged, NotMade, Closed, Offered, IsUnchanged}
use Rattle.segment_file.specs.Files.{IsUnwritten, HasImage, all_of, whole_outcome}
use Rattle.segment_file.specs.Files.{write_events}
use Rattle.segment_file.specs.PathContents.{FileState, Whole, Neither, IsOneOf, ReplacingKeepsOneWhole}
use Rattle.segment_file.specs.PathContents.{UnplacedLeavesTheOld, SavingEndsWhole, EmptyingTears, after_event, standing}

same : (path : List ℕ) → bytes_eq path path ≡ true
same path = (bytes_eq-Decides path path).1 refl

-- one of the two stands there at each point
abbrev Along : List ℕ → List ℕ → List ℕ → FileState → List Event → Type 0
Along path old new s [] = IsOneOf old new s.named
Along path old new s (e ∷ es) = IsOneOf old new s.named × Along path old new (after_event path s e) es

at_each : (path old new : List ℕ) (es : List Event) (s : FileState) → Along path old new s es → (k : ℕ)
    → IsOneOf old new (fold (after_event path) s (take k es)).named
at_each path old new [] s h zero = h
at_each path old new [] s h (suc k) = h
at_each path old new (e ∷ es) s h zero = h.0
at_each path old new (e ∷ es) s h (suc k) = at_each path old new es (after_event path s e) h.1 k

abbrev before : List ℕ → FileState
before old = record { named = Whole old; target = Neither; beside = None }

module _ (path old image : List ℕ) where
  abbrev Kept : WriteOutcome → Type 0
  Kept written = Along path old image (before old) (write_events Replacement path image written)

  kept-unchanged : Kept Unchanged
  kept-unchanged = rw (same path) (inl refl, inr refl)

  kept-closed : (taken : WriteDelta) (lasts : Bool) → Kept (Closed taken lasts)
  kept-closed taken lasts = rw (same path) (inl refl, (inl refl, (inl refl, (inl refl, inl refl))))

  kept-placed : Kept (Offered image true)
  kept-placed = rw (same path) (inl refl, (inl refl, (inl refl, (inl refl, inr refl))))

  kept-unplaced : Kept (Offered image false)
  kept-unplaced = rw (same path) (
    inl refl,
    (inl refl, (inl refl, (inl refl, ((inl refl, inr refl), (inl refl, inr refl))))),
  )

  kept-overtaken : Kept Overtaken
  kept-overtaken = rw (same path) (inl refl, inl refl)

  kept-not_made : Kept NotMade
  kept-not_made = rw (same path) (inl refl, (inl refl, inl refl))

  kept : (written : WriteOutcome) → HasImage Replacement image written ⊎ IsUnwritten Replacement image written
      → Kept written
  kept written (inl (inl e)) = subst Kept (sym e) kept-placed
  kept written (inl (inr u)) = subst Kept (sym u.left) kept-unchanged
  kept written (inr (inl o)) = subst Kept (sym o.left) kept-overtaken
  kept written (inr (inr (inl e))) = subst Kept (sym e) kept-not_made
  kept written (inr (inr (inr (inl c)))) = subst Kept (sym c.closed) (kept-closed c.taken c.lasts)
  kept written (inr (inr (inr (inr (inl e))))) = subst Kept (sym e) (kept-closed (all_of image) false)
  kept written (inr (inr (inr (inr (inr u))))) = subst Kept (sym u.offered) kept-unplaced

-- law: replacing keeps one whole image
pub replacing_keeps : ReplacingKeepsOneWhole
replacing_keeps path old image written h k =
    at_each path old image (write_events Replacement path image written) (before old) (kept path old image written h) k

-- law: an image that was not placed leaves the old one
pub unplaced_leaves : UnplacedLeavesTheOld
unplaced_leaves path old image Overtaken h = rw (standing, same path) refl
unplaced_leaves path old image Unchanged h = absurd h
unplaced_leaves path old image NotMade h = rw (standing, same path) refl
unplaced_leaves path old image (Closed taken lasts) h = rw (standing, same path) refl
unplaced_leaves path old image (Offered offered placed) h = absurd h

ends_written : (how : CreateMode) (path old image : List ℕ)
    → standing path old (write_events how path image (whole_outcome how image)) ≡ Whole image
ends_written New path old image = rw (standing, same path) refl
ends_written Truncate path old image = rw (standing, same path) refl
ends_written Replacement path old image = rw (standing, same path) refl

ends_unchanged : (how : CreateMode) → how ≢ New → (path old image : List ℕ)
    → standing path old (write_events how path image Unchanged) ≡ Whole image
ends_unchanged New n path old image = absurd (n refl)
ends_unchanged Truncate n path old image = rw (standing, same path) refl
ends_unchanged Replacement n path old image = rw (standing, same path) refl

-- law: saving ends with a whole image
pub ends_whole : SavingEndsWhole
ends_whole how path old image written (inl e) =
    subst (λ (w : WriteOutcome). standing path old (write_events how path image w) ≡ Whole image) (sym e)
    (ends_written how path old image)
ends_whole how path old image written (inr u) =
    subst (λ (w : WriteOutcome). standing path old (write_events how path image w) ≡ Whole image) (sym u.left)
    (ends_unchanged how u.old path old image)

-- law: emptying first can lose the image
pub tears : EmptyingTears
tears path old image = rw (standing, same path) refl
