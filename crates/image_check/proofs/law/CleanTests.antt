-- The result of each test if no class holds.
use Rattle.image_check.proofs.Common.{AllByRecursion, ImageClass, IsTrue, List, Memory, None, Option, Some, Tile, []}
use Rattle.image_check.proofs.Common.{ap, bytes_of, class_of, classes, cond, false, has_containers, has_indexes}
use Rattle.image_check.proofs.Common.{has_objects, is_orphaned, is_shared, is_tiled, not, not-false, refl, size_word}
use Rattle.image_check.proofs.Common.{subst, tiles_of, true, ℕ, ◌∷◌, ◌≡◌}
use Rattle.std.proofs.Common.{Bool}
use Rattle.std.specs.Prelude.{find}
use Rattle.image_check.specs.Classes.{holds as class_holds}
use Rattle.image_check.proofs.bytes.Numbers.{AreSmall}
use Rattle.image_check.proofs.law.Uniqueness.{tiles_in}
use Rattle.image_check.proofs.frame.Formats.{IsEarlyClean, IsFramed, clean-framed, second-fails}

-- the late tests pass
pub record IsLateClean (format : ℕ) (m : Memory) (ts : List Tile) : Type 0 where
  pub indexes : IsTrue (has_indexes m ts)
  pub objects : IsTrue (has_objects format m ts)
  pub unshared : is_shared format m ts ≡ false
  pub containers : IsTrue (has_containers format m ts)
  pub owned : is_orphaned format m ts ≡ false

not-found-if : (p : ImageClass → Bool) (c : ImageClass) (o : Option ImageClass) (q : Bool) → p c ≡ q
    → cond q (Some c) o ≡ None → (p c ≡ false) × (o ≡ None)
not-found-if p c o true e h = absurd (cc)
not-found-if p c o false e h = (e, h)

not-found : (p : ImageClass → Bool) (cs : List ImageClass) → find p cs ≡ None → AllByRecursion (λ c. p c ≡ false) cs
not-found p [] e = tt
not-found p (c ∷ cs) e = let w = not-found-if p c (find p cs) (p c) refl e in (w.0, not-found p cs w.1)

-- the result of each test if no class holds
pub classes-clean : (format : ℕ) (b : List ℕ) → AreSmall (bytes_of b) → class_of format b ≡ None
    → IsFramed format b × IsLateClean format (bytes_of b) (tiles_in b)
classes-clean format b s h =
    let m : Memory = bytes_of b in
    let a = not-found (class_holds format b) classes h in
    let early : IsEarlyClean format b =
    record {
      truncated = a.0;
      magic = a.1.0;
      version = a.1.1.0;
      size = a.1.1.1.0;
      reserved = a.1.1.1.1.0;
      tags = a.1.1.1.1.1.0;
      free_tree = a.1.1.1.1.1.1.0;
    } in
    let fr = clean-framed format b s early in
    let us : List Tile = tiles_of m (size_word b) in
    let there : us ≡ tiles_in b = ap (tiles_of m) fr.size in
    let tiled : IsTrue (is_tiled format b) = not-false (is_tiled format b) early.tags in
    let late = a.1.1.1.1.1.1.1 in
    let index = not-false (has_indexes m us) (second-fails (is_tiled format b) (not (has_indexes m us)) tiled late.0) in
    let object = not-false (has_objects format m us)
    (second-fails (is_tiled format b) (not (has_objects format m us)) tiled late.1.0) in
    let share = second-fails (is_tiled format b) (is_shared format m us) tiled late.1.1.0 in
    let container = not-false (has_containers format m us)
    (second-fails (is_tiled format b) (not (has_containers format m us)) tiled late.1.1.1.0) in
    let orphan = second-fails (is_tiled format b) (is_orphaned format m us) tiled late.1.1.1.1.0 in (
      fr,
      record {
        indexes = subst (λ vs. IsTrue (has_indexes m vs)) there index;
        objects = subst (λ vs. IsTrue (has_objects format m vs)) there object;
        unshared = subst (λ vs. is_shared format m vs ≡ false) there share;
        containers = subst (λ vs. IsTrue (has_containers format m vs)) there container;
        owned = subst (λ vs. is_orphaned format m vs ≡ false) there orphan;
      },
    )
