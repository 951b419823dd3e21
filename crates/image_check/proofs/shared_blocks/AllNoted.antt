-- All links that count are entered, pass after pass.
use Rattle.image_check.proofs.Common.{AreIndexesNoted, ChecksClass, Err, HasTiles, IsIndexNoted}
use Rattle.image_check.proofs.Common.{IsSharedIn, IsUnmarked, IsWholeMarkingOf, List, Map}
use Rattle.image_check.proofs.Common.{EntersValues, Ok, Result, arith, bytes_of, is_shared, not, refl}
use Rattle.image_check.proofs.Common.{true, ℕ, ◌≡◌}
use Rattle.seg_types.specs.declared.kinds.Kind.TheVariants.{Strings}
use Rattle.image_check.specs.Passes.{tiles_in}
use Rattle.std.specs.Prelude.{OnOk}
use Rattle.image_check.specs.Owners.{FollowsAll}
use Rattle.image_check.proofs.shared_blocks.Meaning.{some-shared-in}
use mathlib.Core.Logic.{inl, inr}
use Rattle.image_check.specs.Owners.{MarksUnlessShared}
use Rattle.image_check.specs.Owners.{OwnerState}

-- both indexes are entered
pub indexes-noted : (format : ℕ) (b : List ℕ) (old st fs : OwnerState) → IsUnmarked (tiles_in b) old.entries
    → IsIndexNoted format b 32 old st → IsIndexNoted format b 56 st fs
    → AreIndexesNoted format b fs
indexes-noted format b old st fs u x y = record {
  marking = y.grown.marking;
  named = λ p n l. y.grown.keeps n _ (x.noted p n l);
  unique = λ p. y.noted p;
  front = λ n o e. elim (y.grown.only n o e) [
    | inl f ↦ elim (x.grown.only n o f) [ inl g ↦ (let z = u.none n in absurd (cc)) | inr g ↦ omega arith ]
    | inr f ↦ omega arith
  ];
}

-- all links are entered
pub whole : (format : ℕ) (b : List ℕ) (es fs gs : OwnerState) → AreIndexesNoted format b es
    → EntersValues format b es fs
    → FollowsAll format b fs gs → IsWholeMarkingOf format b gs
whole format b es fs gs x y z = record {
  marking = z.marking;
  none = z.none;
  named = λ p n l. z.keeps n _ (y.keeps n _ (x.named p n l));
  unique = λ p n l. z.keeps n _ (y.keeps n _ (x.unique p n l));
  storage = λ k at v h p n l. z.keeps n _ ((y.noted k at v).storage h p n l);
  element = λ array i at v p g l r n k. z.keeps n _ ((y.noted Strings at v).element refl array i p g l r n k);
  root = λ k v at c n l. z.keeps n _ ((y.noted (Map k v) at c).root k v refl n l);
}

-- the result of the pass is the result of the test
pub finds-from : {A : Type 0} (format : ℕ) (b : List ℕ) (P : Type 0) (r : Result A ℕ) → HasTiles b
    → MarksUnlessShared format b P r → (P → not (is_shared format (bytes_of b) (tiles_in b)) ≡ true)
    → ChecksClass (not (is_shared format (bytes_of b) (tiles_in b))) (IsSharedIn format b) r
finds-from format b P (Ok x) h m f = f m
finds-from format b P (Err x) h m f = (some-shared-in format b x h m, m)

-- the consequence of a success
pub on-ok : {A : Type 0} (format : ℕ) (b : List ℕ) (P R : Type 0) (r : Result A ℕ) → MarksUnlessShared format b P r
    → (P → R) → OnOk r R
on-ok format b P R (Ok x) m f = f m
on-ok format b P R (Err x) m f = tt
