-- One more element at the end of a list.
use Rattle.std.proofs.Common.{◌≡◌, ℕ, ℤ, List, [], ◌∷◌, ◌++◌, map, sym, ap, ◌∙◌, append_assoc, append-nil}
use Rattle.std.proofs.lemmas.List.{map-append}
use Rattle.std.proofs.lemmas.Grind.{flat_map-append}
use Rattle.std.specs.List.{AllByRecursion}
use Rattle.seg_types.specs.declared.kinds.ScalarKind.{ScalarKind}
use Rattle.seg_types.specs.Kinds.{spelling}
use Rattle.seg_vector.specs.Vector.{spelled}

spelled-more : (k : ScalarKind) (zs : List ℤ) (z : ℤ) → spelled k (zs ++ z ∷ []) ≡ spelled k zs ++ spelling k z
spelled-more k zs z = flat_map-append (spelling k) zs (z ∷ []) ∙ ap (λ l. spelled k zs ++ l) (append-nil (spelling k z))

-- the bytes of one more value are read
pub scalars_more : {A : Type 0} (whole : A → ℤ) (k : ScalarKind) (bytes : List ℕ) (row : List A) (x : A)
    (left rest : List ℕ) → bytes ≡ spelled k (map whole row) ++ left → left ≡ spelling k (whole x) ++ rest
    → bytes ≡ spelled k (map whole (row ++ x ∷ [])) ++ rest
scalars_more whole k bytes row x left rest e f =
    e ∙ ap (λ l. spelled k (map whole row) ++ l) f
    ∙ sym (append_assoc (spelled k (map whole row)) (spelling k (whole x)) rest)
    ∙ ap (λ l. l ++ rest) (sym (ap (spelled k) (map-append whole row (x ∷ []))
    ∙ spelled-more k (map whole row) (whole x)))

-- all of a list with one more
pub all_more : {A : Type 0} (P : A → Type 0) (xs : List A) (x : A) → AllByRecursion P xs → P x
    → AllByRecursion P (xs ++ x ∷ [])
all_more P [] x a p = (p, tt)
all_more P (y ∷ ys) x a p = (a.0, all_more P ys x a.1 p)

-- all images of a list with one more
pub map_more : {A B : Type 0} (P : B → Type 0) (f : A → B) (xs : List A) (x : A) → AllByRecursion P (map f xs) → P (f x)
    → AllByRecursion P (map f (xs ++ x ∷ []))
map_more P f [] x a p = (p, tt)
map_more P f (y ∷ ys) x a p = (a.0, map_more P f ys x a.1 p)
