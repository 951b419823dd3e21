-- A turn of a loop that folds a list.
use Rattle.std.proofs.Common.{◌≡◌, ◌≤◌, ◌-◌, ◌∷◌, ◌∙◌, [], List, ap, arith, drop, fold, get_or, length, map}
use Rattle.std.proofs.Common.{take, take_all}

-- the first of what is left is taken
pub first_taken : {A B S : Type 0} (f : S → B → S) (g : A → B) {s t : S} (d : A) (rest : List A) → 1 ≤ length rest
    → t ≡ f s (g (get_or rest 0 d))
    → fold f t (map g (take (length rest - 1) (drop 1 rest))) ≡ fold f s (map g rest)
first_taken f g d [] l e = absurd (omega arith)
first_taken f g {s} d (x ∷ xs) l e =
    ap (λ u. fold f u (map g (take (length (x ∷ xs) - 1) xs))) e
    ∙ ap (λ ys. fold f (f s (g x)) (map g ys)) (take_all (length (x ∷ xs) - 1) xs (omega arith))
