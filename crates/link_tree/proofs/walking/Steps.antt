-- Steps over the items of a list and of its parts.
use Rattle.std.proofs.Common.{ℕ, List, [], ◌∷◌, ◌++◌, sym, subst}
use Rattle.std.specs.List.{FoldsTo}

-- a fold over a list is a fold over its front, a step, and a fold over its rest
pub folds_join : {P : Type 0} (R : P → ℕ → P → Type 0) (p : P) (xs : List ℕ) (a : P) (n : ℕ) (b : P) (ys : List ℕ)
    (q : P) → FoldsTo R p xs a → R a n b → FoldsTo R b ys q → FoldsTo R p (xs ++ n ∷ ys) q
folds_join R p [] a n b ys q e step more = (b, subst (λ x. R x n b) (sym e) step, more)
folds_join R p (x ∷ xs) a n b ys q f step more = (f.0, f.1, folds_join R f.0 xs a n b ys q f.2 step more)
