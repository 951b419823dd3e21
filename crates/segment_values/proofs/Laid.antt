-- Elements that are laid out one after another.
use Rattle.std.proofs.Common.{◌≡◌, ℕ, zero, suc, List, [], ◌∷◌, ◌++◌, length, map, refl, sym, ap, ◌∙◌, append_assoc}
use Rattle.std.proofs.Common.{append-nil, slice_get}
use Rattle.std.specs.List.{flat_map}
use Rattle.segment_manager.specs.Parts.{part_of, parts_until}
use Rattle.segment_values.specs.Layouts.{laid_from}

-- the first part stands in front
parts-front : (part : ℕ → List ℕ) (n : ℕ) → parts_until part (suc n) ≡ part 0 ++ parts_until (λ i. part (suc i)) n
parts-front part zero = sym (append-nil (part 0))
parts-front part (suc n) = ap (λ l. l ++ part (suc n)) (parts-front part n)
    ∙ append_assoc (part 0) (parts_until (λ i. part (suc i)) n) (part (suc n))

-- from the next place on
laid-next : {X : Type 0} (f : ℕ → X → List ℕ) (n : ℕ) (xs : List X)
    → laid_from f (suc n) xs ≡ laid_from (λ i. f (suc i)) n xs
laid-next f n [] = refl
laid-next f n (x ∷ xs) = ap (λ l. f (suc n) x ++ l) (laid-next f (suc n) xs)

-- a part for each element of a list
pub parts-laid : {X : Type 0} (f : ℕ → X → List ℕ) (xs : List X)
    → parts_until (λ i. part_of (f i) (slice_get xs i)) (length xs) ≡ laid_from f 0 xs
parts-laid f [] = refl
parts-laid f (x ∷ xs) = parts-front (λ i. part_of (f i) (slice_get (x ∷ xs) i)) (length xs)
    ∙ ap (λ l. f 0 x ++ l) (parts-laid (λ i. f (suc i)) xs ∙ sym (laid-next f 0 xs))

-- of what is made of each
pub laid-made : {X Y : Type 0} (f : ℕ → Y → List ℕ) (g : X → Y) (n : ℕ) (xs : List X)
    → laid_from f n (map g xs) ≡ laid_from (λ i x. f i (g x)) n xs
laid-made f g n [] = refl
laid-made f g n (x ∷ xs) = ap (λ l. f n (g x) ++ l) (laid-made f g (suc n) xs)

-- wherever they stand
pub laid-flat : {X : Type 0} (f : X → List ℕ) (n : ℕ) (xs : List X) → laid_from (λ i x. f x) n xs ≡ flat_map f xs
laid-flat f n [] = refl
laid-flat f n (x ∷ xs) = ap (λ l. f x ++ l) (laid-flat f (suc n) xs)
