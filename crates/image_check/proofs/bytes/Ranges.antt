-- A list over the numbers of a range, up to one of them and from there on.
use Rattle.image_check.proofs.Common.{List, [], add-one, and_from, and_parts, ap, arith, cases_Bool, false, list_all}
use Rattle.image_check.proofs.Common.{map, range_with_len, refl, subst, suc, sym, true, zero, ℕ, ◌&&◌, ◌++◌, ◌+◌, ◌<◌}
use Rattle.image_check.proofs.Common.{◌∙◌, ◌∷◌, ◌≡◌}
use Rattle.std.proofs.Common.{Bool}
use mathlib.Core.Logic.{inl, inr}

-- the elements after the one with a number
pub record IsSplit {X : Type 0} (f : ℕ → X) (a i n j : ℕ) : Type 0 where
  pub back : List X
  pub all : map f (range_with_len a n) ≡ map f (range_with_len a i) ++ f j ∷ back

-- a range splits at a number
pub split : {X : Type 0} (f : ℕ → X) (a i n j : ℕ) → a + i ≡ j → i < n → IsSplit f a i n j
split f a i zero j e l = absurd (omega arith)
split f a zero (suc n) j e l = let g : a ≡ j = omega arith
    in record { back = map f (range_with_len (a + 1) n); all = ap (λ x. f x ∷ map f (range_with_len (a + 1) n)) g }
split f a (suc i) (suc n) j e l = let r = split f (a + 1) i n j (omega arith) (omega arith)
    in record { back = r.back; all = ap (λ ys. f a ∷ ys) r.all }

-- ---- a test of the numbers of a range

-- one more number
pub all-further : (p : ℕ → Bool) (a i j : ℕ) → a + i ≡ j → list_all p (range_with_len a i) ≡ true → p j ≡ true
    → list_all p (range_with_len a (i + 1)) ≡ true
all-further p a i j e h k = subst (λ n. list_all p (range_with_len a n) ≡ true) (sym (add-one i)) (further a i e h)
  where
    further : (a i : ℕ) → a + i ≡ j → list_all p (range_with_len a i) ≡ true
        → list_all p (range_with_len a (suc i)) ≡ true
    further a zero e h = let g : j ≡ a = omega arith in and_from (p a) true (ap p (sym g) ∙ k) refl
    further a (suc i) e h = let q = and_parts (p a) (list_all p (range_with_len (a + 1) i)) h
        in and_from (p a) (list_all p (range_with_len (a + 1) (suc i))) q.0 (further (a + 1) i (omega arith) q.1)

-- one element that fails
pub all-broken : (p : ℕ → Bool) (a i n j : ℕ) → a + i ≡ j → i < n → p j ≡ false
    → list_all p (range_with_len a n) ≡ false
all-broken p a i zero j e l h = absurd (omega arith)
all-broken p a zero (suc n) j e l h = let g : j ≡ a = omega arith
    in ap (λ b. b && list_all p (range_with_len (a + 1) n)) (ap p (sym g) ∙ h)
all-broken p a (suc i) (suc n) j e l h = elim (cases_Bool (p a)) [
  | inl f ↦ ap (λ b. b && list_all p (range_with_len (a + 1) n)) f
      ∙ all-broken p (a + 1) i n j (omega arith) (omega arith) h
  | inr f ↦ ap (λ b. b && list_all p (range_with_len (a + 1) n)) f
]

-- a test of the images of a list
pub all-map : (p : ℕ → Bool) (f : ℕ → ℕ) (xs : List ℕ) → list_all p (map f xs) ≡ list_all (λ x. p (f x)) xs
all-map p f [] = refl
all-map p f (x ∷ xs) = ap (λ b. p (f x) && b) (all-map p f xs)
