-- The list without its first node begins one place on.
use Rattle.std.proofs.Common.{◌≡◌, refl, ap, ◌∙◌, ℕ, zero, suc, ◌+◌, List, [], ◌∷◌, drop, arith}
use Rattle.segment_views.proofs.maps.NodesAhead.skip.Goals as goal

one-on : (n : ℕ) (xs : List ℕ) → drop (suc n) xs ≡ drop 1 (drop n xs)
one-on zero xs = refl
one-on (suc n) [] = refl
one-on (suc n) (x ∷ xs) = one-on n xs

behind : (n : ℕ) (xs : List ℕ) → drop (n + 1) xs ≡ drop 1 (drop n xs)
behind n xs = let next : n + 1 ≡ suc n = omega arith in ap (λ m. drop m xs) next ∙ one-on n xs

pub returns-then-self : goal.returns-then-self
returns-then-self c = behind c.self.inside.at _ ∙ ap (drop 1) c.self.view_is
