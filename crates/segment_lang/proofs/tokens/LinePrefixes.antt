-- A line of which no more than this many bytes are kept.
use Rattle.std.proofs.Common.{◌≡◌, ℕ, ◌<◌, ◌≤◌, List, ◌++◌, length, take, ◌⊎◌, inl, inr, sym, ap, ◌∙◌, arith}
use Rattle.std.proofs.lemmas.Bool.{cases_lt}
use Rattle.std.proofs.lemmas.List.{take_all, take_at, length-take-le, take-append-le}

-- a number is at most another, or more
pub at_most_or_more : (a b : ℕ) → (a ≤ b) ⊎ (b < a)
at_most_or_more a b = elim (cases_lt b a) [ inl h ↦ inr h | inr h ↦ inl h ]

-- what was dropped makes no difference to what is kept
pub kept-append : (n : ℕ) (xs more : List ℕ) → take n (take n xs ++ more) ≡ take n (xs ++ more)
kept-append n xs more = elim (at_most_or_more (length xs) n) [
  | inl h ↦ ap (λ (l : List ℕ). take n (l ++ more)) (take_all n xs h)
  | inr h ↦ let k : n ≤ length xs = omega arith in
      take_at (take n xs) more n (length-take-le n xs k) ∙ sym (take-append-le n xs more k)
]

-- more bytes of a line that is kept so far
pub kept_more : (n : ℕ) (line all more : List ℕ) → line ≡ take n all → take n (line ++ more) ≡ take n (all ++ more)
kept_more n line all more e = ap (λ (l : List ℕ). take n (l ++ more)) e ∙ kept-append n all more
