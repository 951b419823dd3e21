-- Texts one after another, with the length of each.
use Rattle.std.specs.Prelude.{ℕ, ◌+◌, List, [], ◌∷◌, drop, take}

-- a text, cut by lengths
abbrev pub parts : List ℕ → List ℕ → List (List ℕ)
parts [] bs = []
parts (n ∷ ns) bs = take n bs ∷ parts ns (drop n bs)

-- the sum of the lengths
abbrev pub total : List ℕ → ℕ
total [] = 0
total (n ∷ ns) = n + total ns
