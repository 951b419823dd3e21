-- Texts of numbered parts, one after another, and the text of an optional value.
use Rattle.std.specs.Prelude.{ℕ, zero, suc, Option, Some, None, List, [], ◌++◌}

-- the first n parts
abbrev pub parts_until : (ℕ → List ℕ) → ℕ → List ℕ
parts_until part zero = []
parts_until part (suc n) = parts_until part n ++ part n

-- the text of a value, or nothing if there is none
abbrev pub part_of : {X : Type 0} → (X → List ℕ) → Option X → List ℕ
part_of text None = []
part_of text (Some x) = text x
