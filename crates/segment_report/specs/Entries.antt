-- Lines of a word and a number.
use Rattle.std.specs.Prelude.{ℕ, List, [], ◌∷◌, ◌++◌, decimal}
use denote.Ref.{Bor}

-- the word, a blank, the number, and the end of the line
abbrev pub entry_line : List ℕ → ℕ → List ℕ
entry_line key number = key ++ 0x20 ∷ decimal number ++ 0x0A ∷ []

-- a word and a number, as a line
abbrev pub entry_text : Bor (List ℕ) × ℕ → List ℕ
entry_text e = entry_line e.0.now e.1
