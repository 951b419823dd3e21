-- Notes after a dump, which a load leaves out: lines that begin with '#', at the end of a text.
use Rattle.std.specs.Prelude.{◌≡◌, ◌<◌, ◌≤◌, ℕ, Bool, true, false, ◌&&◌, not, List, [], ◌∷◌, ◌==◌, length, take, drop}
use Rattle.std.specs.Prelude.{if◌then◌else◌}

-- whether these bytes are notes and nothing else, from the start of a line or from the midst of a note on
abbrev pub are_notes : Bool → List ℕ → Bool
are_notes start [] = start
are_notes true (c ∷ cs) = (c == 0x23) && are_notes false cs
are_notes false (c ∷ cs) = are_notes (c == 0x0A) cs

-- up to the start of the first line from which on there are only notes
abbrev pub before_notes : Bool → List ℕ → List ℕ
before_notes start [] = []
before_notes true (c ∷ cs) = if are_notes true (c ∷ cs) then [] else c ∷ before_notes (c == 0x0A) cs
before_notes false (c ∷ cs) = c ∷ before_notes (c == 0x0A) cs

-- the text without the lines at its end that begin with '#'
abbrev pub without_notes : List ℕ → List ℕ
without_notes text = before_notes true text

-- ---- the last line of a text

-- after these bytes a line starts, if one started before them or not
abbrev pub ends_line : Bool → List ℕ → Bool
ends_line start [] = start
ends_line start (c ∷ cs) = ends_line (c == 0x0A) cs

-- no line ends in these bytes but after the last one
abbrev pub is_line : List ℕ → Bool
is_line [] = true
is_line (c ∷ []) = true
is_line (c ∷ d ∷ ds) = not (c == 0x0A) && is_line (d ∷ ds)

-- the last line starts at an offset
pub record IsLastLine (text : List ℕ) (at : ℕ) : Type 0 where
  pub inside : at ≤ length text
  pub starts : ends_line true (take at text) ≡ true
  pub line : is_line (drop at text) ≡ true
  pub some : 0 < length text → at < length text
