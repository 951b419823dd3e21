-- Numbered lines: the number stands in front of each line, up to a blank.
use Rattle.std.specs.Prelude.{◌≡◌, ◌==◌, ◌++◌, ℕ, Bool, true, false, not, List, [], ◌∷◌, codes, decimal, fold}
use Rattle.std.specs.Prelude.{if◌then◌else◌}
use Rattle.segment_answers.specs.declared.numbered_output.LineSpot.{LineSpot}
use Rattle.segment_answers.specs.declared.numbered_output.LineSpot.TheVariants.{LineStart, Ahead, Inside, Broken}

-- whether the next byte is one of a line's text, after this one
abbrev pub next_in_text : Bool → ℕ → Bool
next_in_text true c = not (c == 0x0A)
next_in_text false c = c == 0x20

-- these bytes end in the text of a line
abbrev pub is_in_text : Bool → List ℕ → Bool
is_in_text = fold next_in_text

-- the bytes without the numbers
abbrev pub text_part : Bool → List ℕ → List ℕ
text_part text [] = []
text_part true (c ∷ cs) = c ∷ text_part (next_in_text true c) cs
text_part false (c ∷ cs) = text_part (next_in_text false c) cs

-- whether a line's number is written
abbrev pub has_number : LineSpot → Bool
has_number LineStart = false
has_number Ahead = true
has_number Inside = true
has_number Broken = false

-- what goes out before a byte that stands there: the number of the line that it begins
abbrev pub number_at : LineSpot → ℕ → List ℕ
number_at LineStart n = decimal n ++ codes ": "
number_at Ahead n = []
number_at Inside n = []
number_at Broken n = []
