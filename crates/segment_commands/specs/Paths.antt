-- How a path is printed.
use Rattle.std.specs.Prelude.{ℕ, ◌==◌, Bool, false, List, [], ◌∷◌, if◌then◌else◌}
use Rattle.segment_lang.specs.Texts.{quoted_text}

-- a text of the language; after a byte 0, which no path has, the text of a path that is no UTF-8
abbrev pub path_text : List ℕ → List ℕ
path_text [] = quoted_text []
path_text (c ∷ cs) = if c == 0 then cs else quoted_text (c ∷ cs)

-- a word stands for a path that is no UTF-8
abbrev pub stands_in : List ℕ → Bool
stands_in [] = false
stands_in (c ∷ cs) = c == 0
