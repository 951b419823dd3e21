-- How the parts of an answer are printed. What of values, names and kinds is printed, is said where they are.
use Rattle.std.specs.Prelude.{ℕ, List, ◌∷◌, ◌++◌, decimal, codes}
use Rattle.seg_types.specs.declared.refusals.Refusal.{Refusal}
use Rattle.seg_types.specs.declared.refusals.LineError.{LineError}
use Rattle.seg_types.specs.Refusals.{line_error_number, line_error_message, refusal_number, refusal_message}
pub use Rattle.seg_types.specs.Texts.{digit_text, item_text, kind_text, name_text, quoted_text, scalar_text, value_text}

-- how a number is printed
abbrev pub number_text : ℕ → List ℕ
number_text n = decimal n

-- ---- errors: 1 to 3 if a line is no command, 4 to 9 if a command is refused

-- the word error, a number, and words
abbrev pub error_text : ℕ → List ℕ → List ℕ
error_text n message = codes "error " ++ number_text n ++ 0x20 ∷ message

-- how an error of a line is printed
abbrev pub line_error_text : LineError → List ℕ
line_error_text e = error_text (line_error_number e) (line_error_message e)

-- how a refusal is printed
abbrev pub refusal_text : Refusal → List ℕ
refusal_text r = error_text (refusal_number r) (refusal_message r)
