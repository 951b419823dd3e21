-- The reports about the wrong lines of a script.
use Rattle.std.specs.Prelude.{◌≡◌, ℕ, ◌+◌, ◌-◌, Bool, true, false, not, min, List, [], ◌∷◌, ◌++◌, length, take, decimal}
use Rattle.std.specs.Prelude.{codes, if◌then◌else◌}
use Rattle.raw_region.specs.Format.{current}
use Rattle.seg_types.specs.Commands.{Reading, Nothing, Asked, UnknownCommand, LineTooLong, BadSyntax}
use Rattle.seg_types.specs.declared.refusals.LineError.{LineError}
use Rattle.seg_types.specs.declared.refusals.LineError.TheVariants as wrong
use Rattle.segment_lang.specs.Language.{whole_language}
use Rattle.segment_lang.specs.Reading.{reading, without_return}
use Rattle.segment_lang.specs.Seen.{is_wrong}
use Rattle.segment_lang.specs.Texts.{line_error_text}
use Rattle.segment_lang.specs.Lexing.{is_blank}
use Rattle.segment_scripts.specs.CommandRows.{usage_of}
use Rattle.segment_scripts.specs.declared.language.CommandRow.{CommandRow}

-- ---- where a line goes wrong

abbrev pub same : Bool → Bool → Bool
same true b = b
same false b = not b

-- the bytes without their leading blanks, or without their leading word
abbrev pub behind : Bool → List ℕ → List ℕ
behind blanks [] = []
behind blanks (c ∷ cs) = if same blanks (is_blank c) then behind blanks cs else c ∷ cs

-- the first word of a line
abbrev pub first_token : List ℕ → List ℕ
first_token line = let rest = behind true line in take (length rest - length (behind false rest)) rest

-- the bytes of a line from its second word on
abbrev pub arguments : List ℕ → List ℕ
arguments line = behind true (behind false (behind true line))

-- the column where a line is wrong, counted in bytes from 1: the column of the command word, of the first byte past the
-- limit, or of the arguments
abbrev pub column_of : LineError → List ℕ → ℕ
column_of wrong.UnknownCommand line = length line - length (behind true line) + 1
column_of wrong.LineTooLong line = 4097
column_of wrong.BadSyntax line = length line - length (arguments line) + 1

-- what the report says that it expected instead
abbrev pub expected : List CommandRow → LineError → List ℕ → List ℕ
expected rows wrong.UnknownCommand line = codes "a command"
expected rows wrong.LineTooLong line = codes "at most 4096 bytes"
expected rows wrong.BadSyntax line = usage_of rows (first_token line)

-- the report about a wrong line of the script: where it is wrong, why, and what was expected
abbrev pub finding_text : List CommandRow → ℕ → LineError → List ℕ → List ℕ
finding_text rows n e line =
    decimal n ++ (codes ":" ++ (decimal (column_of e line)
    ++ (codes ": " ++ (line_error_text e ++ (codes ": expected " ++ (expected rows e line ++ (codes "\n" ++ [])))))))

-- ---- line by line

-- the number of lines so far, whether one of them was wrong, and the table of commands
pub record LintState : Type 0 where
  pub line : ℕ
  pub found : Bool
  pub rows : List CommandRow

-- the state before the first line
abbrev pub start : List CommandRow → LintState
start rows = record { line = 0; found = false; rows = rows }

-- the state has these fields
abbrev pub is_at : ℕ → Bool → List CommandRow → LintState → Type 0
is_at line found rows at = (line ≡ at.line) × (found ≡ at.found) × (rows ≡ at.rows)

abbrev pub tells : LintState → LineError → List ℕ → List ℕ × LintState
tells at e line = (finding_text at.rows at.line e (without_return line), record at { found = true })

-- the line is wrong
abbrev pub misses_line : List ℕ → Bool
misses_line line = is_wrong (reading (whole_language current) line)

-- the report about a reading, and the next state
abbrev pub respond : LintState → List ℕ → Reading → List ℕ × LintState
respond at line Nothing = ([], at)
respond at line (Asked c) = ([], at)
respond at line UnknownCommand = tells at wrong.UnknownCommand line
respond at line LineTooLong = tells at wrong.LineTooLong line
respond at line BadSyntax = tells at wrong.BadSyntax line

-- the report about a line: nothing for a command, a comment or an empty line
abbrev pub lint_line : LintState → List ℕ → List ℕ × LintState
lint_line at line = respond (record at { line = min (at.line + 1) 18446744073709551615 }) line
    (reading (whole_language current) line)
