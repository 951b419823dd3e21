-- The output of a script, and the last directory.
use Rattle.std.specs.Prelude.{ℕ, List, [], ◌∷◌, ◌++◌, ◌==◌, if◌then◌else◌}
use Rattle.std.specs.Fmt.{digits}
use Rattle.seg_types.specs.Commands.{Reading, Nothing, Asked, UnknownCommand, LineTooLong, BadSyntax}
use Rattle.seg_types.specs.declared.refusals.LineError.{LineError}
use Rattle.seg_types.specs.declared.refusals.LineError.TheVariants as wrong
use Rattle.segment_lang.specs.Texts.{line_error_text}
use Rattle.segment_lang.specs.Language.{Language}
use Rattle.segment_lang.specs.Reading.{reading}
use Rattle.segment_manager.specs.declared.modes.Mode.{Mode}
use Rattle.segment_manager.specs.Directory.{Directory}
use Rattle.segment_manager.specs.Step.{step}
use Rattle.segment_scripts.specs.Answer.{line, answer_text}

-- a byte in front of the first line
abbrev pub onto_first : ℕ → List (List ℕ) → List (List ℕ)
onto_first c [] = (c ∷ []) ∷ []
onto_first c (l ∷ ls) = (c ∷ l) ∷ ls

-- the lines of a script, without their ends; after the last end there is a line only if bytes follow
abbrev pub lines : List ℕ → List (List ℕ)
lines [] = []
lines (c ∷ cs) = if c == 0x0A then [] ∷ lines cs else onto_first c (lines cs)

-- the line of an error
abbrev pub error_line : LineError → List ℕ
error_line e = line (line_error_text e ∷ [])

-- the output for a line, and the directory after it
abbrev pub respond : Mode → Directory → Reading → List ℕ × Directory
respond mode d Nothing = ([], d)
respond mode d (Asked c) = let done = step mode d c in (answer_text done.0, done.1)
respond mode d UnknownCommand = (error_line wrong.UnknownCommand, d)
respond mode d LineTooLong = (error_line wrong.LineTooLong, d)
respond mode d BadSyntax = (error_line wrong.BadSyntax, d)

-- the output for a list of lines, and the last directory
abbrev pub run_lines : Language → Mode → Directory → List (List ℕ) → List ℕ × Directory
run_lines language mode d [] = ([], d)
run_lines language mode d (l ∷ ls) =
    let first = respond mode d (reading language l) in
    let rest = run_lines language mode first.1 ls in
    (first.0 ++ rest.0, rest.1)

-- the output for a script, and the last directory
unfoldable pub run : Language → Mode → Directory → List ℕ → List ℕ × Directory
unfolding step reading digits
run language mode d script = run_lines language mode d (lines script)
