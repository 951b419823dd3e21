-- The errors of a line, each with its number and its text.
use Rattle.std.specs.Prelude.{ℕ, List, codes}
use Rattle.seg_types.specs.declared.refusals.LineError.{LineError}
use Rattle.seg_types.specs.declared.refusals.LineError.TheVariants.{UnknownCommand, LineTooLong, BadSyntax}
use Rattle.seg_types.specs.declared.refusals.Refusal.{Refusal}
use Rattle.seg_types.specs.declared.refusals.Refusal.TheVariants.{ReadOnly, Exists, NotFound}
use Rattle.seg_types.specs.declared.refusals.Refusal.TheVariants.{WrongKind, OutOfRange, NoSpace}

-- ---- 1 to 3: a line is no command

-- the number of a line's error, 1 to 3
abbrev pub line_error_number : LineError → ℕ
line_error_number UnknownCommand = 1
line_error_number LineTooLong = 2
line_error_number BadSyntax = 3

-- the text of a line's error
abbrev pub line_error_message : LineError → List ℕ
line_error_message UnknownCommand = codes "unknown command"
line_error_message LineTooLong = codes "line too long"
line_error_message BadSyntax = codes "bad syntax"

-- ---- 4 to 9: a command is refused

-- the number of a refusal, 4 to 9
abbrev pub refusal_number : Refusal → ℕ
refusal_number ReadOnly = 4
refusal_number Exists = 5
refusal_number NotFound = 6
refusal_number WrongKind = 7
refusal_number OutOfRange = 8
refusal_number NoSpace = 9

-- the text of a refusal
abbrev pub refusal_message : Refusal → List ℕ
refusal_message ReadOnly = codes "read only"
refusal_message Exists = codes "already exists"
refusal_message NotFound = codes "not found"
refusal_message WrongKind = codes "wrong kind"
refusal_message OutOfRange = codes "out of range"
refusal_message NoSpace = codes "no space"
