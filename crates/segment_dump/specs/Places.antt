-- Where a byte of a text stands: in which line, and where in it.
use Rattle.std.specs.{Prelude.ℕ, Prelude.◌+◌, Prelude.List, Prelude.◌==◌, Prelude.if◌then◌else◌, List.fold}

-- after one byte more: the line and the column after it, each from 1 on
abbrev pub behind_byte : ℕ × ℕ → ℕ → ℕ × ℕ
behind_byte (line, column) byte = if byte == 0x0A then (line + 1, 1) else (line, column + 1)

-- the line and the column of the byte that stands after these
abbrev pub line_column_behind : List ℕ → ℕ × ℕ
line_column_behind bytes = fold behind_byte (1, 1) bytes
