-- The lines of a script of which some bytes were read, and which of them may be executed.
use Rattle.std.specs.Prelude.{ℕ, ◌==◌, ◌||◌, ◌&&◌, nat_lt, nat_le, if◌then◌else◌, List, [], ◌∷◌, length, take, drop}
use Rattle.raw_region.specs.Device.{ReadDelta}
use Rattle.segment_scripts.specs.Run.{lines}

-- the most bytes that a script may have
abbrev pub script_limit : ℕ
script_limit = 16777216

-- the bytes up to the last line end among them
abbrev pub whole_lines : List ℕ → List ℕ
whole_lines [] = []
whole_lines (c ∷ cs) = if (c == 0x0A) || nat_lt 0 (length (whole_lines cs)) then c ∷ whole_lines cs else []

-- the lines that ended
unfoldable pub ended_lines : List ℕ → List (List ℕ)
ended_lines bytes = lines (whole_lines bytes)

-- the bytes after the last line end
unfoldable pub open_line : List ℕ → List ℕ
open_line bytes = drop (length (whole_lines bytes)) bytes

-- the lines that can be executed: those that ended within the limit and, if the script ended within it, the last line
abbrev pub executable : ReadDelta → List (List ℕ)
executable script =
    if script.ended && nat_le (length script.bytes) script_limit then lines script.bytes
    else lines (whole_lines (take script_limit script.bytes))
