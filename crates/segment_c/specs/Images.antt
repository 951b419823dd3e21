-- How segments are open, and what is copied out.
use Rattle.std.specs.Prelude.{◌≡◌, ◌<◌, ◌≤◌, ℕ, ◌==◌, nat_le, List, ◌++◌, length, drop, if◌then◌else◌}
use Rattle.segment_manager.specs.declared.modes.Mode.{Mode}
use Rattle.segment_manager.specs.declared.modes.Mode.TheVariants.{Write, ReadOnly, CopyOnWrite}

-- 0 is for writing, 1 for reading, 2 for writing of which nothing is saved
abbrev pub mode_wrong : ℕ → ℕ
mode_wrong n = if nat_le n 2 then 0 else 23

-- the mode of a number
abbrev pub mode_of : ℕ → Mode
mode_of n = if n == 0 then Write else if n == 1 then ReadOnly else CopyOnWrite

-- the number of a mode
abbrev pub mode_code : Mode → ℕ
mode_code Write = 0
mode_code ReadOnly = 1
mode_code CopyOnWrite = 2

-- the bytes stand at the front of a buffer, if it has room for them
abbrev pub CopiesOut : List ℕ → List ℕ → List ℕ → ℕ → Type 0
CopiesOut bytes old new code =
    (length bytes ≤ length old → (code ≡ 0) × (new ≡ bytes ++ drop (length bytes) old))
    × (length old < length bytes → code ≡ 24)
