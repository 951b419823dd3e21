-- The legal sizes of a segment.
use Rattle.std.specs.Prelude.{ℕ, ◌%◌, Bool, ◌&&◌, ◌||◌, ◌==◌, nat_le}

-- whether the size is 144 bytes, or a multiple of 16 from 176 to 2 ^ 30
abbrev pub is_legal_size : ℕ → Bool
is_legal_size size = (size == 144) || ((size % 16 == 0) && nat_le 176 size && nat_le size 1073741824)
