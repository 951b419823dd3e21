-- The three formats of a segment's layout. Definitions take the format as a number, and contracts use the current one.
use Rattle.std.specs.Prelude.{ℕ}

-- The format that the calls write. Only a proof that unfolds it sees the number.
unfoldable pub current : ℕ
current = 2
