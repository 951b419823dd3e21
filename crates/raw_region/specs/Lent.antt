-- The state of a region after a `&mut` into it has ended.
use Rattle.std.specs.Prelude.{ℕ, List}
use Rattle.std.specs.Borrow.{Fml, MutBor, Array, Lends, u8}
use Rattle.std.specs.List.{refill}
use Rattle.raw_region.specs.Memory.{part, patched}
use Rattle.raw_region.specs.contracts.region.RawRegion.{the_row}

-- r ends with the bytes that were written to its len bytes from an offset on
abbrev pub LendsPart : MutBor (List ℕ) → ℕ → ℕ → MutBor (List ℕ) → Fml
LendsPart s from len r = Lends the_row (Array u8 0) s r (λ ws. patched s.now from (refill len (part s.now from len) ws))
