-- The state of an allocation after a `&mut` into it has ended.
use Rattle.std.specs.Prelude.{ℕ, List}
use Rattle.std.specs.Borrow.{Fml, MutBor, Array, Lends, u8}
use Rattle.std.specs.List.{refill}
use Rattle.raw_region.specs.Memory.{part, patched}
use Rattle.raw_region.specs.contracts.allocation.Allocation.{the_row}

-- the loan of an allocation ends with the bytes that were written to the len bytes from an offset on
abbrev pub LendsAllocated : MutBor (List ℕ) → ℕ → ℕ → MutBor (List ℕ) → Fml
LendsAllocated s from len r = Lends the_row (Array u8 0) s r (λ ws.
    patched s.now from (refill len (part s.now from len) ws))
