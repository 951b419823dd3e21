-- The state of a window after a `&mut` into it has ended.
use Rattle.std.specs.Prelude.{ℕ, List}
use Rattle.std.specs.Borrow.{Fml, MutBor, Array, Lends, u8}
use Rattle.std.specs.List.{refill}
use Rattle.raw_region.specs.Memory.{WindowState, part, patched}
use Rattle.raw_region.specs.Regions.{with_bytes}
use Rattle.raw_region.specs.contracts.window.Window.{the_row}

-- w ends with the bytes that were written to its len bytes from an offset on
abbrev pub LendsWindowPart : MutBor WindowState → ℕ → ℕ → MutBor (List ℕ) → Fml
LendsWindowPart w from len r =
    Lends the_row (Array u8 0) w r (λ ws.
    with_bytes w.now (patched w.now.bytes from (refill len (part w.now.bytes from len) ws)))
