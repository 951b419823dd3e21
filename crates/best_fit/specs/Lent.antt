-- The state of a heap after a `&mut` into a block has ended.
use Rattle.std.specs.Prelude.{ℕ, List}
use Rattle.std.specs.Borrow.{Fml, MutBor, Array, Lends, u8}
use Rattle.raw_region.specs.Memory.{WindowState}
use Rattle.best_fit.specs.Heap.{with_payload}
use Rattle.best_fit.specs.contracts.heap.Heap.{the_row}

-- the heap ends with the bytes that were written to the payload of a block
abbrev pub LendsBlock : MutBor WindowState → ℕ → MutBor (List ℕ) → Fml
LendsBlock s h r = Lends the_row (Array u8 0) s r (with_payload s.now h)
