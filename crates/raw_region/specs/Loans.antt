-- The state of a block after a `&mut` into it has ended.
use Rattle.std.specs.Prelude.{ℕ, List}
use Rattle.std.specs.Borrow.{Fml, MutBor, Array, Lends, u8}
use Rattle.std.specs.List.{refill}
use Rattle.raw_region.specs.Memory.{part, patched}
use Rattle.raw_region.specs.declared.block.Block.{Block}
use Rattle.raw_region.specs.contracts.block.Block.{the_row}

-- b with its len bytes from an offset on replaced by ws
abbrev pub rewritten : Block → ℕ → ℕ → List ℕ → Block
rewritten b from len ws = record {
  place = b.place;
  items = patched b.items from (refill len (part b.items from len) ws);
}

-- if r ends as ws, b ends with ws at its len bytes from an offset on
abbrev pub lends_part : MutBor Block → ℕ → ℕ → MutBor (List ℕ) → Fml
lends_part b from len r = Lends the_row (Array u8 0) b r (rewritten b.now from len)
