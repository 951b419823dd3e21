-- The memory that an owner can free.
use Rattle.std.specs.Prelude.{ℕ}
use denote.RawPtr.{Ptr}

-- the address of the memory, and its number of bytes
pub record OwnedPlace : Type 0 where
  pub place : Ptr
  pub len : ℕ
