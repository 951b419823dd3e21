-- Blocks in the order of their offsets, by number.
use Rattle.std.specs.Prelude.{◌≡◌, ℕ, ◌<◌, ◌^◌, Some, slice_get}
use Rattle.image_check.specs.declared.owners.Block.{Block}
use Rattle.image_check.specs.Owners.{Blocks}

-- the block with this number has this payload
pub record IsRow (es : Blocks) (target number : ℕ) : Type 0 where
  pub block : Block
  pub is : slice_get es number ≡ Some (target, block)

-- payloads rise with the numbers
abbrev pub HasSortedPayloads : Blocks → Type 0
HasSortedPayloads es = (i j : ℕ) (x y : ℕ × Block) → i < j → slice_get es i ≡ Some x → slice_get es j ≡ Some y
    → x.0 < y.0

-- all payloads are below an offset
abbrev pub AreBelow : Blocks → ℕ → Type 0
AreBelow es n = (i : ℕ) (x : ℕ × Block) → slice_get es i ≡ Some x → x.0 < n

-- the payloads fit in four bytes, and rise with the numbers
pub record AreSortedBlocks (es : Blocks) : Type 0 where
  pub rises : HasSortedPayloads es
  pub small : AreBelow es (2 ^ 32)
