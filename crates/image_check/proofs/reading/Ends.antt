-- The number of ends that a reader met in two calls that make no read after the end, of which the first met none.
use Rattle.image_check.proofs.Common.{arith, false, if◌then◌else◌, true, ℕ, ◌+◌, ◌≡◌}
use Rattle.std.proofs.Common.{Bool}
use Rattle.raw_region.specs.Device.{ReaderHistory}
use Rattle.image_check.specs.Opening.{AsksToTheEnd}

both : (a b c n : ℕ) (e : Bool) → b ≡ a + (if e then 1 else 0) → e ≡ false → c ≡ b + n → c ≡ a + n
both a b c n true first going next = absurd (cc)
both a b c n false first going next = omega arith

-- a call that met no end, and one more
pub more_ends : (old mid new : ReaderHistory) → AsksToTheEnd old mid → mid.ended ≡ false → AsksToTheEnd mid new
    → AsksToTheEnd old new
more_ends old mid new first going next =
    both old.ends mid.ends new.ends (if new.ended then 1 else 0) mid.ended first going next
