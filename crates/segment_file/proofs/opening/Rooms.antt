-- How much room the region of a file's segment has.
use Rattle.std.proofs.Common.{◌≡◌, ◌≤◌, ℕ, ◌+◌, max, min, arith}
use Rattle.std.proofs.Math.Nat.{le-max_left, le-max_right, max_comm, min-eq_left, min-eq_right, min-le_left}
use Rattle.std.proofs.Math.Nat.{min-le_right}
use Rattle.grow_shrink.specs.LargerRegion.{region_len}

-- a region has the room that it was made for, which is that of the largest segment at most
pub region-holds : (n m : ℕ) → n ≤ 1073741824 → n ≤ m → n ≤ region_len m
region-holds n m few fits = omega arith

-- a larger size has no smaller region
pub region-grows : (m k : ℕ) → m ≤ k → region_len m ≤ region_len k
region-grows m k h = omega arith

-- a count that is cut off at the largest number of 64 bits says the same region
pub region_capped : (n : ℕ) → region_len (min n 18446744073709551615) ≡ region_len n
region_capped n = omega arith
