-- The size of a segment for the objects of an image.
use Rattle.std.proofs.Common.{◌≡◌, ◌≤◌, ◌*◌, ℕ, true, arith}
use Rattle.std.proofs.lemmas.Bool.Decides.{nat_tests}
use Rattle.block_tags.specs.Format.{is_legal_size}

-- a number of units of 16 bytes is legal
pub units_legal : (k : ℕ) → 11 ≤ k → k ≤ 67108864 → is_legal_size (k * 16) ≡ true
units_legal k low high = grind (arith, nat_tests)
