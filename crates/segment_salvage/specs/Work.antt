-- How much of an image is read, in bytes of values.
use Rattle.std.specs.Prelude.{◌*◌, ◌+◌, ◌≤◌, ◌≡◌, ℕ, List, length}
use Rattle.segment_salvage.specs.declared.allowance.Allowance.{Allowance}

-- of each byte of an image, values have at most four bytes
abbrev pub max_work : List ℕ → ℕ
max_work image = 4 * length image

-- a call reads values, and takes them from what may still be read
abbrev pub ReadsValues : Allowance → Allowance → Type 0
ReadsValues old new = new.left ≤ old.left

-- a call reads bytes, and takes at least these many from what may still be read
abbrev pub ReadsBytes : Allowance → Allowance → ℕ → Type 0
ReadsBytes old new bytes = new.left + bytes ≤ old.left
