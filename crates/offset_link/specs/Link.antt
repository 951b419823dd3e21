-- A link is a word that stores the distance from its own offset to its target. The distance 1 is null.
use Rattle.std.specs.Prelude.{ℕ, ◌+◌, ◌-◌, ◌%◌, ◌^◌, Option, Some, None, if◌then◌else◌, ◌==◌, List, Bool, nat_le, ◌&&◌}
use Rattle.raw_region.specs.Memory.{Memory, word_at, word_bytes}

-- the target of the word w at an offset
abbrev pub target_of : ℕ → ℕ → Option ℕ
target_of at w = if w == 1 then None else Some ((at + w) % 2 ^ 64)

-- the target of the link at an offset: none if its word is 1, otherwise (offset + word) mod 2^64
abbrev pub link_at : Memory → ℕ → Option ℕ
link_at m at = target_of at (word_at m at)

-- the word of a link to this target, at an offset
abbrev pub link_word : ℕ → Option ℕ → ℕ
link_word at None = 1
link_word at (Some target) = (target + 2 ^ 64 - at) % 2 ^ 64

-- the bytes of a link to this target, at an offset
abbrev pub link : ℕ → Option ℕ → List ℕ
link at target = word_bytes (link_word at target)

-- an offset at which a block's payload can begin in a segment of this size
abbrev pub is_handle_offset : ℕ → ℕ → Bool
is_handle_offset size target = (target % 16 == 0) && nat_le 144 target && nat_le (target + 32) size
