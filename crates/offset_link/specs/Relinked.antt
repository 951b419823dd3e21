-- Links that move together, and links with any bytes.
use Rattle.std.specs.Prelude.{◌≡◌, ◌≢◌, ℕ, zero, suc, ◌+◌, ◌*◌, ◌<◌, ◌%◌, ◌^◌, ◌==◌, if◌then◌else◌}
use Rattle.std.specs.Prelude.{Option, Some, None, IfSome, List, [], ◌++◌, Bool, false, not}
use Rattle.raw_region.specs.Memory.{Memory, word_at, word_bytes}
use Rattle.offset_link.specs.Link.{is_handle_offset, link_at, link_word, target_of}

-- a link is null or leads to a multiple of 16
abbrev pub IsLink : Memory → ℕ → Type 0
IsLink m at = IfSome (link_at m at) (λ target. target % 16 ≡ 0)

-- each of the n links from an offset on is null or leads to a multiple of 16
pub record AreValidLinks (m : Memory) (at n : ℕ) : Type 0 where
  pub each : (k : ℕ) → k < n → IsLink m (at + 8 * k)

-- each of the n links from an offset on leads to a multiple of 16
pub record AllLinksLead (m : Memory) (at n : ℕ) : Type 0 where
  pub each : (k : ℕ) → k < n → (target : ℕ) × (link_at m (at + 8 * k) ≡ Some target) × (target % 16 ≡ 0)

-- none of the n links from an offset on is null
pub record HasNoNullLink (m : Memory) (at n : ℕ) : Type 0 where
  pub each : (k : ℕ) → k < n → link_at m (at + 8 * k) ≢ None

-- both numbers are even
abbrev pub BothEven : ℕ → ℕ → Type 0
BothEven a b = (a % 2 ≡ 0) × (b % 2 ≡ 0)

-- the bytes of the n words from an offset on, moved to another offset: f computes each new word from its old offset,
-- its new offset and its old word
abbrev pub reworded : (ℕ → ℕ → ℕ → ℕ) → Memory → ℕ → ℕ → ℕ → List ℕ
reworded f m at to zero = []
reworded f m at to (suc n) = word_bytes (f at to (word_at m at)) ++ reworded f m (at + 8) (to + 8) n

-- the new word of a link that moves from one offset to another and keeps its target
abbrev pub word_by_target : ℕ → ℕ → ℕ → ℕ
word_by_target at to w = link_word to (target_of at w)

-- the new word of a link that is not null and moves from one offset to another: it changes by the distance
abbrev pub word_by_distance : ℕ → ℕ → ℕ → ℕ
word_by_distance at to w = link_word to (Some ((at + w) % 2 ^ 64))

-- a word that changed by the distance between two offsets, set to null again if it was null
abbrev pub unless_null : ℕ → ℕ → ℕ → ℕ → ℕ → ℕ
unless_null from to here there w = if w == word_by_distance from to 1 then 1 else w

-- the bytes of the n links from an offset on, moved to another offset with their targets
abbrev pub relinked : Memory → ℕ → ℕ → ℕ → List ℕ
relinked m at to n = reworded word_by_target m at to n

-- the n links from an offset on are at another offset, with the same targets
pub record KeepTargets (m m' : Memory) (at to n : ℕ) : Type 0 where
  pub each : (k : ℕ) → k < n → link_at m' (to + 8 * k) ≡ link_at m (at + 8 * k)

-- the link is invalid in a segment of this size
abbrev pub is_bad : ℕ → Option ℕ → Bool
is_bad size None = false
is_bad size (Some target) = not (is_handle_offset size target)
