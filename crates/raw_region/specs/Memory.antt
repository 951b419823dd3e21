-- Memory in contracts: the byte at each offset. A window and a list of bytes are both read as memory.
use Rattle.std.specs.Prelude.{◌≡◌, ℕ, zero, suc, ◌+◌, ◌≤◌, ◌<◌, ◌⊎◌, Bool, List, [], ◌∷◌, ◌++◌, length, take, drop}
use Rattle.std.specs.Prelude.{slice_index, replicate}
use Rattle.std.specs.Prelude.{nat_lt}
use Rattle.std.specs.List.{list_all}
use Rattle.byteorder.specs.Endian.{little_number, little_bytes}

-- the byte at each offset
abbrev pub Memory : Type 0
Memory = ℕ → ℕ

-- the memory of a list of bytes, which begins at offset 0
abbrev pub bytes_of : List ℕ → Memory
bytes_of b = slice_index b

-- whether each number of a list is below 256
abbrev pub are_bytes : List ℕ → Bool
are_bytes = list_all (λ b. nat_lt b 256)

-- each number of a list is below 256
abbrev pub AreBytes : List ℕ → Type 0
AreBytes b = (k : ℕ) → bytes_of b k < 256

-- the n bytes from an offset on
abbrev pub read : Memory → ℕ → ℕ → List ℕ
read m at zero = []
read m at (suc n) = m at ∷ read m (at + 1) n

-- memory contains these bytes at this offset
abbrev pub HasBytesAt : Memory → ℕ → List ℕ → Type 0
HasBytesAt m at bytes = read m at (length bytes) ≡ bytes

-- the 8 bytes of a number, lowest byte first
unfoldable pub word_bytes : ℕ → List ℕ
word_bytes x = little_bytes 8 x

-- the 4 bytes of a number, lowest byte first
unfoldable pub half_word_bytes : ℕ → List ℕ
half_word_bytes x = little_bytes 4 x

-- the number in the 8 bytes at an offset, lowest byte first
unfoldable pub word_at : Memory → ℕ → ℕ
word_at m at = little_number 8 (read m at 8)

-- the number in the 4 bytes at an offset, lowest byte first
unfoldable pub half_word_at : Memory → ℕ → ℕ
half_word_at m at = little_number 4 (read m at 4)

-- n bytes that are 0
unfoldable pub zeros : ℕ → List ℕ
zeros n = replicate n 0

-- the len bytes of a list from an offset on
abbrev pub part : List ℕ → ℕ → ℕ → List ℕ
part b from len = take len (drop from b)

-- the list after these bytes were written at an offset
abbrev pub patched : List ℕ → ℕ → List ℕ → List ℕ
patched b from bytes = take from b ++ bytes ++ drop (from + length bytes) b

-- a list of bytes in three pieces: the window is the middle piece, and its base is the length of the first
pub record WindowState : Type 0 where
  pub before : List ℕ
  pub bytes : List ℕ
  pub after : List ℕ

-- all bytes of the region that a window lies in
abbrev pub whole : WindowState → List ℕ
whole c = c.before ++ c.bytes ++ c.after

-- the window of size bytes at this base of a region
abbrev pub cut_at : List ℕ → ℕ → ℕ → WindowState
cut_at b base size = record { before = take base b; bytes = part b base size; after = drop (base + size) b }

-- the bytes from an offset up to another are equal
pub record SameBytes (m m' : Memory) (from to : ℕ) : Type 0 where
  pub at : (k : ℕ) → from ≤ k → k < to → m' k ≡ m k

-- all bytes are equal except the n from an offset on
pub record SameBytesExcept (m m' : Memory) (from n : ℕ) : Type 0 where
  pub at : (k : ℕ) → (k < from) ⊎ (from + n ≤ k) → m' k ≡ m k

-- the bytes from an offset up to another are 0
pub record AreZero (m : Memory) (from to : ℕ) : Type 0 where
  pub at : (k : ℕ) → from ≤ k → k < to → m k ≡ 0

-- the bytes before and after the window are unchanged
pub record SameSurroundings (old new : WindowState) : Type 0 where
  pub before : new.before ≡ old.before
  pub after : new.after ≡ old.after
