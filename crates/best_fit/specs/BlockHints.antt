-- Block hints: known handles of blocks in use.
use Rattle.std.specs.Prelude.{◌≡◌, ◌≢◌, ℕ, ◌+◌, ◌/◌, ◌%◌, ◌^◌, ◌<◌, ◌⊎◌, List, IsTrue, min, slice_index}
use Rattle.raw_region.specs.Format.{current}
use Rattle.best_fit.specs.declared.block_hints.BlockHints.{BlockHints}
use Rattle.best_fit.specs.Heap.{IsHeap, is_live_in, live_of}

-- the place of the piece that contains an offset, after 256 other places, if pieces have 2 ^ piece bytes
abbrev pub slot_of : ℕ → ℕ → ℕ
slot_of piece offset = min (offset / 2 ^ (piece % 64) + 256) 18446744073709551615

-- the place for a remembered handle
abbrev pub known_slot_of : ℕ → ℕ
known_slot_of h = h / 16 % 256

-- the handle is remembered, or is the hint of its piece
abbrev pub IsHinted : BlockHints → ℕ → Type 0
IsHinted p h = (0 < h)
    × ((slice_index p.handles (known_slot_of h) ≡ h) ⊎ (slice_index p.handles (slot_of p.piece h) ≡ h))

-- the place no longer contains the handle; each other number is unchanged or 0
pub record LacksHandle (old new : List ℕ) (slot handle : ℕ) : Type 0 where
  pub gone : 0 < handle → slice_index new slot ≢ handle
  pub others : (i : ℕ) → (slice_index new i ≡ slice_index old i) ⊎ (slice_index new i ≡ 0)

-- there is no hint
abbrev pub AreNone : BlockHints → Type 0
AreNone p = (h : ℕ) → IsHinted p h → ⊥

-- each hint is the handle of a block in use
abbrev pub LeadToBlocks : BlockHints → List ℕ → Type 0
LeadToBlocks p b = (h : ℕ) → IsHinted p h → IsTrue (is_live_in (live_of b) h)

-- the bytes of a heap, with hints that are handles of its blocks
pub record IsHintedHeap (b : List ℕ) (p : BlockHints) : Type 0 where
  pub heap : IsHeap current b
  pub hints : LeadToBlocks p b
