-- Builds the tree of gaps.
use Rattle.std.specs.Prelude.{◌≡◌, ℕ, ◌+◌, ◌<◌, ◌≤◌, ◌⊎◌, List, ◌∷◌, ◌++◌, length}
use Rattle.std.specs.List.{AllByRecursion}
use Rattle.raw_region.specs.Memory.{WindowState, SameBytes, bytes_of}
use Rattle.best_fit.specs.{Extents.Gap, Extents.gaps, FreeTree.gap_head}
use Rattle.best_fit.specs.GapNodes.{gaps_in}
use Rattle.best_fit.specs.GapTrees.{HasGapTree}
use Rattle.best_fit.specs.Heap.{KeepsBlocks, EncodesLiveSet, live_of}

-- the tree contains exactly the gaps before this one
pub record IsNextGap (c : WindowState) (xs : List Gap) (g : Gap) : Type 0 where
  pub behind : List Gap
  pub gaps : gaps_in c ≡ xs ++ (g ∷ behind)
  pub tree : HasGapTree c xs

-- the byte lies outside the gap
abbrev pub IsBesideGap : ℕ → Gap → Type 0
IsBesideGap k g = (k < g.offset) ⊎ (g.offset + g.len ≤ k)

-- the blocks in use keep their bytes and colours, and there is a tree of the gaps; only word 24, and the tags and links
-- of gaps change
pub record RebuildsFreeTree (format : ℕ) (old new : WindowState) : Type 0 where
  pub live : EncodesLiveSet format new.bytes (live_of old.bytes)
  pub keeps : KeepsBlocks old new (live_of old.bytes).extents
  pub rest : (k : ℕ) → k < length old.bytes → (k < 24) ⊎ (32 ≤ k)
      → AllByRecursion (IsBesideGap k) (gaps (live_of old.bytes)) → bytes_of new.bytes k ≡ bytes_of old.bytes k
  pub free : AllByRecursion (λ (g : Gap).
      SameBytes (bytes_of old.bytes) (bytes_of new.bytes) (g.offset + gap_head format) (g.offset + g.len))
      (gaps (live_of old.bytes))
