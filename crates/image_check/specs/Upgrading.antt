-- The change of an image's bytes, of any of the three formats, when it is opened.
use Rattle.std.specs.Prelude.{◌≡◌, ◌⊎◌, ◌<◌, ◌≤◌, ℕ, List, length}
use Rattle.std.specs.List.{AllByRecursion}
use Rattle.raw_region.specs.Memory.{SameBytes, SameBytesExcept, bytes_of, half_word_at}
use Rattle.raw_region.specs.Format.{current}
use Rattle.best_fit.specs.Extents.{gaps}
use Rattle.best_fit.specs.Heap.{EncodesLiveSet, SameBlock, live_of}
use Rattle.best_fit.specs.Rebuilding.{IsBesideGap}
use Rattle.segment_manager.specs.Directory.{Directory, IsDirectory}
use Rattle.segment_manager.specs.Denotes.{Denotes}
use Rattle.segment_manager.specs.State.{DenotesCurrent}

-- ---- the change of the bytes

-- only the version changes, to the current one
pub record UpgradesVersion (old new : List ℕ) : Type 0 where
  pub version : half_word_at (bytes_of new) 8 ≡ current
  pub rest : SameBytesExcept (bytes_of old) (bytes_of new) 8 4

-- There is a tree of the gaps, and the version is the current one. The blocks in use keep their bytes and colours; only
-- the version, word 24 and the bytes of gaps change.
pub record RebuildsTree (old new : List ℕ) : Type 0 where
  pub heap : EncodesLiveSet current new (live_of old)
  pub version : half_word_at (bytes_of new) 8 ≡ current
  pub front : SameBytes (bytes_of old) (bytes_of new) 0 8
  pub middle : SameBytes (bytes_of old) (bytes_of new) 12 24
  pub behind : SameBytes (bytes_of old) (bytes_of new) 32 128
  pub blocks : AllByRecursion (SameBlock (bytes_of old) (bytes_of new)) (live_of old).extents
  pub rest : (k : ℕ) → k < length old → (k < 8) ⊎ (12 ≤ k) → (k < 24) ⊎ (32 ≤ k)
      → AllByRecursion (IsBesideGap k) (gaps (live_of old)) → bytes_of new k ≡ bytes_of old k

-- bytes of a format become bytes of the current one that denote the same directory
pub record UpgradesFormat (format : ℕ) (old new : List ℕ) : Type 0 where
  pub size : length new ≡ length old
  pub denotes : (d : Directory) → Denotes format old d → DenotesCurrent new d
  -- an image of the current format stays byte for byte; from format 1 on only the version changes
  pub same : format ≡ current → new ≡ old
  pub version : format ≡ 1 → UpgradesVersion old new
  pub replanted : format ≡ 0 → RebuildsTree old new

-- ---- the laws

-- the law: a directory of any format is a directory of the current one
abbrev pub OlderDirectoriesStand : Type 0
OlderDirectoriesStand = (format : ℕ) (d : Directory) → IsDirectory format d → IsDirectory current d

-- the law: bytes that denote a directory in format 1 denote it with the current version
abbrev pub NewVersionsStand : Type 0
NewVersionsStand = (b b' : List ℕ) (d : Directory) → Denotes 1 b d → length b' ≡ length b → UpgradesVersion b b'
    → DenotesCurrent b' d

-- the law: bytes of format 0 with a tree of the gaps denote their directory in the current format
abbrev pub ReplantedStand : Type 0
ReplantedStand = (b b' : List ℕ) (d : Directory) → Denotes 0 b d → RebuildsTree b b' → DenotesCurrent b' d
