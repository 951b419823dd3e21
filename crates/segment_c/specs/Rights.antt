-- What C is told of the rights of files.
use Rattle.std.specs.Prelude.{◌≡◌, ◌↔◌, ◌≤◌, ℕ}
use Rattle.file_rights.specs.LogRights.{LogCounts}
use Rattle.file_rights.specs.declared.log_rights.Ownership.{Ownership}

-- a file with this owner, group and mode
abbrev pub ownership : ℕ → ℕ → ℕ → Ownership
ownership owner group mode = record { owner = owner; group = group; mode = mode }

-- 1 if a log beside a file in a folder counts for a caller, and otherwise 0
pub record TellsWhetherLogCounts (file log folder : Ownership) (caller code : ℕ) : Type 0 where
  pub counts : (code ≡ 1) ↔ LogCounts file log folder caller
  pub at_most : code ≤ 1
