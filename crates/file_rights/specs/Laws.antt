-- What holds of each new file, and of each log that is made with the rights of its file.
use Rattle.std.specs.Prelude.{◌≡◌, ◌≢◌, ℕ, Bool, true}
use Rattle.file_rights.specs.declared.log_rights.Ownership.{Ownership}
use Rattle.file_rights.specs.declared.narrowing.AccessList.{AccessList}
use Rattle.file_rights.specs.declared.narrowing.AccessList.TheVariants.{Absent}
use Rattle.file_rights.specs.Rights.{covers}
use Rattle.file_rights.specs.Modes.{classes_of}
use Rattle.file_rights.specs.Access.{User, OwnedFile, MayWrite}
use Rattle.file_rights.specs.Narrowing.{new_rights, MayHaveList, ModeNarrows}
use Rattle.file_rights.specs.LogRights.{file_of, log_mode, IsOfTrusted, KeepsWriters, LogCounts}

-- a mode grants the group and the others all that another one grants them
pub record CoversMode (wide narrow : ℕ) : Type 0 where
  pub group : covers (classes_of wide).group (classes_of narrow).group ≡ true
  pub other : covers (classes_of wide).other (classes_of narrow).other ≡ true

-- Nothing is narrowed without need: of a file without a list, no other mode that never widens grants the group or the
-- others more than the new one.
abbrev pub NewModeIsWidest : Type 0
NewModeIsWidest = (mode : ℕ) (has_owner has_group : Bool) (other_mode : ℕ)
    → ModeNarrows mode Absent has_owner has_group other_mode
    → CoversMode (new_rights mode Absent has_owner has_group).mode other_mode

-- A log with the owner, the group and the rights of its file counts, in every folder and for every caller.
abbrev pub LogOfOwnerCounts : Type 0
LogOfOwnerCounts = (file log folder : Ownership) (caller : ℕ) → log.owner ≡ file.owner → log.group ≡ file.group
    → log.mode ≡ log_mode file.mode → LogCounts file log folder caller

-- A log of somebody who is trusted counts with the rights that it gets, whether it has the owner and the group of the
-- file or not.
abbrev pub NarrowedLogCounts : Type 0
NarrowedLogCounts = (file log folder : Ownership) (caller : ℕ) (has_owner has_group : Bool)
    → IsOfTrusted file log caller → (has_owner ≡ true → log.owner ≡ file.owner)
    → (has_group ≡ true → log.group ≡ file.group)
    → log.mode ≡ (new_rights (log_mode file.mode) Absent has_owner has_group).mode
    → LogCounts file log folder caller

-- the mode that a new file with the same owner and group gets before its list
abbrev pub listed_mode : ℕ → AccessList → ℕ
listed_mode mode list = (new_rights mode list true true).mode

-- Beside a file with a list, a log without a list is compared with the mode that a new file would get without the list:
-- then nobody but their owners may write the log who may not write the file.
abbrev pub ListedFileKeepsWriters : Type 0
ListedFileKeepsWriters = (file : OwnedFile) (list : AccessList) (log : Ownership) → MayHaveList list file.list
    → KeepsWriters (record { owner = file.owner; group = file.group; mode = listed_mode file.mode list }) log
    → (user : User) → user.uid ≢ file.owner → user.uid ≢ log.owner → MayWrite user (file_of log) → MayWrite user file
