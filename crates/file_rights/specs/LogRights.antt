-- Whether a log beside a file counts, and the rights that a log gets.
use Rattle.std.specs.Prelude.{◌≡◌, ◌≢◌, ◌⊎◌, ◌↔◌, ◌<◌, ℕ, Bool, true, false, ◌&&◌, ◌||◌, not, ◌==◌, None}
use Rattle.file_rights.specs.declared.log_rights.Ownership.{Ownership}
use Rattle.file_rights.specs.declared.rights.Rights.{Rights}
use Rattle.file_rights.specs.Modes.{classes_of, mode_of}
use Rattle.file_rights.specs.Access.{User, OwnedFile, MayRead, MayWrite, MayExecute}

-- a file of this owner, group and mode, without an access list
abbrev pub file_of : Ownership → OwnedFile
file_of of = record { owner = of.owner; group = of.group; mode = of.mode; list = None }

-- the owner of the log owns the file too, or is the caller, or root
abbrev pub IsOfTrusted : Ownership → Ownership → ℕ → Type 0
IsOfTrusted file log caller = (log.owner ≡ file.owner) ⊎ ((log.owner ≡ caller) ⊎ (log.owner ≡ 0))

-- who may write the folder owns it, or is in the group
abbrev pub IsClosedTo : ℕ → Ownership → Type 0
IsClosedTo group folder = (user : User) → user.uid ≢ folder.owner → MayWrite user (file_of folder)
    → user.is_in group ≡ true

-- the log is of the group that may write the file, and nobody else may have made it in the folder
pub record IsOfWriters (file log folder : Ownership) : Type 0 where
  pub writes : (classes_of file.mode).group.write ≡ true
  pub group : log.group ≡ file.group
  pub closed : IsClosedTo file.group folder

-- Nobody but their owners may write the log who may not write the file.
abbrev pub KeepsWriters : Ownership → Ownership → Type 0
KeepsWriters file log = (user : User) → user.uid ≢ file.owner → user.uid ≢ log.owner
    → MayWrite user (file_of log) → MayWrite user (file_of file)

-- a log beside a file in a folder counts for a caller
pub record LogCounts (file log folder : Ownership) (caller : ℕ) : Type 0 where
  pub maker : IsOfTrusted file log caller ⊎ IsOfWriters file log folder
  pub writers : KeepsWriters file log

-- the owner of the log is trusted, as it is computed
abbrev pub is_of_trusted : Ownership → Ownership → ℕ → Bool
is_of_trusted file log caller = (log.owner == file.owner) || ((log.owner == caller) || (log.owner == 0))

-- only the owner and a group may write the folder, as it is computed
abbrev pub is_closed_to : ℕ → Ownership → Bool
is_closed_to group folder =
    not (classes_of folder.mode).other.write
    && ((folder.group == group) || not (classes_of folder.mode).group.write)

-- the log is of the group that may write the file, as it is computed
abbrev pub is_of_writers : Ownership → Ownership → Ownership → Bool
is_of_writers file log folder =
    (classes_of file.mode).group.write && ((log.group == file.group) && is_closed_to file.group folder)

-- nobody may write the log who may not write the file, by the bits to write of both and whether the group is the same
abbrev pub keep_writers : Bool → Bool → Bool → Bool → Bool → Bool
keep_writers file_group file_other log_group log_other same =
    (not log_group || (file_group && (same || file_other))) && (not log_other || (file_other && (same || file_group)))

-- nobody may write the log who may not write the file, as it is computed
abbrev pub keeps_writers : Ownership → Ownership → Bool
keeps_writers file log =
    keep_writers (classes_of file.mode).group.write (classes_of file.mode).other.write (classes_of log.mode).group.write
    (classes_of log.mode).other.write (log.group == file.group)

-- a log counts, as it is computed
abbrev pub log_counts : Ownership → Ownership → Ownership → ℕ → Bool
log_counts file log folder caller =
    (is_of_trusted file log caller || is_of_writers file log folder) && keeps_writers file log

-- rights without the one to execute
abbrev pub unexecuted : Rights → Rights
unexecuted rights = record { read = rights.read; write = rights.write; execute = false }

-- the mode of a file, without the right to execute it and without the bits above
abbrev pub log_mode : ℕ → ℕ
log_mode mode = mode_of (record {
  owner = unexecuted (classes_of mode).owner;
  group = unexecuted (classes_of mode).group;
  other = unexecuted (classes_of mode).other;
})

-- A file with the log's mode is read and written by those who may read and write one with the mode, and executed by
-- nobody, whoever owns them.
pub record GrantsAsMode (mode log : ℕ) : Type 0 where
  pub read : (user : User) (owner group : ℕ)
      → MayRead user (file_of (record { owner = owner; group = group; mode = log }))
      ↔ MayRead user (file_of (record { owner = owner; group = group; mode = mode }))
  pub write : (user : User) (owner group : ℕ)
      → MayWrite user (file_of (record { owner = owner; group = group; mode = log }))
      ↔ MayWrite user (file_of (record { owner = owner; group = group; mode = mode }))
  pub execute : (user : User) (owner group : ℕ)
      → MayExecute user (file_of (record { owner = owner; group = group; mode = log })) → ⊥
  pub bits : log < 512
