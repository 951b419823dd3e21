-- Who may do what with a file, as acl(5) checks it. Root, who may do everything, is left out.
use Rattle.std.specs.Prelude.{◌≡◌, ◌≢◌, ℕ, Bool, true, false, ◌&&◌, ◌||◌, ◌==◌, if◌then◌else◌, List, [], ◌∷◌}
use Rattle.std.specs.Prelude.{Option, Some, None}
use Rattle.file_rights.specs.declared.access_lists.ListEntry.{ListEntry}
use Rattle.file_rights.specs.declared.rights.Rights.{Rights}
use Rattle.file_rights.specs.Rights.{no_rights, common, covers, to_read, to_write, to_execute}
use Rattle.file_rights.specs.AccessLists.{first_rights, mask_of, or_else}
use Rattle.file_rights.specs.Modes.{classes_of}

-- a user: his number, and the groups that he is in
pub record User : Type 0 where
  pub uid : ℕ
  pub is_in : ℕ → Bool

-- a file: its owner, its group, its mode, and its access list if it has one
pub record OwnedFile : Type 0 where
  pub owner : ℕ
  pub group : ℕ
  pub mode : ℕ
  pub list : Option (List ListEntry)

-- the rights in the first entry that names a user
abbrev pub named_rights : ℕ → List ListEntry → Option Rights
named_rights uid [] = None
named_rights uid (entry ∷ entries) =
    if (entry.tag == 2) && (entry.number == uid) then Some entry.rights else named_rights uid entries

-- the entry is for a group of the user: the owning group, or a named one
abbrev pub is_of_group : User → ℕ → ListEntry → Bool
is_of_group user group entry =
    ((entry.tag == 4) && user.is_in group) || ((entry.tag == 8) && user.is_in entry.number)

-- some entry is for a group of the user
abbrev pub has_group : User → ℕ → List ListEntry → Bool
has_group user group [] = false
has_group user group (entry ∷ entries) = is_of_group user group entry || has_group user group entries

-- some entry for a group of the user grants within the mask what is wanted
abbrev pub has_grant : User → ℕ → Rights → Rights → List ListEntry → Bool
has_grant user group mask want [] = false
has_grant user group mask want (entry ∷ entries) =
    (is_of_group user group entry && covers (common entry.rights mask) want) || has_grant user group mask want entries

-- a user who is not the owner, by an access list: the entry that names him, else those of his groups, else the others
abbrev pub may_by_entries : User → ℕ → List ListEntry → Rights → Option Rights → Bool
may_by_entries user group entries want (Some named) = covers (common named (mask_of entries)) want
may_by_entries user group entries want None =
    if has_group user group entries then has_grant user group (mask_of entries) want entries
    else covers (or_else no_rights (first_rights 32 entries)) want

-- a user, by the mode or by the access list that there is
abbrev pub may_by : User → OwnedFile → Rights → Option (List ListEntry) → Bool
may_by user file want None =
    if user.uid == file.owner then covers (classes_of file.mode).owner want
    else if user.is_in file.group then covers (classes_of file.mode).group want
    else covers (classes_of file.mode).other want
may_by user file want (Some entries) =
    if user.uid == file.owner then covers (or_else no_rights (first_rights 1 entries)) want
    else may_by_entries user file.group entries want (named_rights user.uid entries)

-- the user may do with the file all that is wanted
abbrev pub may_access : User → OwnedFile → Rights → Bool
may_access user file want = may_by user file want file.list

-- the user may read the file
abbrev pub MayRead : User → OwnedFile → Type 0
MayRead user file = may_access user file to_read ≡ true

-- the user may write the file
abbrev pub MayWrite : User → OwnedFile → Type 0
MayWrite user file = may_access user file to_write ≡ true

-- the user may execute the file
abbrev pub MayExecute : User → OwnedFile → Type 0
MayExecute user file = may_access user file to_execute ≡ true

-- Nobody but the owner of the new file may do with it what he might not do with the old one.
abbrev pub NeverWidens : OwnedFile → OwnedFile → Type 0
NeverWidens old new = (user : User) (want : Rights) → user.uid ≢ new.owner
    → may_access user new want ≡ true → may_access user old want ≡ true
