-- The rights of a new file that takes the place of an old one.
use Rattle.std.specs.Prelude.{◌≡◌, ℕ, ◌+◌, ◌*◌, ◌/◌, ◌%◌, Bool, true, false, ◌&&◌, ◌||◌, if◌then◌else◌, List}
use Rattle.std.specs.Prelude.{Option, Some, None}
use Rattle.file_rights.specs.declared.access_lists.ListEntry.{ListEntry}
use Rattle.file_rights.specs.declared.classes.Classes.{Classes}
use Rattle.file_rights.specs.declared.narrowing.AccessList.{AccessList}
use Rattle.file_rights.specs.declared.narrowing.AccessList.TheVariants.{Absent, Unreadable, Bytes}
use Rattle.file_rights.specs.declared.narrowing.NewRights.{NewRights}
use Rattle.file_rights.specs.Rights.{no_rights, common, covers, rights_of}
use Rattle.file_rights.specs.Modes.{classes_of, mode_of}
use Rattle.file_rights.specs.AccessLists.{first_rights, list_classes, list_of, mask_of, or_else}
use Rattle.file_rights.specs.Access.{OwnedFile, NeverWidens}

-- what the bytes say of a list: which it is, or nothing
abbrev pub MayBeList : Option (List ListEntry) → Option (List ListEntry) → Type 0
MayBeList None list = Unit {0}
MayBeList (Some entries) list = list ≡ Some entries

-- a file that is known so may have this list
abbrev pub MayHaveList : AccessList → Option (List ListEntry) → Type 0
MayHaveList Absent list = list ≡ None
MayHaveList Unreadable list = Unit {0}
MayHaveList (Bytes bytes) list = MayBeList (list_of bytes.now) list

-- Whoever owns the old file, and whoever owns the new one, whose owner and group are the old ones if that is said: a
-- new file with this mode and no list never widens.
abbrev pub ModeNarrows : ℕ → AccessList → Bool → Bool → ℕ → Type 0
ModeNarrows mode list has_owner has_group new_mode = (old : OwnedFile) (owner group : ℕ) → old.mode ≡ mode
    → MayHaveList list old.list → (has_owner ≡ true → owner ≡ old.owner) → (has_group ≡ true → group ≡ old.group)
    → NeverWidens old (record { owner = owner; group = group; mode = new_mode; list = None })

-- The same of a new file with the old list, whatever its mode is.
abbrev pub ListNarrows : AccessList → Bool → Bool → Type 0
ListNarrows list has_owner has_group = (old : OwnedFile) (owner group mode : ℕ) → MayHaveList list old.list
    → (has_owner ≡ true → owner ≡ old.owner) → (has_group ≡ true → group ≡ old.group)
    → NeverWidens old (record { owner = owner; group = group; mode = mode; list = old.list })

-- The new file is run as its owner only if that is the old one and the old file was so, and as its group only if owner
-- and group are the old ones and the old file was so.
pub record KeepsIds (mode : ℕ) (has_owner has_group : Bool) (new_mode : ℕ) : Type 0 where
  pub user : new_mode / 2048 % 2 ≡ 1 → (has_owner ≡ true) × (mode / 2048 % 2 ≡ 1)
  pub group : new_mode / 1024 % 2 ≡ 1 → (has_owner ≡ true) × (has_group ≡ true) × (mode / 1024 % 2 ≡ 1)

-- the list is set, and the bits above the classes are the old ones
abbrev pub KeepsList : ℕ → Option (List ListEntry) → NewRights → Type 0
KeepsList mode None new = Unit {0}
KeepsList mode (Some entries) new = (new.sets_list ≡ true) × (new.mode / 512 ≡ mode / 512 % 8)

-- nothing is lost: without a list the mode is the old one, and a list that can be read is set
abbrev pub KeepsRights : ℕ → AccessList → NewRights → Type 0
KeepsRights mode Absent new = new.mode ≡ mode % 4096
KeepsRights mode Unreadable new = Unit {0}
KeepsRights mode (Bytes bytes) new = KeepsList mode (list_of bytes.now) new

-- what the entries grant each user of a class, if these are entries
abbrev pub listed_classes : Option (List ListEntry) → Classes
listed_classes None = classes_of 0
listed_classes (Some entries) = list_classes entries

-- what an old file grants each user of a class, whoever he is; nothing if that is not known
abbrev pub old_classes : ℕ → AccessList → Classes
old_classes mode Absent = classes_of mode
old_classes mode Unreadable = classes_of 0
old_classes mode (Bytes bytes) = listed_classes (list_of bytes.now)

-- the old owner, who may be in the group or among the others, is granted no more than before
abbrev pub without_owner : Bool → Classes → Classes
without_owner has_owner c =
    if has_owner then c
    else record { owner = c.owner; group = common c.group c.owner; other = common c.other c.owner }

-- members of the old group may be among the others, and others in the new group: both get what both had
abbrev pub without_group : Bool → Classes → Classes
without_group has_group c =
    if has_group then c
    else record { owner = c.owner; group = common c.group c.other; other = common c.group c.other }

-- the bits above the classes
abbrev pub special_bits : Bool → Bool → ℕ → ℕ
special_bits has_owner has_group mode =
    if has_owner then (if has_group then mode / 512 % 8 else mode / 2048 % 2 * 4 + mode / 512 % 2) else 0

-- the owner is the same, or had all that the list may grant
abbrev pub keeps_list : Bool → List ListEntry → Bool
keeps_list has_owner entries =
    has_owner
    || (covers (or_else no_rights (first_rights 1 entries)) (mask_of entries)
    && covers (or_else no_rights (first_rights 1 entries)) (or_else no_rights (first_rights 32 entries)))

-- the same, if these are entries
abbrev pub keeps_listed : Bool → Bool → Option (List ListEntry) → Bool
keeps_listed has_owner has_group None = false
keeps_listed has_owner has_group (Some entries) = has_group && keeps_list has_owner entries

-- the list may be set: the group is the same, and so is the owner, or he had all that the list may grant
abbrev pub sets_list : AccessList → Bool → Bool → Bool
sets_list Absent has_owner has_group = false
sets_list Unreadable has_owner has_group = false
sets_list (Bytes bytes) has_owner has_group = keeps_listed has_owner has_group (list_of bytes.now)

-- the classes of the new file, by what the old one grants: its owner gets what the old one had
abbrev pub new_classes : ℕ → Classes → Classes
new_classes mode c = record { owner = rights_of (mode / 64); group = c.group; other = c.other }

-- what is set of the rights of the new file
abbrev pub new_rights : ℕ → AccessList → Bool → Bool → NewRights
new_rights mode list has_owner has_group = record {
  mode = special_bits has_owner has_group mode * 512
      + mode_of (new_classes mode (without_group has_group (without_owner has_owner (old_classes mode list))));
  sets_list = sets_list list has_owner has_group;
}
