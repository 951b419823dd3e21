-- Rights by example.
use Rattle.std.proofs.Common.{◌≡◌, ℕ, ◌+◌, ◌*◌, List, [], ◌∷◌, ◌++◌, Some, None, Bool, true, false, refl}
use Rattle.file_rights.specs.declared.access_lists.ListEntry.{ListEntry}
use Rattle.file_rights.specs.declared.log_rights.Ownership.{Ownership}
use Rattle.file_rights.specs.declared.narrowing.AccessList.TheVariants.{Absent, Unreadable}
use Rattle.file_rights.specs.Rights.{rights_of, to_read, to_write}
use Rattle.file_rights.specs.AccessLists.{list_classes, list_of}
use Rattle.file_rights.specs.Modes.{mode_of}
use Rattle.file_rights.specs.Access.{User, OwnedFile, may_access}
use Rattle.file_rights.specs.Narrowing.{keeps_list, new_rights}
use Rattle.file_rights.specs.LogRights.{log_counts, log_mode}

-- a mode as it is written, by its three digits
abbrev octal : ℕ → ℕ → ℕ → ℕ
octal owner group other = owner * 64 + group * 8 + other

-- ---- access lists, as `setfacl` makes them

-- an entry as eight bytes, of a tag, three bits and a number below 256
abbrev entry : ℕ → ℕ → ℕ → List ℕ
entry tag bits number = tag ∷ 0 ∷ bits ∷ 0 ∷ number ∷ 0 ∷ 0 ∷ 0 ∷ []

abbrev version : List ℕ
version = 2 ∷ 0 ∷ 0 ∷ 0 ∷ []

abbrev entry_is : ℕ → ℕ → ℕ → ListEntry
entry_is tag bits number = record { tag = tag; rights = rights_of bits; number = number }

-- user::rw-, user:5:rw-, group::---, mask::rw-, other::---
abbrev for_user_5 : List ListEntry
for_user_5 = entry_is 1 6 0 ∷ entry_is 2 6 5 ∷ entry_is 4 0 0 ∷ entry_is 16 6 0 ∷ entry_is 32 0 0 ∷ []

list_in_bytes : list_of (version ++ entry 1 6 0 ++ entry 2 6 5 ++ entry 4 0 0 ++ entry 16 6 0 ++ entry 32 0 0)
    ≡ Some for_user_5
list_in_bytes = refl

another_version : list_of (1 ∷ 0 ∷ 0 ∷ 0 ∷ []) ≡ None
another_version = refl

half_an_entry : list_of (version ++ 1 ∷ 0 ∷ 6 ∷ 0 ∷ []) ≡ None
half_an_entry = refl

-- user::rw-, user:5:---, group::r--, group:20:rw-, mask::r--, other::r--
abbrev but_user_5 : List ListEntry
but_user_5 = entry_is 1 6 0 ∷ entry_is 2 0 5 ∷ entry_is 4 4 0 ∷ entry_is 8 6 20 ∷ entry_is 16 4 0 ∷ entry_is 32 4 0 ∷ []

-- ---- who may do what

abbrev nobody_in : ℕ → User
nobody_in uid = record { uid = uid; is_in = λ _. false }

abbrev all_in : ℕ → User
all_in uid = record { uid = uid; is_in = λ _. true }

-- a file of user 1 and group 10
abbrev listed : List ListEntry → OwnedFile
listed entries = record { owner = 1; group = 10; mode = octal 6 6 0; list = Some entries }

abbrev moded : ℕ → OwnedFile
moded mode = record { owner = 1; group = 10; mode = mode; list = None }

-- the mask stands in the mode for the group, which may do nothing
user_5_writes : may_access (nobody_in 5) (listed for_user_5) to_write ≡ true
user_5_writes = refl

group_reads_not : may_access (all_in 6) (listed for_user_5) to_read ≡ false
group_reads_not = refl

-- the entry that names a user goes before his groups, and the mask takes the right to write from the named group
user_5_reads_not : may_access (all_in 5) (listed but_user_5) to_read ≡ false
user_5_reads_not = refl

group_20_reads : may_access (all_in 6) (listed but_user_5) to_read ≡ true
group_20_reads = refl

group_20_writes_not : may_access (all_in 6) (listed but_user_5) to_write ≡ false
group_20_writes_not = refl

-- a member of the group is none of the others
member_of_606 : may_access (all_in 6) (moded (octal 6 0 6)) to_read ≡ false
member_of_606 = refl

other_of_606 : may_access (nobody_in 6) (moded (octal 6 0 6)) to_read ≡ true
other_of_606 = refl

-- ---- a new file

abbrev plain : ℕ → Bool → Bool → ℕ
plain mode has_owner has_group = (new_rights mode Absent has_owner has_group).mode

-- the same owner and group: the same mode
same_606 : plain (octal 6 0 6) true true ≡ octal 6 0 6
same_606 = refl

same_6755 : plain (3072 + octal 7 5 5) true true ≡ 3072 + octal 7 5 5
same_6755 = refl

-- another group: it and the others get what both had
new_group_606 : plain (octal 6 0 6) true false ≡ octal 6 0 0
new_group_606 = refl

new_group_604 : plain (octal 6 0 4) true false ≡ octal 6 0 0
new_group_604 = refl

new_group_664 : plain (octal 6 6 4) true false ≡ octal 6 4 4
new_group_664 = refl

new_group_6755 : plain (3072 + octal 7 5 5) true false ≡ 2048 + octal 7 5 5
new_group_6755 = refl

-- another owner: the old one is in the group or among the others, and gets no more than he had
new_owner_477 : plain (octal 4 7 7) false true ≡ octal 4 4 4
new_owner_477 = refl

new_owner_6755 : plain (3072 + octal 7 5 5) false true ≡ octal 7 5 5
new_owner_6755 = refl

both_new_664 : plain (octal 6 6 4) false false ≡ octal 6 4 4
both_new_664 = refl

-- a list that cannot be read: only the owner
unreadable : new_rights (octal 6 4 4) Unreadable true true ≡ record { mode = octal 6 0 0; sets_list = false }
unreadable = refl

-- without a list the group gets what its entry grants and not the mask, and nobody what a named user has not
without_for_user_5 : mode_of (list_classes for_user_5) ≡ octal 6 0 0
without_for_user_5 = refl

without_but_user_5 : mode_of (list_classes but_user_5) ≡ octal 6 0 0
without_but_user_5 = refl

-- a list without named users
without_a_mask : mode_of (list_classes (entry_is 1 6 0 ∷ entry_is 4 6 0 ∷ entry_is 16 4 0 ∷ entry_is 32 4 0 ∷ []))
    ≡ octal 6 4 4
without_a_mask = refl

-- the list of a file with another owner is set if the old owner had all that it grants
keeps_for_user_5 : keeps_list false for_user_5 ≡ true
keeps_for_user_5 = refl

keeps_not : keeps_list false (entry_is 1 4 0 ∷ entry_is 2 6 5 ∷ entry_is 4 6 0 ∷ entry_is 16 6 0 ∷ entry_is 32 0 0 ∷ [])
    ≡ false
keeps_not = refl

-- ---- logs

abbrev owned : ℕ → ℕ → ℕ → Ownership
owned owner group mode = record { owner = owner; group = group; mode = mode }

-- a file of user 1 and group 10, which all may read; and one that its group may write
abbrev readable : Ownership
readable = owned 1 10 (octal 6 4 4)

abbrev shared : Ownership
shared = owned 1 10 (octal 6 6 4)

-- a folder as /tmp is, with the sticky bit; one of user 1; and one that group 10 shares
abbrev sticky : Ownership
sticky = owned 0 0 (512 + octal 7 7 7)

abbrev private : Ownership
private = owned 1 10 (octal 7 5 5)

abbrev common : Ownership
common = owned 1 10 (octal 7 7 5)

-- the owner's log counts, also in a folder for all; so does root's
own_log : log_counts readable (owned 1 10 (octal 6 4 4)) sticky 3 ≡ true
own_log = refl

log_of_root : log_counts readable (owned 0 0 (octal 6 0 0)) private 3 ≡ true
log_of_root = refl

-- a log that another made in /tmp does not count, but for himself
log_of_a_reader : log_counts readable (owned 2 10 (octal 6 4 4)) sticky 1 ≡ false
log_of_a_reader = refl

own_log_of_a_reader : log_counts readable (owned 2 20 (octal 6 4 4)) sticky 2 ≡ true
own_log_of_a_reader = refl

-- a log that a member of the group made counts if the group may write the file and nobody else the folder
log_of_a_member : log_counts shared (owned 2 10 (octal 6 6 4)) common 3 ≡ true
log_of_a_member = refl

log_of_a_member_in_a_sticky_folder : log_counts shared (owned 2 10 (octal 6 6 4)) sticky 3 ≡ false
log_of_a_member_in_a_sticky_folder = refl

log_of_a_member_who_reads : log_counts readable (owned 2 10 (octal 6 4 4)) common 3 ≡ false
log_of_a_member_who_reads = refl

-- the owner's log does not count if others may write it, or a group that may not write the file
log_for_all : log_counts readable (owned 1 10 (octal 6 6 6)) private 1 ≡ false
log_for_all = refl

log_for_another_group : log_counts shared (owned 1 20 (octal 6 6 4)) private 1 ≡ false
log_for_another_group = refl

-- a log's mode has none of the bits above, and none to execute
mode_of_a_log : log_mode (2048 + octal 7 5 4) ≡ octal 6 4 4
mode_of_a_log = refl
