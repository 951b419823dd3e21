-- Access lists, as the system writes them: the version, which is 2, in four bytes, the lowest first; then for each
-- entry two bytes of a tag, two of rights and four of a number.
use Rattle.std.specs.Prelude.{ℕ, ◌+◌, ◌*◌, ◌%◌, ◌&&◌, ◌==◌, if◌then◌else◌, List, [], ◌∷◌, length}
use Rattle.std.specs.Prelude.{Option, Some, None}
use Rattle.file_rights.specs.declared.access_lists.ListEntry.{ListEntry}
use Rattle.file_rights.specs.declared.classes.Classes.{Classes}
use Rattle.file_rights.specs.declared.rights.Rights.{Rights}
use Rattle.file_rights.specs.Rights.{all_rights, no_rights, common, rights_of}

-- An entry is for whom its tag says: 1 is the owner, 2 a named user, 4 the owning group, 8 a named group, 16 the mask,
-- 32 the others. The number is that of the named user or group.
abbrev pub entries_of : List ℕ → List ListEntry
entries_of (t ∷ u ∷ p ∷ q ∷ a ∷ b ∷ c ∷ d ∷ bytes) =
    record { tag = t + u * 256; rights = rights_of p; number = a + b * 256 + c * 65_536 + d * 16_777_216 }
    ∷ entries_of bytes
entries_of _ = []

-- the entries of a list, if these are the bytes of one
abbrev pub list_of : List ℕ → Option (List ListEntry)
list_of (a ∷ b ∷ c ∷ d ∷ bytes) =
    if (a == 2) && ((b == 0) && ((c == 0) && ((d == 0) && (length bytes % 8 == 0)))) then Some (entries_of bytes)
    else None
list_of _ = None

-- the rights in an entry that may be there
abbrev pub or_else : Rights → Option Rights → Rights
or_else other None = other
or_else other (Some rights) = rights

-- the rights in the first entry with a tag
abbrev pub first_rights : ℕ → List ListEntry → Option Rights
first_rights tag [] = None
first_rights tag (entry ∷ entries) = if entry.tag == tag then Some entry.rights else first_rights tag entries

-- what the mask leaves; without a mask entry all
abbrev pub mask_of : List ListEntry → Rights
mask_of entries = or_else all_rights (first_rights 16 entries)

-- what each entry with a tag grants within a mask
abbrev pub common_within : ℕ → Rights → List ListEntry → Rights
common_within tag mask [] = all_rights
common_within tag mask (entry ∷ entries) =
    if entry.tag == tag then common (common entry.rights mask) (common_within tag mask entries)
    else common_within tag mask entries

-- what a list grants each user of a class, whoever he is: within the mask the members of the owning group get what its
-- entry grants and those of all named users; the others what theirs grants, and those of all named users and groups
abbrev pub list_classes : List ListEntry → Classes
list_classes entries = record {
  owner = or_else no_rights (first_rights 1 entries);
  group = common (common (or_else no_rights (first_rights 4 entries)) (mask_of entries))
      (common_within 2 (mask_of entries) entries);
  other = common (or_else no_rights (first_rights 32 entries))
      (common (common_within 2 (mask_of entries) entries) (common_within 8 (mask_of entries) entries));
}
