-- What an old file grants each user of a class, whoever he is.
use Rattle.std.proofs.Common.{◌≡◌, ◌≢◌, ℕ, refl, ◌∙◌, ap, subst, List, Option, Some, None}
use Rattle.std.proofs.Common.{Bool, true, false, ◌==◌, cond}
use Rattle.std.proofs.lemmas.Bool.{eq-eqb, ne_eqb}
use Rattle.file_rights.specs.declared.access_lists.ListEntry.{ListEntry}
use Rattle.file_rights.specs.declared.classes.Classes.{Classes}
use Rattle.file_rights.specs.declared.narrowing.AccessList.{AccessList}
use Rattle.file_rights.specs.declared.narrowing.AccessList.TheVariants.{Absent, Unreadable, Bytes}
use Rattle.file_rights.specs.declared.rights.Rights.{Rights}
use Rattle.file_rights.specs.Rights.{no_rights, covers}
use Rattle.file_rights.specs.Modes.{classes_of}
use Rattle.file_rights.specs.AccessLists.{first_rights, list_classes, list_of, or_else}
use Rattle.file_rights.specs.Access.{User, OwnedFile, may_access, may_by, may_by_entries, named_rights}
use Rattle.file_rights.specs.Narrowing.{listed_classes, old_classes, MayBeList, MayHaveList}
use Rattle.file_rights.proofs.rights.Covering.{covers_nothing}
use Rattle.file_rights.proofs.access_lists.Granting.{choose, group_may, nothing_by_entries, other_may}

-- each user of a class may do with the file what its rights grant
pub record IsFloor (file : OwnedFile) (f : Classes) : Type 0 where
  pub owner : (user : User) (want : Rights) → user.uid ≡ file.owner → covers f.owner want ≡ true
      → may_access user file want ≡ true
  pub group : (user : User) (want : Rights) → user.uid ≢ file.owner → user.is_in file.group ≡ true
      → covers f.group want ≡ true → may_access user file want ≡ true
  pub other : (user : User) (want : Rights) → user.uid ≢ file.owner → user.is_in file.group ≡ false
      → covers f.other want ≡ true → may_access user file want ≡ true

module _ (file : OwnedFile) where
  module _ (user : User) (want : Rights) where
    abbrev owns : Bool
    owns = user.uid == file.owner

    abbrev mode_owner : Bool
    mode_owner = covers (classes_of file.mode).owner want

    abbrev mode_others : Bool → Bool
    mode_others inside =
        cond inside (covers (classes_of file.mode).group want) (covers (classes_of file.mode).other want)

    nothing_may : (list : Option (List ListEntry)) → covers no_rights want ≡ true
        → may_by user file want list ≡ true
    nothing_may None nothing =
        choose owns mode_owner (mode_others (user.is_in file.group))
        (λ _. covers_nothing (classes_of file.mode).owner want nothing)
        (λ _. choose (user.is_in file.group) (covers (classes_of file.mode).group want)
        (covers (classes_of file.mode).other want)
        (λ _. covers_nothing (classes_of file.mode).group want nothing)
        (λ _. covers_nothing (classes_of file.mode).other want nothing))
    nothing_may (Some entries) nothing =
        choose owns (covers (or_else no_rights (first_rights 1 entries)) want)
        (may_by_entries user file.group entries want (named_rights user.uid entries))
        (λ _. covers_nothing (or_else no_rights (first_rights 1 entries)) want nothing)
        (λ _. nothing_by_entries user file.group want entries (named_rights user.uid entries) nothing)

  floor_of_nothing : IsFloor file (classes_of 0)
  floor_of_nothing = record {
    owner = λ user want is c. nothing_may user want file.list c;
    group = λ user want is member c. nothing_may user want file.list c;
    other = λ user want is out c. nothing_may user want file.list c;
  }

  module _ (without : file.list ≡ None) where
    floor_of_mode : IsFloor file (classes_of file.mode)
    floor_of_mode = record {
      owner = λ user want is c.
          ap (may_by user file want) without
          ∙ ap (λ t. cond t (mode_owner user want) (mode_others user want (user.is_in file.group))) (eq-eqb _ _ is)
          ∙ c;
      group = λ user want is member c.
          ap (may_by user file want) without
          ∙ ap (λ t. cond t (mode_owner user want) (mode_others user want (user.is_in file.group))) (ne_eqb _ _ is)
          ∙ ap (mode_others user want) member ∙ c;
      other = λ user want is out c.
          ap (may_by user file want) without
          ∙ ap (λ t. cond t (mode_owner user want) (mode_others user want (user.is_in file.group))) (ne_eqb _ _ is)
          ∙ ap (mode_others user want) out ∙ c;
    }

  module _ (entries : List ListEntry) (with : file.list ≡ Some entries) where
    floor_of_list : IsFloor file (list_classes entries)
    floor_of_list =
        let by : User → Rights → Bool → Bool = λ user want t.
        cond t (covers (or_else no_rights (first_rights 1 entries)) want)
        (may_by_entries user file.group entries want (named_rights user.uid entries)) in
        record {
          owner = λ user want is c.
              ap (may_by user file want) with ∙ ap (by user want) (eq-eqb _ _ is) ∙ c;
          group = λ user want is member c.
              ap (may_by user file want) with ∙ ap (by user want) (ne_eqb _ _ is)
              ∙ group_may user file.group want entries (named_rights user.uid entries) refl member c;
          other = λ user want is out c.
              ap (may_by user file want) with ∙ ap (by user want) (ne_eqb _ _ is)
              ∙ other_may user file.group want entries (named_rights user.uid entries) refl out c;
        }

  floor_of_bytes : (list : Option (List ListEntry)) → MayBeList list file.list → IsFloor file (listed_classes list)
  floor_of_bytes None may = floor_of_nothing
  floor_of_bytes (Some entries) may = floor_of_list entries may

  -- what an old file grants each user of a class, by what is known of it
  pub old_floor : (mode : ℕ) (list : AccessList) → file.mode ≡ mode → MayHaveList list file.list
      → IsFloor file (old_classes mode list)
  old_floor mode Absent modes may = subst (λ m. IsFloor file (classes_of m)) modes (floor_of_mode may)
  old_floor mode Unreadable modes may = floor_of_nothing
  old_floor mode (Bytes bytes) modes may = floor_of_bytes (list_of bytes.now) may
