-- A new file grants nobody but its owner more than the old one.
use Rattle.std.proofs.Common.{◌≡◌, ◌≢◌, ℕ, sym, ◌∙◌, ap, List, Option, Some, None, inl, inr}
use Rattle.std.proofs.Common.{Bool, true, false, ◌==◌, cond, ◌&&◌, ◌||◌}
use Rattle.std.proofs.lemmas.Bool.{and_parts, cases_Bool, cases_eq, eqb-true, ne_eqb}
use Rattle.file_rights.specs.declared.access_lists.ListEntry.{ListEntry}
use Rattle.file_rights.specs.declared.classes.Classes.{Classes}
use Rattle.file_rights.specs.declared.narrowing.AccessList.{AccessList}
use Rattle.file_rights.specs.declared.narrowing.AccessList.TheVariants.{Absent, Unreadable, Bytes}
use Rattle.file_rights.specs.declared.rights.Rights.{Rights}
use Rattle.file_rights.specs.Rights.{no_rights, covers}
use Rattle.file_rights.specs.Modes.{classes_of}
use Rattle.file_rights.specs.AccessLists.{first_rights, list_of, mask_of, or_else}
use Rattle.file_rights.specs.Access.{User, OwnedFile, may_access, may_by, may_by_entries, named_rights, NeverWidens}
use Rattle.file_rights.specs.Narrowing.{keeps_list, keeps_listed, new_classes, new_rights, old_classes, sets_list}
use Rattle.file_rights.specs.Narrowing.{special_bits, without_group, without_owner, ListNarrows, MayBeList, ModeNarrows}
use Rattle.file_rights.proofs.access_lists.Granting.{entries_within}
use Rattle.file_rights.proofs.classes.Bits.{classes_back}
use Rattle.file_rights.proofs.narrowing.Floors.{IsFloor, old_floor}
use Rattle.file_rights.proofs.rights.Covering.{covers_left, covers_right}

-- ---- the classes that are left

module _ (f : Classes) (want : Rights) where
  kept_group : (has_owner : Bool) → covers (without_owner has_owner f).group want ≡ true
      → covers f.group want ≡ true
  kept_group true c = c
  kept_group false c = covers_left f.group f.owner want c

  kept_other : (has_owner : Bool) → covers (without_owner has_owner f).other want ≡ true
      → covers f.other want ≡ true
  kept_other true c = c
  kept_other false c = covers_left f.other f.owner want c

  owner_in_group : (has_owner : Bool) → has_owner ≡ false → covers (without_owner has_owner f).group want ≡ true
      → covers f.owner want ≡ true
  owner_in_group true is c = absurd (cc is)
  owner_in_group false is c = covers_right f.group f.owner want c

  owner_in_other : (has_owner : Bool) → has_owner ≡ false → covers (without_owner has_owner f).other want ≡ true
      → covers f.owner want ≡ true
  owner_in_other true is c = absurd (cc is)
  owner_in_other false is c = covers_right f.other f.owner want c

  group_in_group : (has_group : Bool) → covers (without_group has_group f).group want ≡ true
      → covers f.group want ≡ true
  group_in_group true c = c
  group_in_group false c = covers_left f.group f.other want c

  other_in_other : (has_group : Bool) → covers (without_group has_group f).other want ≡ true
      → covers f.other want ≡ true
  other_in_other true c = c
  other_in_other false c = covers_right f.group f.other want c

  other_in_group : (has_group : Bool) → has_group ≡ false → covers (without_group has_group f).group want ≡ true
      → covers f.other want ≡ true
  other_in_group true is c = absurd (cc is)
  other_in_group false is c = covers_right f.group f.other want c

  group_in_other : (has_group : Bool) → has_group ≡ false → covers (without_group has_group f).other want ≡ true
      → covers f.group want ≡ true
  group_in_other true is c = absurd (cc is)
  group_in_other false is c = covers_left f.group f.other want c

-- ---- a user of the new file, who does not own it

owner_is_new : (old : OwnedFile) (owner : ℕ) (has_owner : Bool) → (has_owner ≡ true → owner ≡ old.owner) → (user : User)
    → user.uid ≢ owner → user.uid ≡ old.owner → has_owner ≡ false
owner_is_new old owner has_owner owners user apart is = elim (cases_Bool has_owner) [
  | inl same ↦ absurd (apart (is ∙ sym (owners same)))
  | inr new ↦ new
]

module _ (old : OwnedFile) (f : Classes) (floor : IsFloor old f) (owner group : ℕ) (has_owner has_group : Bool)
    (owners : has_owner ≡ true → owner ≡ old.owner) (groups : has_group ≡ true → group ≡ old.group) (user : User)
    (want : Rights) (apart : user.uid ≢ owner) where
  abbrev left : Classes
  left = without_owner has_owner f

  new_owner : user.uid ≡ old.owner → has_owner ≡ false
  new_owner = owner_is_new old owner has_owner owners user apart

  group_is_new : (a b : Bool) → user.is_in group ≡ a → user.is_in old.group ≡ b → (a ≡ b → ⊥) → has_group ≡ false
  group_is_new a b is was differ = elim (cases_Bool has_group) [
    | inl same ↦ absurd (differ (sym is ∙ ap user.is_in (groups same) ∙ was))
    | inr new ↦ new
  ]

  in_group : user.is_in group ≡ true → covers (without_group has_group left).group want ≡ true
      → may_access user old want ≡ true
  in_group member c =
      let of_group = group_in_group left want has_group c in
      elim (cases_eq user.uid old.owner) [
        | inl own ↦ floor.owner user want own (owner_in_group f want has_owner (new_owner own) of_group)
        | inr other ↦ elim (cases_Bool (user.is_in old.group)) [
          | inl was ↦ floor.group user want other was (kept_group f want has_owner of_group)
          | inr was ↦ floor.other user want other was (kept_other f want has_owner
              (other_in_group left want has_group (group_is_new true false member was (λ is. cc is)) c))
        ]
      ]

  in_other : user.is_in group ≡ false → covers (without_group has_group left).other want ≡ true
      → may_access user old want ≡ true
  in_other out c =
      let of_other = other_in_other left want has_group c in
      elim (cases_eq user.uid old.owner) [
        | inl own ↦ floor.owner user want own (owner_in_other f want has_owner (new_owner own) of_other)
        | inr other ↦ elim (cases_Bool (user.is_in old.group)) [
          | inl was ↦ floor.group user want other was (kept_group f want has_owner
              (group_in_other left want has_group (group_is_new false true out was (λ is. cc is)) c))
          | inr was ↦ floor.other user want other was (kept_other f want has_owner of_other)
        ]
      ]

-- the mode of the new file
pub mode_narrows : (mode : ℕ) (list : AccessList) (has_owner has_group : Bool) (new_mode : ℕ)
    → new_mode ≡ (new_rights mode list has_owner has_group).mode
    → ModeNarrows mode list has_owner has_group new_mode
mode_narrows mode list has_owner has_group new_mode is old owner group modes lists owners groups user want apart may =
    let f = old_classes mode list in
    let floor = old_floor old mode list modes lists in
    let narrow = without_group has_group (without_owner has_owner f) in
    let classes : classes_of new_mode ≡ new_classes mode narrow =
    classes_back new_mode (special_bits has_owner has_group mode) (new_classes mode narrow) is in
    let by_class : Bool → Classes → Bool = λ t c. cond t (covers c.group want) (covers c.other want) in
    let by : by_class (user.is_in group) narrow ≡ true =
    sym (ap (λ t. cond t (covers (classes_of new_mode).owner want)
    (by_class (user.is_in group) (classes_of new_mode))) (ne_eqb _ _ apart)
    ∙ ap (by_class (user.is_in group)) classes) ∙ may in
    elim (cases_Bool (user.is_in group)) [
      | inl member ↦ in_group old f floor owner group has_owner has_group owners groups user want apart member
          (sym (ap (λ t. by_class t narrow) member) ∙ by)
      | inr out ↦ in_other old f floor owner group has_owner has_group owners groups user want apart out
          (sym (ap (λ t. by_class t narrow) out) ∙ by)
    ]

-- ---- the list of the new file

owner_or : (has_owner : Bool) (mask other : Bool) → (has_owner || (mask && other)) ≡ true → has_owner ≡ false
    → (mask && other) ≡ true
owner_or true mask other is new = absurd (cc new)
owner_or false mask other is new = is

entries_narrow : (list : Option (List ListEntry)) (has_owner has_group : Bool)
    → keeps_listed has_owner has_group list ≡ true → (old : OwnedFile) (owner group mode : ℕ)
    → MayBeList list old.list → (has_owner ≡ true → owner ≡ old.owner) → (has_group ≡ true → group ≡ old.group)
    → NeverWidens old (record { owner = owner; group = group; mode = mode; list = old.list })
entries_narrow None has_owner has_group is old owner group mode lists owners groups user want apart may =
    absurd (cc is)
entries_narrow (Some entries) has_owner has_group is old owner group mode lists owners groups user want apart may =
    let parts = and_parts has_group (keeps_list has_owner entries) is in
    let had : Rights = or_else no_rights (first_rights 1 entries) in
    let rest : Rights = or_else no_rights (first_rights 32 entries) in
    let named : Option Rights = named_rights user.uid entries in
    let new : OwnedFile = record { owner = owner; group = group; mode = mode; list = old.list } in
    let by : may_by_entries user old.group entries want named ≡ true =
    sym (ap (may_by user new want) lists
    ∙ ap (λ t. cond t (covers had want) (may_by_entries user group entries want named)) (ne_eqb _ _ apart)
    ∙ ap (λ g. may_by_entries user g entries want named) (groups parts.0)) ∙ may in
    ap (may_by user old want) lists
    ∙ elim (cases_Bool (user.uid == old.owner)) [
      | inl own ↦
          let new_owner = owner_is_new old owner has_owner owners user apart (eqb-true _ _ own) in
          let both = and_parts (covers had (mask_of entries)) (covers had rest)
          (owner_or has_owner (covers had (mask_of entries)) (covers had rest) parts.1 new_owner) in
          ap (λ t. cond t (covers had want) (may_by_entries user old.group entries want named)) own
          ∙ entries_within user old.group want had entries named both.0 both.1 by
      | inr other ↦
          ap (λ t. cond t (covers had want) (may_by_entries user old.group entries want named)) other ∙ by
    ]

-- the list of the new file
pub list_narrows : (list : AccessList) (has_owner has_group : Bool) → sets_list list has_owner has_group ≡ true
    → ListNarrows list has_owner has_group
list_narrows Absent has_owner has_group is = absurd (cc is)
list_narrows Unreadable has_owner has_group is = absurd (cc is)
list_narrows (Bytes bytes) has_owner has_group is = entries_narrow (list_of bytes.now) has_owner has_group is
