-- No other mode that never widens is wider.
use Rattle.std.proofs.Common.{◌≡◌, ◌≢◌, ℕ, refl, ◌∙◌, ap, arith, None}
use Rattle.std.proofs.Common.{Bool, true, false, ◌==◌, if◌then◌else◌}
use Rattle.file_rights.specs.declared.classes.Classes.{Classes}
use Rattle.file_rights.specs.declared.narrowing.AccessList.TheVariants.{Absent}
use Rattle.file_rights.specs.declared.rights.Rights.{Rights}
use Rattle.file_rights.specs.Rights.{common, covers}
use Rattle.file_rights.specs.Modes.{classes_of}
use Rattle.file_rights.specs.Access.{User, OwnedFile, may_access}
use Rattle.file_rights.specs.Narrowing.{new_classes, new_rights, special_bits, without_group, without_owner}
use Rattle.file_rights.specs.Narrowing.{ModeNarrows}
use Rattle.file_rights.specs.Laws.{NewModeIsWidest}
use Rattle.file_rights.proofs.classes.Bits.{classes_back}
use Rattle.file_rights.proofs.rights.Covering.{covers_both, covers_self}

-- a user of this number, who is in groups 1 and 2 or not
abbrev some_user : ℕ → Bool → Bool → User
some_user uid in_first in_second =
    record { uid = uid; is_in = λ g. if g == 1 then in_first else if g == 2 then in_second else false }

-- the number of the new owner or group, where the old one is 1
abbrev number_of : Bool → ℕ
number_of same = if same then 1 else 2

-- the old file
abbrev old_file : ℕ → OwnedFile
old_file mode = record { owner = 1; group = 1; mode = mode; list = None }

owner_same : (has_owner : Bool) → has_owner ≡ true → number_of has_owner ≡ 1
owner_same true is = refl
owner_same false is = absurd (cc is)

module _ (mode other_mode : ℕ) where
  abbrev was : Classes
  was = classes_of mode

  abbrev now : Classes
  now = classes_of other_mode

  module _ (has_owner has_group : Bool) (narrows : ModeNarrows mode Absent has_owner has_group other_mode) where
    use_it : (user : User) (want : Rights) → user.uid ≢ number_of has_owner
        → may_access user (record {
          owner = number_of has_owner;
          group = number_of has_group;
          mode = other_mode;
          list = None;
        }) want ≡ true
        → may_access user (old_file mode) want ≡ true
    use_it = narrows (old_file mode) (number_of has_owner) (number_of has_group) refl refl (owner_same has_owner)
        (owner_same has_group)

  three : (number : ℕ) → number ≡ 1 → 3 ≢ number
  three number is = omega (arith, is)

  widest : (has_owner has_group : Bool) → ModeNarrows mode Absent has_owner has_group other_mode
      → (covers (without_group has_group (without_owner has_owner was)).group now.group ≡ true)
      × (covers (without_group has_group (without_owner has_owner was)).other now.other ≡ true)
  widest true true narrows =
      let h = use_it true true narrows in (
        h (some_user 3 true false) now.group (omega arith) (covers_self now.group),
        h (some_user 3 false false) now.other (omega arith) (covers_self now.other),
      )
  widest false true narrows =
      let h = use_it false true narrows in (
        covers_both was.group was.owner now.group
            (h (some_user 3 true false) now.group (omega arith) (covers_self now.group))
            (h (some_user 1 true false) now.group (omega arith) (covers_self now.group)),
        covers_both was.other was.owner now.other
            (h (some_user 3 false false) now.other (omega arith) (covers_self now.other))
            (h (some_user 1 false false) now.other (omega arith) (covers_self now.other)),
      )
  widest true false narrows =
      let h = use_it true false narrows in (
        covers_both was.group was.other now.group
            (h (some_user 3 true true) now.group (omega arith) (covers_self now.group))
            (h (some_user 3 false true) now.group (omega arith) (covers_self now.group)),
        covers_both was.group was.other now.other
            (h (some_user 3 true false) now.other (omega arith) (covers_self now.other))
            (h (some_user 3 false false) now.other (omega arith) (covers_self now.other)),
      )
  widest false false narrows =
      let h = use_it false false narrows in (
        covers_both (common was.group was.owner) (common was.other was.owner) now.group
            (covers_both was.group was.owner now.group
            (h (some_user 3 true true) now.group (omega arith) (covers_self now.group))
            (h (some_user 1 true true) now.group (omega arith) (covers_self now.group)))
            (covers_both was.other was.owner now.group
            (h (some_user 3 false true) now.group (omega arith) (covers_self now.group))
            (h (some_user 1 true true) now.group (omega arith) (covers_self now.group))),
        covers_both (common was.group was.owner) (common was.other was.owner) now.other
            (covers_both was.group was.owner now.other
            (h (some_user 3 true false) now.other (omega arith) (covers_self now.other))
            (h (some_user 1 true false) now.other (omega arith) (covers_self now.other)))
            (covers_both was.other was.owner now.other
            (h (some_user 3 false false) now.other (omega arith) (covers_self now.other))
            (h (some_user 1 true false) now.other (omega arith) (covers_self now.other))),
      )

-- no other mode that never widens grants the group or the others more
pub new_mode_is_widest : NewModeIsWidest
new_mode_is_widest mode has_owner has_group other_mode narrows =
    let narrow = without_group has_group (without_owner has_owner (classes_of mode)) in
    let classes : classes_of (new_rights mode Absent has_owner has_group).mode ≡ new_classes mode narrow =
    classes_back (new_rights mode Absent has_owner has_group).mode (special_bits has_owner has_group mode)
    (new_classes mode narrow) refl in
    let both = widest mode other_mode has_owner has_group narrows in
    record {
      group = ap (λ c. covers c.group (classes_of other_mode).group) classes ∙ both.0;
      other = ap (λ c. covers c.other (classes_of other_mode).other) classes ∙ both.1;
    }
