-- The bits above the classes, and what is kept where owner and group are the same.
use Rattle.std.proofs.Common.{◌≡◌, ◌<◌, ◌+◌, ◌*◌, ◌/◌, ◌%◌, ℕ, refl, ap, arith, List, Option, Some, None}
use Rattle.std.proofs.Common.{Bool, true, false}
use Rattle.file_rights.specs.declared.access_lists.ListEntry.{ListEntry}
use Rattle.file_rights.specs.declared.narrowing.AccessList.{AccessList}
use Rattle.file_rights.specs.declared.narrowing.AccessList.TheVariants.{Absent, Unreadable, Bytes}
use Rattle.file_rights.specs.declared.narrowing.NewRights.{NewRights}
use Rattle.file_rights.specs.Modes.{classes_of, mode_of}
use Rattle.file_rights.specs.AccessLists.{list_of}
use Rattle.file_rights.specs.Narrowing.{keeps_listed, listed_classes, new_classes, new_rights, special_bits}
use Rattle.file_rights.specs.Narrowing.{KeepsIds, KeepsList, KeepsRights}
use Rattle.file_rights.proofs.classes.Bits.{mode_back, mode_below}

-- three bits
pub special_below : (has_owner has_group : Bool) (mode : ℕ) → special_bits has_owner has_group mode < 8
special_below true true mode = omega arith
special_below true false mode = omega arith
special_below false has_group mode = omega arith

-- set-user-ID and set-group-ID
pub keeps_ids : (has_owner has_group : Bool) (mode low new_mode : ℕ) → low < 512
    → new_mode ≡ special_bits has_owner has_group mode * 512 + low → KeepsIds mode has_owner has_group new_mode
keeps_ids true true mode low new_mode below is = record {
  user = λ set. (refl, omega (arith, is, below));
  group = λ set. (refl, refl, omega (arith, is, below));
}
keeps_ids true false mode low new_mode below is = record {
  user = λ set. (refl, omega (arith, is, below));
  group = λ set. absurd (omega (arith, is, below));
}
keeps_ids false has_group mode low new_mode below is = record {
  user = λ set. absurd (omega (arith, is, below));
  group = λ set. absurd (omega (arith, is, below));
}

keeps_list : (mode : ℕ) (list : Option (List ListEntry)) (new : NewRights)
    → new.mode ≡ mode / 512 % 8 * 512 + mode_of (new_classes mode (listed_classes list))
    → new.sets_list ≡ keeps_listed true true list → KeepsList mode list new
keeps_list mode None new modes lists = tt
keeps_list mode (Some entries) new modes lists =
    (lists, omega (arith, modes, mode_below (new_classes mode (listed_classes (Some entries)))))

-- where owner and group are the same
pub keeps_rights : (mode : ℕ) (list : AccessList) (new : NewRights) → new ≡ new_rights mode list true true
    → KeepsRights mode list new
keeps_rights mode Absent new is =
    let modes : new.mode ≡ mode / 512 % 8 * 512 + mode_of (classes_of mode) = ap (λ n. n.mode) is in
    omega (arith, modes, mode_back mode)
keeps_rights mode Unreadable new is = tt
keeps_rights mode (Bytes bytes) new is =
    keeps_list mode (list_of bytes.now) new (ap (λ n. n.mode) is) (ap (λ n. n.sets_list) is)
