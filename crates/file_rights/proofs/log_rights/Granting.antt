-- A log's mode grants to read and to write what the file's does.
use Rattle.std.proofs.Common.{◌≡◌, ℕ, sym, ◌∙◌, ap, arith}
use Rattle.std.proofs.Common.{Bool, true, false, ◌==◌, cond}
use Rattle.file_rights.specs.declared.classes.Classes.{Classes}
use Rattle.file_rights.specs.declared.rights.Rights.{Rights}
use Rattle.file_rights.specs.Modes.{classes_of}
use Rattle.file_rights.specs.Rights.{covers, to_read, to_write, to_execute}
use Rattle.file_rights.specs.LogRights.{log_mode, unexecuted, GrantsAsMode}
use Rattle.file_rights.proofs.classes.Bits.{classes_back, mode_below}

abbrev of_class : Bool → Bool → Classes → Rights → Bool
of_class own in_group c want =
    cond own (covers c.owner want) (cond in_group (covers c.group want) (covers c.other want))

none : (own in_group : Bool) → cond own false (cond in_group false false) ≡ true → ⊥
none true in_group is = cc is
none false true is = cc is
none false false is = cc is

abbrev unexecuted_classes : Classes → Classes
unexecuted_classes c =
    record { owner = unexecuted c.owner; group = unexecuted c.group; other = unexecuted c.other }

module _ (mode log : ℕ) (is : log ≡ log_mode mode) where
  classes_are : classes_of log ≡ unexecuted_classes (classes_of mode)
  classes_are = classes_back log 0 (unexecuted_classes (classes_of mode)) (omega (arith, is))

  -- a log's mode grants what the mode grants, but not to execute
  pub grants_as_mode : GrantsAsMode mode log
  grants_as_mode = record {
    read = λ user owner group.
        let e = ap (λ c. of_class (user.uid == owner) (user.is_in group) c to_read) classes_are in
        (λ may. sym e ∙ may, λ may. e ∙ may);
    write = λ user owner group.
        let e = ap (λ c. of_class (user.uid == owner) (user.is_in group) c to_write) classes_are in
        (λ may. sym e ∙ may, λ may. e ∙ may);
    execute = λ user owner group may.
        none (user.uid == owner) (user.is_in group)
        (sym (ap (λ c. of_class (user.uid == owner) (user.is_in group) c to_execute) classes_are) ∙ may);
    bits = omega (arith, is, mode_below (unexecuted_classes (classes_of mode)));
  }
