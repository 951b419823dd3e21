-- What a crash may leave of both files while the end of a log is repaired, and while a log is emptied.
use Rattle.std.proofs.Common.{◌≡◌, ⊎_elim, ℕ, List, get_or, sym, ◌∙◌, ap, subst, inl, inr}
use Rattle.segment_log.specs.Crashes.{LoggedFile, TornWrite, WritesLog, ReplacesBase, Follows, TornFrom, ReplacedFrom}
use Rattle.segment_log.specs.Crashes.{LogIs, BaseIs, Only}
use Rattle.segment_log.specs.Records.{recovered, IsAjar, IsEndOfLog}
use Rattle.segment_log.specs.Edits.{applied_all, stands_for, StandsFor, SameRecords, KeepsOrPlaces}
use Rattle.segment_log.proofs.theorems.Repair.{repair_crash, empty_crash}
use Rattle.segment_log.proofs.theorems.Steps.{base_after, base_of_only, same_files}
use Rattle.segment_log.proofs.edits.Twice.{applied_twice}

-- the same file with the same records stands for the same image
pub same_image : (files c : LoggedFile) → SameRecords files c → stands_for c ≡ stands_for files
same_image files c has = λ i. applied_all (has.log i) (has.base i)

-- a crash while the gate is shut leaves the records
pub repair_moment : (files : LoggedFile) (end : ℕ) → IsEndOfLog 4096 files.log end → IsAjar 4096 files.log end
    → (old : LoggedFile → Type 0) → Only files old → (n : ℕ) → n ≡ 4096 → (c : LoggedFile) → TornFrom end n old c
    → SameRecords files c
repair_moment files end ends ajar old only n is c from =
    let there : TornWrite end n files.log c.log =
    subst (λ (d : LoggedFile). TornWrite end n d.log c.log) (only from.0 from.1) from.2.torn in
    let torn : TornWrite end 4096 files.log c.log = subst (λ (k : ℕ). TornWrite end k files.log c.log) is there in
    record {
      base = from.2.base ∙ base_of_only files old only from.0 from.1;
      log =
          repair_crash 4095 files.log end ends ajar c.log torn;
    }

pub all_lasts : (files new : LoggedFile) (old out : LoggedFile → Type 0) (at n : ℕ) → BaseIs files.base old
    → new.base ≡ files.base → Follows (WritesLog at n) old out → LogIs new.log out → Only new out
all_lasts files new old out at n is base follows lasts c left =
    same_files c new (base_after files old out at n is follows c left ∙ sym base) (lasts c left)

module _ (files : LoggedFile) (image : List ℕ) (is : image ≡ stands_for files) (old : LoggedFile → Type 0)
    (only : Only files old) where
  again : applied_all (recovered files.log) image ≡ image
  again = ap (applied_all (recovered files.log)) is ∙ applied_twice (recovered files.log) files.base ∙ sym is

  with_base : (c : LoggedFile) → recovered c.log ≡ recovered files.log → c.base ≡ image → stands_for c ≡ image
  with_base c log base = (λ i. applied_all (log i) (base i)) ∙ again

  -- each state of a checkpoint stands for the image
  pub mid_image : (c : LoggedFile) → KeepsOrPlaces files image c → StandsFor image c
  mid_image c (inl has) = same_image files c has ∙ sym is
  mid_image c (inr placed) =
      ⊎_elim (λ same. with_base c same placed.0) (λ none. λ i. applied_all (none i) (placed.0 i)) placed.1

  -- a crash while the file is replaced leaves the old file or the new one
  pub replaced_moment : (c : LoggedFile) → ReplacedFrom image old c → KeepsOrPlaces files image c
  replaced_moment c from =
      let log : recovered c.log ≡ recovered files.log =
      ap recovered (from.2.log ∙ ap (λ (f : LoggedFile). f.log) (only from.0 from.1)) in
      ⊎_elim (λ kept. inl (record { base = kept ∙ base_of_only files old only from.0 from.1; log = log }))
      (λ new. inr (new, inl log)) from.2.base

  module _ (mid : LoggedFile → Type 0) (placed : BaseIs image mid)
      (follows : Follows (ReplacesBase image) old mid) where
    log_of_mid : (c : LoggedFile) → mid c → c.log ≡ files.log
    log_of_mid c left = let from = follows c left in from.2.log ∙ ap (λ (f : LoggedFile). f.log) (only from.0 from.1)

    -- a crash while the log is emptied leaves its records or none
    pub emptied_moment : get_or files.log 0 0 ≡ 1 → (n : ℕ) → n ≡ 4096 → (c : LoggedFile) → TornFrom 0 n mid c
        → KeepsOrPlaces files image c
    emptied_moment marked n size c from =
        let there : TornWrite 0 n files.log c.log =
        subst (λ (l : List ℕ). TornWrite 0 n l c.log) (log_of_mid from.0 from.1) from.2.torn in
        let torn : TornWrite 0 4096 files.log c.log = subst (λ (k : ℕ). TornWrite 0 k files.log c.log) size there in
        let base : c.base ≡ image = from.2.base ∙ placed from.0 from.1 in
        ⊎_elim (λ none. inr (base, inr none)) (λ same. inr (base, inl same))
        (empty_crash 4095 files.log c.log marked torn)
