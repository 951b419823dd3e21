-- What a crash may leave of both files after each write of a commit.
use Rattle.std.proofs.Common.{◌≡◌, inl, ℕ, ◌+◌, ◌^◌, ◌<◌, List, [], ◌∷◌, ◌++◌, length, get_or, sym, ◌∙◌, ap, subst}
use Rattle.segment_log.specs.Crashes.{LoggedFile, WritesAt, TornWrite, WritesLog, Follows, TornFrom, LogIs, Only}
use Rattle.segment_log.specs.Records.{recovered, record_body, open_gate, shut_gate, EndsShut, KeepsOrAddsRecord}
use Rattle.segment_log.proofs.theorems.Crash.{behind_keeps, gate_crash, added, ends_now}
use Rattle.segment_log.proofs.records.Pieces.{length-open, length-shut, open_first, shut_first}

-- a file and a log make up both
pub same_files : (c d : LoggedFile) → c.base ≡ d.base → c.log ≡ d.log → c ≡ d
same_files c d base log = λ i. record { base = base i; log = log i }

-- the base is the same after a write to the log
pub base_after : (files : LoggedFile) (old new : LoggedFile → Type 0) (at n : ℕ)
    → ((c : LoggedFile) → old c → c.base ≡ files.base) → Follows (WritesLog at n) old new → (c : LoggedFile) → new c
    → c.base ≡ files.base
base_after files old new at n is follows c left = let from = follows c left in from.2.base ∙ is from.0 from.1

-- the file is the same if nothing else is left
pub base_of_only : (files : LoggedFile) (old : LoggedFile → Type 0) → Only files old → (c : LoggedFile) → old c
    → c.base ≡ files.base
base_of_only files old only c left = ap (λ (f : LoggedFile). f.base) (only c left)

module _ (files : LoggedFile) (end : ℕ) (ends : EndsShut 4096 files.log end) (payload : List ℕ) (old : LoggedFile
    → Type 0) (only : Only files old) where
  -- a crash while the body is written leaves the records
  pub stage_moment : (n : ℕ) (c : LoggedFile) → TornFrom (end + 4096) n old c → KeepsOrAddsRecord files payload c
  stage_moment n c from =
      let torn : TornWrite (end + 4096) n files.log c.log =
      subst (λ (d : LoggedFile). TornWrite (end + 4096) n d.log c.log) (only from.0 from.1) from.2.torn in
      record {
        base = from.2.base ∙ base_of_only files old only from.0 from.1;
        log = inl (behind_keeps 4095 files.log end ends n c.log torn);
      }

  module _ (small : length payload < 256 ^ 8) (staged bytes block done : List ℕ)
      (bytes_are : bytes ≡ record_body payload) (holds : WritesAt files.log (end + 4096) bytes staged)
      (mid : LoggedFile → Type 0) (n : ℕ) (follows : Follows (WritesLog (end + 4096) n) old mid)
      (is : LogIs staged mid) (block_is : block ≡ open_gate) where
    abbrev held : WritesAt files.log (end + 4096) (record_body payload) staged
    held = subst (λ (b : List ℕ). WritesAt files.log (end + 4096) b staged) bytes_are holds

    size : length block ≡ 4096
    size = ap length block_is ∙ length-open

    first : get_or block 0 0 ≡ 1
    first = ap (λ (l : List ℕ). get_or l 0 0) block_is ∙ open_first

    -- a crash while the gate is opened leaves the records, with the new one or without
    pub gate_moment : (c : LoggedFile) → TornFrom end (length block) mid c → KeepsOrAddsRecord files payload c
    gate_moment c from =
        let wide : TornWrite end (length block) staged c.log =
        subst (λ (l : List ℕ). TornWrite end (length block) l c.log) (is from.0 from.1) from.2.torn in
        let torn : TornWrite end 4096 staged c.log = subst (λ (k : ℕ). TornWrite end k staged c.log) size wide in
        record {
          base = from.2.base
              ∙ base_after files old mid (end + 4096) n (base_of_only files old only) follows from.0 from.1;
          log =
              gate_crash 4095 files.log end ends payload small staged shut_gate length-shut shut_first held c.log torn;
        }

    -- the open gate adds the record
    pub one_added : WritesAt staged end block done → recovered done ≡ recovered files.log ++ payload ∷ []
    one_added marks =
        added 4095 files.log end ends payload small staged shut_gate length-shut shut_first held block first size done
        marks

    -- the log ends behind the record
    pub ends_there : WritesAt staged end block done → EndsShut 4096 done (end + 4096 + 8 + length payload)
    ends_there marks =
        ends_now 4095 files.log end ends payload small staged shut_gate length-shut shut_first held block first size
        done marks

    -- and all of it is on the disk
    pub settled_files : (new : LoggedFile) (out : LoggedFile → Type 0) (k : ℕ) → new.base ≡ files.base
        → Follows (WritesLog end k) mid out → LogIs new.log out → Only new out
    settled_files new out k base last lasts c left =
        same_files c new
        (base_after files mid out end k
        (base_after files old mid (end + 4096) n (base_of_only files old only) follows) last c left ∙ sym base)
        (lasts c left)
