-- What a lint answers, by what a line reads as.
use Rattle.std.proofs.Common.{◌≡◌, ℕ, ◌+◌, Bool, true, false, List, [], Ok, refl, sym, ap, subst, ◌∙◌, arith}
use Rattle.std.specs.Prelude.{Result, min}
use Rattle.std.proofs.lemmas.List.{append-nil}
use Rattle.raw_region.specs.Device.{WriterHistory, Writes}
use Rattle.raw_region.specs.Format.{current}
use Rattle.raw_region.specs.declared.device.DeviceFault.{DeviceFault}
use Rattle.seg_types.specs.Commands as asked
use Rattle.seg_types.specs.Commands.{Reading, Nothing, Asked}
use Rattle.seg_types.specs.declared.refusals.LineError.{LineError}
use Rattle.seg_types.specs.declared.refusals.LineError.TheVariants.{UnknownCommand, LineTooLong, BadSyntax}
use Rattle.segment_lang.specs.Language.{whole_language}
use Rattle.segment_lang.specs.Reading.{reading, without_return}
use Rattle.segment_lang.specs.Seen.{is_wrong, wrong_reading}
use Rattle.segment_scripts.specs.Linting.{LintState, finding_text, is_at, lint_line, misses_line, respond, tells}
use Rattle.segment_scripts.specs.Writing.{WritesFor}
use Rattle.segment_scripts.specs.declared.language.CommandRow.{CommandRow}

abbrev next : LintState → LintState
next at = record at { line = min (at.line + 1) 18446744073709551615 }

told : (e : LineError) (at : LintState) (line : List ℕ) → wrong_reading e ≡ reading (whole_language current) line
    → lint_line at line ≡ tells (next at) e line
told UnknownCommand at line h = ap (respond (next at) line) (sym h)
told LineTooLong at line h = ap (respond (next at) line) (sym h)
told BadSyntax at line h = ap (respond (next at) line) (sym h)

same_finding : (rows rows' : List CommandRow) (n n' : ℕ) (e : LineError) (l l' : List ℕ) → rows ≡ rows' → n ≡ n'
    → l ≡ l' → finding_text rows n e l ≡ finding_text rows' n' e l'
same_finding rows rows' n n' e l l' a b c = rw (a, b, c) refl

module _ (line : ℕ) (found : Bool) (rows : List CommandRow) (after : ℕ) (bytes : List ℕ) (counts : after
    ≡ min (line + 1) 18446744073709551615) where
  counted : (at : LintState) → is_at line found rows at → after ≡ (next at).line
  counted at s = counts ∙ ap (λ (n : ℕ). min (n + 1) 18446744073709551615) s.0

  -- an error is told
  pub finds : {A : Type 0} (e : LineError) → wrong_reading e ≡ reading (whole_language current) bytes
      → (old new : WriterHistory) (result : Result A DeviceFault) (text : List ℕ)
      → text ≡ without_return bytes
      → Writes {A = A} {E = DeviceFault} old new result (finding_text rows after e text)
      → WritesFor old new result (is_at line found rows) (λ at. (lint_line at bytes).0)
  finds e h old new result text t w = record {
    writes = λ at s. subst (Writes old new result)
        (same_finding rows at.rows after (next at).line e text _ s.2 (counted at s) t
        ∙ sym (ap (λ r. r.0) (told e at bytes h))) w;
    counted = w.counted;
  }

  -- of all else nothing is said
  module _ (same : (at : LintState) → lint_line at bytes ≡ ([], next at)) where
    -- a line without a complaint leads on
    pub quiet_leads : (at : LintState) → is_at line found rows at → is_at after found rows (lint_line at bytes).1
    quiet_leads at s = subst (is_at after found rows) (sym (ap (λ r. r.1) (same at))) (counted at s, s.1, s.2)

    -- a line without a complaint writes nothing
    pub quiet_writes : {A : Type 0} (a : A) (old : WriterHistory)
        → WritesFor {A = A} {E = DeviceFault} old old (Ok a) (is_at line found rows) (λ at. (lint_line at bytes).0)
    quiet_writes {A} a old = record {
      writes = λ at s. subst (Writes {A = A} {E = DeviceFault} old old (Ok a)) (sym (ap (λ r. r.0) (same at)))
          (record { ok = sym (append-nil old.bytes); err = tt; counted = omega arith });
      counted = omega arith;
    }

missed : (e : LineError) → true ≡ is_wrong (wrong_reading e)
missed UnknownCommand = refl
missed LineTooLong = refl
missed BadSyntax = refl

-- a line that is told of is no command
pub told_missed : (e : LineError) (bytes : List ℕ) → wrong_reading e ≡ reading (whole_language current) bytes
    → true ≡ misses_line bytes
told_missed e bytes h = missed e ∙ ap is_wrong h

-- a line that is a command, or has none
pub quiet : (bytes : List ℕ) → is_wrong (reading (whole_language current) bytes) ≡ false → (at : LintState)
    → lint_line at bytes ≡ ([], next at)
quiet bytes h at = silent (reading (whole_language current) bytes) h
  where
    silent : (r : Reading) → is_wrong r ≡ false → respond (next at) bytes r ≡ ([], next at)
    silent Nothing h = refl
    silent (Asked c) h = refl
    silent asked.UnknownCommand h = absurd (cc)
    silent asked.LineTooLong h = absurd (cc)
    silent asked.BadSyntax h = absurd (cc)
