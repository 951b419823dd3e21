-- How a lint ends, from what its steps answered.
use Rattle.std.proofs.Common.{◌≡◌, ℕ, Bool, List, sym, subst}
use Rattle.std.specs.Prelude.{Result}
use Rattle.raw_region.specs.Device.{ReaderHistory, WriterHistory, read_delta, write_delta}
use Rattle.segment_scripts.specs.RunOutcome.{ExecutesScript}
use Rattle.segment_scripts.specs.Linting.{is_at, lint_line, start}
use Rattle.segment_scripts.specs.declared.faults.RunFault.{RunFault}
use Rattle.segment_scripts.specs.declared.language.CommandRow.{CommandRow}
use Rattle.segment_commands.specs.declared.command_faults.CommandFault.{CommandFault}
use Rattle.segment_commands.specs.Linting.{Lints, answer_of}

-- a lint ends as its steps answered
pub linted : {O : Type 0} (rows known : List CommandRow) (script script' : ReaderHistory) (history : O
    → WriterHistory) (flushes : O → Bool → O
    → Type 0) (old mid new : O) (ran : Result (Unit {0}) RunFault) (last : ℕ) (found ok : Bool)
    → ExecutesScript lint_line (start rows) (read_delta script script') (write_delta (history old) (history mid))
    ran (is_at last found known)
    → history new ≡ history mid → flushes mid ok new → (result : Result (Unit {0}) CommandFault)
    → result ≡ answer_of ran ok found
    → Lints rows script script' history flushes old new result
linted rows known script script' history flushes old mid new ran last found ok leaves same flush result e = record {
  ran = ran;
  last = last;
  found = found;
  known = known;
  leaves = subst (λ (t : WriterHistory).
      ExecutesScript lint_line (start rows) (read_delta script script') (write_delta (history old) t) ran
      (is_at last found known)) (sym same) leaves;
  went_out = ok;
  flushed = record { before = mid; flush = flush; same = same };
  result_is = e;
}
