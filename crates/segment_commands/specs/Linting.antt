-- What the command `lint` answers.
use Rattle.std.specs.Prelude.{◌≡◌, ℕ, Bool, true, false, List, Result, Ok, Err}
use Rattle.raw_region.specs.Device.{ReaderHistory, WriterHistory, read_delta, write_delta}
use Rattle.segment_scripts.specs.RunOutcome.{ExecutesScript}
use Rattle.segment_scripts.specs.Linting.{is_at, lint_line, start}
use Rattle.segment_scripts.specs.declared.faults.RunFault.{RunFault}
use Rattle.segment_scripts.specs.declared.language.CommandRow.{CommandRow}
use Rattle.segment_cli.specs.Beginning.{run_fault}
use Rattle.segment_cli.specs.declared.faults.SessionFault.TheVariants.{WriteFault}
use Rattle.segment_commands.specs.declared.command_faults.CommandFault.{CommandFault}
use Rattle.segment_commands.specs.declared.command_faults.CommandFault.TheVariants.{Misspelled, Session}
use Rattle.segment_disk.specs.Events.{IsFlushed}

-- a fault of the run is told first, then that not all went out, then that a line is no command
abbrev pub answer_of : Result (Unit {0}) RunFault → Bool → Bool → Result (Unit {0}) CommandFault
answer_of (Err fault) went_out found = Err (Session (run_fault fault))
answer_of (Ok u) false found = Err (Session WriteFault)
answer_of (Ok u) true true = Err Misspelled
answer_of (Ok u) true false = Ok tt

-- the findings of the script's lines went out, and the answer says whether there is one
pub record Lints {O : Type 0} (rows : List CommandRow) (script script' : ReaderHistory) (history : O
    → WriterHistory) (flushes : O → Bool → O
    → Type 0) (out out' : O) (result : Result (Unit {0}) CommandFault) : Type 0 where
  pub ran : Result (Unit {0}) RunFault
  pub last : ℕ
  pub found : Bool
  pub known : List CommandRow
  pub leaves : ExecutesScript lint_line (start rows) (read_delta script script')
      (write_delta (history out) (history out')) ran (is_at last found known)
  pub went_out : Bool
  pub flushed : IsFlushed history flushes out' went_out
  pub result_is : result ≡ answer_of ran went_out found
