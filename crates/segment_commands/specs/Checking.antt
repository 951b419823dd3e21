-- What a check of several files finds, says and answers.
use Rattle.std.specs.Prelude.{◌≡◌, ◌⊎◌, ℕ, Bool, true, false, List, [], ◌++◌, Option, Result, Ok, Err, MatchResult}
use Rattle.std.specs.Prelude.{codes, flat_map, fold, map}
use Rattle.std.specs.List.{FoldsTo}
use Rattle.std.specs.Ordering.{nat_cmp, ord_max}
use Rattle.raw_region.specs.Device.{WriterHistory, Writes}
use Rattle.segment_cli.specs.Reports.{WritesText, line, session_status, session_message}
use Rattle.segment_cli.specs.declared.faults.SessionFault.{SessionFault}
use Rattle.segment_cli.specs.declared.faults.SessionFault.TheVariants.{WriteFault}
use Rattle.segment_commands.specs.declared.command_faults.CommandFault.{CommandFault}
use Rattle.segment_commands.specs.declared.command_faults.CommandFault.TheVariants.{Session}
use Rattle.segment_commands.specs.Opening.{VerifiesFile}
use Rattle.segment_commands.specs.Paths.{path_text}
use Rattle.segment_commands.specs.Reports.{trouble_line}
use Rattle.segment_commands.specs.Telling.{FailsOutput, FlushesText}
use Rattle.segment_disk.specs.declared.presence.FileProblem.{FileProblem}
use Rattle.segment_disk.specs.Events.{Event}

-- ---- one file: its path, whether it holds a segment or why it holds none, and what is told of it by the disk

-- a file that was checked: its path, what was found, and the file's problem, if it has one
pub record Checked : Type 0 where
  pub path : List ℕ
  pub found : Result (Unit {0}) SessionFault
  pub trouble : Option FileProblem

-- the line of a good file on standard output, unless the check is quiet
abbrev pub fit_line : Bool → List ℕ → Result (Unit {0}) SessionFault → List ℕ
fit_line true path found = []
fit_line false path (Ok u) = path_text path ++ (codes ": ok\n" ++ [])
fit_line false path (Err fault) = []

-- the lines of a refused file on standard error
abbrev pub reason_lines : List ℕ → SessionFault → Option FileProblem → List ℕ
reason_lines path fault trouble =
    (path_text path ++ (codes ": " ++ [])) ++ (line (session_message fault) ++ trouble_line path trouble)

-- the lines of a refused file on standard error
abbrev pub unfit_lines : List ℕ → Result (Unit {0}) SessionFault → Option FileProblem → List ℕ
unfit_lines path (Ok u) trouble = []
unfit_lines path (Err fault) trouble = reason_lines path fault trouble

-- the status of a file
abbrev pub status_in : Result (Unit {0}) SessionFault → ℕ
status_in (Ok u) = 0
status_in (Err fault) = session_status fault

-- the line of a file that holds a segment was said, or the output failed
abbrev pub TellsFit : {O E : Type 0} → (O → WriterHistory) → (O → Bool → O → Type 0) → O → O → Bool → List ℕ
    → Result (Unit {0}) SessionFault → Result (Unit {0}) E → Type 0
TellsFit {O} {E} history flushes old new quiet path found result = MatchResult result
    (λ u. Writes {A = Unit {0}} {E = E} (history old) (history new) (Ok tt) (fit_line quiet path found))
    (λ e. FailsOutput history old new (fit_line quiet path found)
    ⊎ FlushesText history flushes old new (fit_line quiet path found) false)

-- ---- all of them

abbrev pub fit_lines : Bool → List Checked → List ℕ
fit_lines quiet = flat_map (λ c. fit_line quiet c.path c.found)

abbrev pub all_unfit_lines : List Checked → List ℕ
all_unfit_lines = flat_map (λ c. unfit_lines c.path c.found c.trouble)

-- the larger of two statuses
abbrev pub worse : ℕ → ℕ → ℕ
worse = ord_max nat_cmp

-- the worst status of the files that were checked
abbrev pub worst_status : List Checked → ℕ
worst_status = fold (λ worst c. worse worst (status_in c.found)) 0

-- a file was checked, and what is told of it is what its disk says right after that
pub record ChecksOneFile {D : Type 0} (step : D → Event → D → Type 0) (tells : D → Option FileProblem
    → Type 0) (old : D) (c : Checked) (new : D) : Type 0 where
  pub asked : VerifiesFile step old new c.path c.found
  pub told : tells new c.trouble

-- The files of these paths were checked one after another. If the output took what was to be said, these are all of
-- them, and the answer is the worst status; else they are the first ones, and the answer is that the output failed.
pub record ChecksAll {D O : Type 0} (step : D → Event → D → Type 0) (tells : D → Option FileProblem
    → Type 0) (disk disk' : D) (history : O → WriterHistory) (flushes : O → Bool → O → Type 0) (out out' : O)
    (err err' : WriterHistory) (quiet : Bool) (paths : List (List ℕ)) (result : Result ℕ CommandFault) : Type 0 where
  pub checked : List Checked
  pub asked : FoldsTo (ChecksOneFile step tells) disk checked disk'
  pub unfit : WritesText err err' (all_unfit_lines checked)
  pub answer : MatchResult result
      (λ status. (map (λ c. c.path) checked ≡ paths) × (status ≡ worst_status checked)
      × FlushesText history flushes out out' (fit_lines quiet checked) true)
      (λ fault. (fault ≡ Session WriteFault) × ((rest : List (List ℕ)) × (paths ≡ map (λ c. c.path) checked ++ rest))
      × (FailsOutput history out out' (fit_lines quiet checked)
      ⊎ FlushesText history flushes out out' (fit_lines quiet checked) false))
