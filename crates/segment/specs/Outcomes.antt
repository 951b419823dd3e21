-- What the program says on standard error after a command, and which commands end without a word.
use Rattle.std.specs.Prelude.{◌≡◌, ◌⊎◌, ℕ, Bool, true, false, ◌||◌, List, Option, Some, Result, Ok, Err}
use Rattle.std.specs.Prelude.{if◌then◌else◌}
use Rattle.segment_cli.specs.declared.faults.SessionFault.TheVariants.{Image, ReadFault, WriteFault}
use Rattle.segment_commands.specs.declared.command_faults.CommandFault.{CommandFault}
use Rattle.segment_commands.specs.declared.command_faults.CommandFault.TheVariants.{InUse, Session}
use Rattle.segment_commands.specs.Paths.{stands_in}
use Rattle.segment_disk.specs.declared.presence.FileProblem.{FileProblem}
use Rattle.segment_disk.specs.declared.presence.FileProblem.TheVariants.{Log, Owner, Unnamed, Writer}
use Rattle.segment_invocation.specs.Invocations.{InvocationValue, RequestValue, get, language, lint, names}
use Rattle.segment_invocation.specs.Invocations.{salvage, tell}

-- ---- the problem of a file

-- the problem of the file with this path: a path that is no UTF-8 names no file, and the system got no such path
abbrev pub problem_at : List ℕ → Option FileProblem → Option FileProblem
problem_at path said = if stands_in path then Some Unnamed else said

-- the fault that is printed: bytes that are no segment, in a file that another may have written meanwhile, are in use
abbrev pub fault_beside : Option FileProblem → CommandFault → CommandFault
fault_beside (Some Writer) (Session (Image class)) = InUse
fault_beside trouble fault = fault

-- ---- which answers a problem explains

abbrev pub is_done : Result ℕ CommandFault → Bool
is_done (Ok status) = true
is_done other = false

-- another program has the lock of the file
abbrev pub is_locked : Result ℕ CommandFault → Bool
is_locked (Err InUse) = true
is_locked other = false

abbrev pub is_read_fault : Result ℕ CommandFault → Bool
is_read_fault (Err (Session ReadFault)) = true
is_read_fault other = false

abbrev pub is_write_fault : Result ℕ CommandFault → Bool
is_write_fault (Err (Session WriteFault)) = true
is_write_fault other = false

-- the bytes of the file are no segment
abbrev pub is_no_segment : Result ℕ CommandFault → Bool
is_no_segment (Err (Session (Image class))) = true
is_no_segment other = false

-- The answers that a problem of the file explains. Each problem explains a file in use, each but a log a read fault,
-- and each but a log, an owner and a writer a write fault. A writer explains bytes that are no segment. An owner and a
-- log come with a command that is done.
abbrev pub explains : FileProblem → Result ℕ CommandFault → Bool
explains Log answer = is_locked answer || is_done answer
explains Owner answer = is_locked answer || is_read_fault answer || is_done answer
explains Writer answer = is_locked answer || is_read_fault answer || is_no_segment answer
explains other answer = is_locked answer || is_read_fault answer || is_write_fault answer

-- ---- the status of a run

-- a run that is done has the status 0; with `--fail` it may have the status 5, which says that an answer is an error
abbrev pub IsRunStatus : Bool → ℕ → Type 0
IsRunStatus fails status = (status ≡ 0) ⊎ ((fails ≡ true) × (status ≡ 5))

-- ---- a reader of standard output that ended first

-- the command prints a text for a reader, who may end before the text does
abbrev pub prints_text : InvocationValue → Bool
prints_text (tell file what) = true
prints_text (names file prefix most) = true
prints_text (get file key index) = true
prints_text (salvage file) = true
prints_text lint = true
prints_text language = true
prints_text other = false

-- the program says nothing if the reader ended first
abbrev pub is_quiet_end : RequestValue → Bool
is_quiet_end asked = prints_text asked.command || asked.options.explains
