-- What the program says of a fault, and the status that it ends with.
use Rattle.std.specs.Prelude.{◌++◌, ℕ, List, [], codes, decimal, Option, Some, None}
use Rattle.segment_dump.specs.declared.faults.BadDump.{BadDump as Bad}
use Rattle.segment_dump.specs.declared.faults.DumpFault.{DumpFault}
use Rattle.segment_dump.specs.declared.faults.DumpFault.TheVariants as dump
use Rattle.segment_cli.specs.declared.faults.ProgramFault.TheVariants as program
use Rattle.segment_cli.specs.Reports.{fault_text, line, status_of}
use Rattle.segment_commands.specs.declared.command_faults.CommandFault.{CommandFault}
use Rattle.segment_commands.specs.declared.command_faults.CommandFault.TheVariants as fault
use Rattle.segment_commands.specs.Paths.{path_text}
use Rattle.segment_disk.specs.declared.presence.FileProblem.{FileProblem}
use Rattle.segment_disk.specs.declared.presence.FileProblem.TheVariants.{Missing, NoParentFolder, Unnamed, Folder}
use Rattle.segment_disk.specs.declared.presence.FileProblem.TheVariants.{Denied, Exists, Owner, Writer, Log, ForeignLog}
use Rattle.segment_disk.specs.declared.presence.FileProblem.TheVariants.{LogTaken, EmptyLog, LogLeft, SeveralNames}
use Rattle.segment_disk.specs.declared.presence.FileProblem.TheVariants.{NotLocked, UnsyncedName, Unwritten}

-- ---- the line of a fault

-- what is wrong with a dump, and its line
abbrev pub dump_message : DumpFault → List ℕ
dump_message dump.Cut = codes "the dump ends too early"
dump_message dump.More = codes "more behind the end"
dump_message dump.BadSyntax = codes "bad syntax"
dump_message dump.LongLine = codes "line too long"
dump_message dump.UnknownKind = codes "unknown kind"
dump_message dump.BadName = codes "bad name"
dump_message dump.BadCount = codes "bad count"
dump_message dump.BadValue = codes "no value of the kind"
dump_message dump.Exists = codes "already exists"
dump_message dump.Unlike = codes "not as a dump has it"

-- the line of a bad dump
abbrev pub bad_dump_line : Bad → List ℕ
bad_dump_line bad = codes "segment: dump refused: line "
    ++ (decimal bad.line ++ (codes ", column "
    ++ (decimal bad.column ++ (codes ": " ++ (dump_message bad.cause ++ (codes "\n" ++ []))))))

-- the line of a lack of space
abbrev pub no_space_line : ℕ → List ℕ
no_space_line needed = codes "segment: no space: the objects need " ++ (decimal needed ++ (codes " bytes\n" ++ []))

-- the line of a fault
abbrev pub command_text : CommandFault → List ℕ
command_text fault.Usage = fault_text program.Usage
command_text fault.Exists = fault_text program.Exists
command_text (fault.Growth e) = fault_text (program.Growth e)
command_text (fault.Session f) = fault_text (program.Session f)
command_text fault.InUse = line (codes "file in use")
command_text fault.Stopped = line (codes "stopped at an error, and nothing is saved")
command_text fault.Misspelled = line (codes "some lines are no commands")
command_text (fault.BadDump bad) = bad_dump_line bad
command_text (fault.NoSpace needed) = no_space_line needed
command_text fault.NoValue = line (codes "no such value")
command_text fault.TooManyObjects = line (codes "more than 10000 objects; --all draws them")
command_text fault.OutOfMemory = line (codes "out of memory")

-- what a second line says of the file of a path, which stands there as a text of the language
abbrev pub trouble_message : FileProblem → List ℕ
trouble_message Missing = codes ": no such file\n"
trouble_message NoParentFolder = codes ": no such folder\n"
trouble_message Unnamed = codes ": is no name of a file\n"
trouble_message Folder = codes ": is a folder\n"
trouble_message Denied = codes ": permission denied\n"
trouble_message Exists = codes ": another file is there\n"
trouble_message Owner = codes ": had another owner, who could not be kept\n"
trouble_message Writer = codes ": a writer holds it\n"
trouble_message Log = codes ": was read with the commits of its log\n"
trouble_message ForeignLog = codes ": its log is of another file\n"
trouble_message LogTaken = codes ": the file of this name with -log behind it is not its log; remove or rename it\n"
trouble_message EmptyLog = codes ": the file of this name with -log behind it is empty, and no log; it may be removed\n"
trouble_message LogLeft = codes ": the file of this name with -log behind it has commits of a file that is gone; remove or rename it\n"
trouble_message SeveralNames = codes ": has several names, and a log is found by one alone; copy it, or remove the others\n"
trouble_message NotLocked = codes ": the system can not lock it\n"
trouble_message UnsyncedName = codes ": its folder can not be read, and so its name can not be synced\n"
trouble_message Unwritten = codes ": could not be written whole\n"

abbrev pub trouble_text : List ℕ → FileProblem → List ℕ
trouble_text path trouble = codes "segment: " ++ (path_text path ++ (trouble_message trouble ++ []))

-- the line of a trouble that may be none
abbrev pub trouble_line : List ℕ → Option FileProblem → List ℕ
trouble_line path None = []
trouble_line path (Some trouble) = trouble_text path trouble

-- ---- its status

-- the status of a command's fault
abbrev pub command_status : CommandFault → ℕ
command_status fault.Usage = status_of program.Usage
command_status fault.Exists = status_of program.Exists
command_status (fault.Growth e) = status_of (program.Growth e)
command_status (fault.Session f) = status_of (program.Session f)
command_status fault.InUse = 3
command_status fault.Stopped = 1
command_status fault.Misspelled = 1
command_status (fault.BadDump bad) = 1
command_status (fault.NoSpace needed) = 1
command_status fault.NoValue = 1
command_status fault.TooManyObjects = 1
command_status fault.OutOfMemory = 4
