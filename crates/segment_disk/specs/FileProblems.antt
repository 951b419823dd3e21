-- What an error of the system says of a file.
use Rattle.std.specs.Prelude.{◌==◌, ◌-◌, ℕ, Bool, true, false, List, Option, Some, None, length, slice_get}
use Rattle.std.specs.Prelude.{if◌then◌else◌}
use Rattle.std_io.specs.declared.io.kind.ErrorKind.{ErrorKind}
use Rattle.std_io.specs.declared.io.kind.ErrorKind.TheVariants.{AlreadyExists, NotFound, PermissionDenied, IsADirectory}
use Rattle.std_io.specs.declared.io.kind.ErrorKind.TheVariants.{InvalidFilename, InvalidInput, NotADirectory}
use Rattle.std_io.specs.declared.io.kind.ErrorKind.TheVariants.{Unsupported}
use Rattle.segment_disk.specs.declared.presence.FileProblem.{FileProblem}
use Rattle.segment_disk.specs.declared.presence.FileProblem.TheVariants.{Missing, NoParentFolder, Unnamed, Folder}
use Rattle.segment_disk.specs.declared.presence.FileProblem.TheVariants.{Denied, Exists}

-- of a file that was to be opened
abbrev pub problem_of : ErrorKind → Option FileProblem
problem_of NotFound = Some Missing
problem_of IsADirectory = Some Folder
problem_of PermissionDenied = Some Denied
problem_of AlreadyExists = Some Exists
problem_of _ = None

-- no file can be made by this path: it is empty, or ends as that of a folder does
abbrev pub ends_none : Option ℕ → Bool
ends_none None = true
ends_none (Some last) = last == 0x2F

-- no file can be made by the path
abbrev pub names_none : List ℕ → Bool
names_none path = ends_none (slice_get path (length path - 1))

-- of a file that was to be made by a path
abbrev pub problem_where : Bool → Option FileProblem → Option FileProblem
problem_where unnamed (Some Missing) = if unnamed then Some Unnamed else Some NoParentFolder
problem_where unnamed (Some Folder) = if unnamed then Some Unnamed else Some Folder
problem_where unnamed trouble = trouble

-- what an error's kind says of a file to be made
abbrev pub creation_problem : ErrorKind → List ℕ → Option FileProblem
creation_problem kind path = problem_where (names_none path) (problem_of kind)

-- nothing has a name: the file is not there, what is above it is no folder, or the name is too long
abbrev pub names_nothing : ErrorKind → Bool
names_nothing NotFound = true
names_nothing NotADirectory = true
names_nothing InvalidFilename = true
names_nothing _ = false

-- a file can't be locked where it is: the system says so, or does not know the call
abbrev pub locks_nothing : ErrorKind → Bool
locks_nothing Unsupported = true
locks_nothing InvalidInput = true
locks_nothing _ = false
