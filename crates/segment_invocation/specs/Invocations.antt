-- What the program may be asked on its command line, over the matches that clap states for its words.
use Rattle.std.specs.Prelude.{◌≡◌, ◌⊎◌, ◌==◌, ◌∷◌, ◌++◌, ℕ, Bool, true, false, not, List, [], Option, Some, None}
use Rattle.std.specs.Prelude.{is_some, Result, MatchResult, IsTrue, option_map, option_and_then, codes, fold, ◌&&◌}
use Rattle.std.specs.Prelude.{◌||◌, flat_map, length, map, nat_lt, unwrap_or, if◌then◌else◌}
use Rattle.std.specs.List.{list_all}
use Rattle.std.specs.Str.{bytes_eq}
use denote.Ref.{Bor}
use Rattle.clap.specs.Walk.{Row, Rule, Text, all_of, first_of}
use Rattle.clap.specs.Simple.{App, Shape, new_rule, new_shape, subcommand_of, with_subcommand}
use Rattle.clap.specs.Faults.{fault_of}
use Rattle.clap.specs.Kinds.{IsAmong}
use Rattle.clap.specs.Values.{kind_of}
use Rattle.clap.specs.declared.error.kind.ErrorKind.TheVariants.{DisplayVersion}
use Rattle.clap.specs.declared.builder.action.ArgAction.TheVariants.{Append, Set, SetTrue}
use Rattle.segment_lang.specs.Lexing.{number_of}
use Rattle.segment_invocation.specs.declared.invocations.Invocation.{Invocation}
use Rattle.segment_invocation.specs.declared.invocations.Invocation.TheVariants.{Create, Run, Check, Grow, Shrink}
use Rattle.segment_invocation.specs.declared.invocations.Invocation.TheVariants.{Migrate, Tell, Names, Get, Load, Lint}
use Rattle.segment_invocation.specs.declared.invocations.Invocation.TheVariants.{Salvage, Language, Version}
use Rattle.segment_invocation.specs.declared.invocations.Options.{Options}
use Rattle.segment_invocation.specs.declared.invocations.Request.{Request}
use Rattle.segment_invocation.specs.declared.invocations.FileCommand.{FileCommand}
use Rattle.segment_invocation.specs.declared.invocations.FileCommand.TheVariants as on_file
use Rattle.segment_invocation.specs.declared.invocations.ModeName.{ModeName}
use Rattle.segment_invocation.specs.declared.invocations.ModeName.TheVariants.{CreateOnly, OpenOnly, OpenOrCreate}
use Rattle.segment_invocation.specs.declared.invocations.ModeName.TheVariants.{OpenReadOnly, OpenCopyOnWrite}
use Rattle.segment_invocation.specs.declared.invocations.Report.{Report}
use Rattle.segment_invocation.specs.declared.invocations.Report.TheVariants.{Figures, Picture, Page, Dump, Capacities}
use Rattle.segment_invocation.specs.declared.invocations.Report.TheVariants.{Json}
use Rattle.segment_disk.specs.declared.presence.SaveMode.{SaveMode}
use Rattle.segment_disk.specs.declared.presence.SaveMode.TheVariants.{InPlace, Replacing}
use Rattle.segment_invocation.specs.declared.invocations.Script.{Script}
use Rattle.segment_invocation.specs.declared.invocations.Script.TheVariants as script
use Rattle.segment_invocation.specs.declared.usage.UsageError.{UsageError}
use Rattle.segment_invocation.specs.declared.usage.UsageError.TheVariants.{Arguments, Command, File, Number, Mode}
use Rattle.segment_invocation.specs.declared.usage.UsageError.TheVariants.{Modes, Key, Size, Script as TwoScripts}
use Rattle.segment_invocation.specs.declared.usage.UsageError.TheVariants.{Files, Capacities as JsonCapacities, Commit}

-- ---- the command line, as clap reads it

-- a value after `--NAME`, which may be left out; help has a word for it
abbrev pub option : Text → Rule
option name = record (new_rule name) { long = Some name; action = Some Set; value_names = 1 }

-- `--NAME` alone, which may be left out
abbrev pub flag : Text → Rule
flag name = record (new_rule name) { long = Some name; action = Some SetTrue }

-- `--NAME` alone, or `-` and this letter, which may be left out
abbrev pub switch : Text → ℕ → Rule
switch name letter = record (flag name) { short = Some letter }

-- a value after `-` and this letter, as often as there are values
abbrev pub lines : Text → ℕ → Rule
lines name letter = record (new_rule name) { short = Some letter; action = Some Append; value_names = 1 }

-- a value in its place, which may be left out
abbrev pub maybe : Text → Rule
maybe name = record (new_rule name) { value_names = 1 }

-- a value in its place, which must be there; help has a word for it
abbrev pub operand : Text → Rule
operand name = record (new_rule name) { required = true; value_names = 1 }

-- a value in its place, of which there may be more
abbrev pub operands : Text → Rule
operands name = record (operand name) { action = Some Append }

-- how long a file is waited for
abbrev pub waited : List Rule
waited = option (codes "wait") ∷ []

-- how a file is taken and saved
abbrev pub kept : List Rule
kept = flag (codes "replace") ∷ waited

-- a subcommand that takes these, and `--verbose`
abbrev pub taking : Text → List Rule → Shape
taking name rules = record (new_shape name) { rules = rules ++ (flag (codes "verbose") ∷ []) }

-- the program, without its subcommands: it wants one, gives help if no word stands after its name, and has clap's
-- `help`
abbrev pub program : App
program = record {
  top = record (new_shape (codes "segment")) {
    has_version = true;
    arg_required_else_help = true;
    subcommand_required = true;
  };
  subs = [];
}

abbrev pub file_command : Text → Shape
file_command name = taking name (operand (codes "file") ∷ waited)

abbrev pub create_command : Shape
create_command = taking (codes "create") (operand (codes "file") ∷ operand (codes "number")
    ∷ flag (codes "replace") ∷ [])

abbrev pub grow_command : Shape
grow_command = taking (codes "grow") (operand (codes "file") ∷ operand (codes "number") ∷ kept)

abbrev pub kept_command : Text → Shape
kept_command name = taking name (operand (codes "file") ∷ kept)

abbrev pub check_command : Shape
check_command = taking (codes "check")
    (operands (codes "file") ∷ flag (codes "explain") ∷ flag (codes "quiet") ∷ waited)

abbrev pub draw_command : Shape
draw_command = taking (codes "draw") (operand (codes "file") ∷ flag (codes "html") ∷ flag (codes "all")
    ∷ waited)

abbrev pub dump_command : Shape
dump_command = taking (codes "dump")
    (operand (codes "file") ∷ flag (codes "capacities") ∷ flag (codes "json") ∷ waited)

abbrev pub names_command : Shape
names_command = taking (codes "names")
    (operand (codes "file") ∷ option (codes "prefix") ∷ option (codes "most") ∷ waited)

abbrev pub get_command : Shape
get_command = taking (codes "get")
    (operand (codes "file") ∷ operand (codes "key") ∷ maybe (codes "index") ∷ waited)

abbrev pub load_command : Shape
load_command = taking (codes "load") (operand (codes "file") ∷ option (codes "size") ∷ kept)

abbrev pub run_options : List Rule
run_options = operand (codes "file") ∷ maybe (codes "script") ∷ option (codes "mode") ∷ option (codes "size")
    ∷ lines (codes "line") 99 ∷ []

abbrev pub run_command : Shape
run_command = taking (codes "run") (run_options
    ++ (switch (codes "read-only") 114 ∷ flag (codes "replace") ∷ flag (codes "commit") ∷ flag (codes "strict")
    ∷ flag (codes "fail") ∷ flag (codes "numbered") ∷ option (codes "wait") ∷ []))

abbrev pub subcommands : List Shape
subcommands = create_command ∷ run_command ∷ check_command ∷ grow_command ∷ kept_command (codes "shrink")
    ∷ kept_command (codes "migrate")
    ∷ file_command (codes "stat") ∷ draw_command ∷ dump_command ∷ names_command ∷ get_command ∷ load_command
    ∷ file_command (codes "salvage") ∷ taking (codes "lint") [] ∷ taking (codes "language") [] ∷ []

-- the grammar of the command line
abbrev pub command_line : App
command_line = fold with_subcommand program subcommands

-- ---- what the matches ask for

-- where a script comes from
pub data Origin : Type 0 where
  input : Origin
  from_file : Text → Origin
  from_lines : List Text → Origin

-- a command: a file goes by its path; a run has a mode, and may have a size; names begin with a text and may be
-- limited; a value has a key, and may have an index; a load has a size or takes the least
pub data InvocationValue : Type 0 where
  create : Text → ℕ → InvocationValue
  run : Text → ModeName → Option ℕ → InvocationValue
  check : Text → InvocationValue
  grow : Text → ℕ → InvocationValue
  shrink : Text → InvocationValue
  migrate : Text → InvocationValue
  tell : Text → Report → InvocationValue
  names : Text → Text → Option ℕ → InvocationValue
  get : Text → Text → Option Text → InvocationValue
  load : Text → Option ℕ → InvocationValue
  salvage : Text → InvocationValue
  lint : InvocationValue
  language : InvocationValue
  version : InvocationValue

-- the options of a command: its script and all its files, how a file is saved, and how many seconds are waited for it
pub record OptionValues : Type 0 where
  pub origin : Origin
  pub paths : List Text
  pub saving : SaveMode
  pub commits : Bool
  pub wait : ℕ
  pub strict : Bool
  pub fails : Bool
  pub numbered : Bool
  pub explains : Bool
  pub quiet : Bool
  pub all : Bool
  pub verbose : Bool

-- a command with its options
pub record RequestValue : Type 0 where
  pub command : InvocationValue
  pub options : OptionValues

-- no option says otherwise, and these are the files
abbrev pub plain_options : List Text → OptionValues
plain_options files = record {
  origin = input;
  paths = files;
  saving = InPlace;
  commits = false;
  wait = 0;
  strict = false;
  fails = false;
  numbered = false;
  explains = false;
  quiet = false;
  all = false;
  verbose = false;
}

-- the options of no words
abbrev pub no_options : OptionValues
no_options = plain_options []

-- a command without words for its options
abbrev pub of_version : RequestValue
of_version = record { command = version; options = no_options }

-- where a script comes from
abbrev pub origin_by : Script → Origin
origin_by script.Input = input
origin_by (script.File path) = from_file path.now
origin_by (script.Lines texts) = from_lines (map (λ s. s.now) texts.items)

-- the script of these lines: a line end stands after each
abbrev pub script_text : List (Bor Text) → Text
script_text = flat_map (λ line. line.now ++ 0x0A ∷ [])

-- the command of an invocation
abbrev pub asked_by : Invocation → InvocationValue
asked_by (Create file size) = create file.now size
asked_by (Run file mode size) = run file.now mode size
asked_by (Check file) = check file.now
asked_by (Grow file bytes) = grow file.now bytes
asked_by (Shrink file) = shrink file.now
asked_by (Migrate file) = migrate file.now
asked_by (Tell file what) = tell file.now what
asked_by (Names file prefix most) = names file.now prefix.now most
asked_by (Get file key index) = get file.now key.now (option_map (λ i. i.now) index)
asked_by (Load file size) = load file.now size
asked_by (Salvage file) = salvage file.now
asked_by Lint = lint
asked_by Language = language
asked_by Version = version

-- what options say
abbrev pub options_by : Options → OptionValues
options_by how = record {
  origin = origin_by how.script;
  paths = map (λ s. s.now) how.files.items;
  saving = how.keeping.saving;
  commits = how.keeping.commit;
  wait = how.keeping.wait;
  strict = how.answering.strict;
  fails = how.answering.fail;
  numbered = how.answering.numbered;
  explains = how.explain;
  quiet = how.quiet;
  all = how.all;
  verbose = how.verbose;
}

-- the command and the options of a request
abbrev pub request_by : Request → RequestValue
request_by asked = record { command = asked_by asked.command; options = options_by asked.options }

abbrev pub mode_argument : ModeName → Text
mode_argument CreateOnly = codes "create_only"
mode_argument OpenOnly = codes "open_only"
mode_argument OpenOrCreate = codes "open_or_create"
mode_argument OpenReadOnly = codes "open_read_only"
mode_argument OpenCopyOnWrite = codes "open_copy_on_write"

-- the mode of a word
abbrev pub mode_called : Text → Option ModeName
mode_called argument =
    if bytes_eq argument (mode_argument CreateOnly) then Some CreateOnly
    else if bytes_eq argument (mode_argument OpenOnly) then Some OpenOnly
    else if bytes_eq argument (mode_argument OpenOrCreate) then Some OpenOrCreate
    else if bytes_eq argument (mode_argument OpenReadOnly) then Some OpenReadOnly
    else if bytes_eq argument (mode_argument OpenCopyOnWrite) then Some OpenCopyOnWrite
    else None

-- whether a mode may make a segment, and so needs its size
abbrev pub wants_size : ModeName → Bool
wants_size CreateOnly = true
wants_size OpenOrCreate = true
wants_size _ = false

-- the mode of a word, `open_only` if there is none; or the flag for `open_read_only` stands there, and no word
abbrev pub mode_of : Bool → Option Text → Option ModeName
mode_of true None = Some OpenReadOnly
mode_of true (Some argument) = None
mode_of false None = Some OpenOnly
mode_of false (Some argument) = mode_called argument

-- the number of a word that may be left out
abbrev pub size_of : Option Text → Option (Option ℕ)
size_of None = Some None
size_of (Some argument) = option_map Some (number_of argument)

-- whether a flag stands there, by what stands for it
abbrev pub is_set : Option Text → Bool
is_set None = false
is_set (Some argument) = bytes_eq argument (codes "true")

-- how a file is saved, by what stands for `--replace`
abbrev pub saving_of : Option Text → SaveMode
saving_of argument = if is_set argument then Replacing else InPlace

-- for how many seconds a file is waited for, by what stands for `--wait`
abbrev pub seconds_of : Option Text → Option ℕ
seconds_of argument = option_map (λ n. unwrap_or n 0) (size_of argument)

-- where a script comes from: a file or the lines of the command line, and not both
abbrev pub origin_of : Option Text → List Text → Option Origin
origin_of None [] = Some input
origin_of None (line ∷ rest) = Some (from_lines (line ∷ rest))
origin_of (Some path) [] = Some (from_file path)
origin_of (Some path) (line ∷ rest) = None

-- the values of a word that may stand there more than once
abbrev pub list_of : Text → List Row → List Text
list_of id words = unwrap_or (all_of id words) []

-- a command that has the number of its words
abbrev pub with_number : (ℕ → InvocationValue) → List Row → Option InvocationValue
with_number ask words = option_map ask (option_and_then number_of (first_of (codes "number") words))

-- what a picture tells, by its flag --html
abbrev pub drawn_of : List Row → Report
drawn_of words = if is_set (first_of (codes "html") words) then Page else Picture

-- what a dump tells, by its flags --json and --capacities, which are not both there
abbrev pub dump_of : Bool → Bool → Option Report
dump_of true true = None
dump_of true false = Some Json
dump_of false true = Some Capacities
dump_of false false = Some Dump

abbrev pub dumped_of : List Row → Option Report
dumped_of words = dump_of (is_set (first_of (codes "json") words)) (is_set (first_of (codes "capacities") words))

-- a file's names, what they begin with, and how many there are at most
abbrev pub asked_names : Text → List Row → Option InvocationValue
asked_names file words = option_map (names file (unwrap_or (first_of (codes "prefix") words) []))
    (size_of (first_of (codes "most") words))

-- a file's value, by its key and its index
abbrev pub asked_get : Text → List Row → Option InvocationValue
asked_get file words = option_map (λ key. get file key (first_of (codes "index") words))
    (first_of (codes "key") words)

-- the mode of a run wants a size, and there is none
abbrev pub lacks_size : ModeName → Option ℕ → Bool
lacks_size mode size = wants_size mode && not (is_some size)

-- a run, unless its mode wants a size and there is none
abbrev pub run_sized : Text → ModeName → Option ℕ → Option InvocationValue
run_sized file mode size = if lacks_size mode size then None else Some (run file mode size)

-- a run of a file, by its mode and its word for the size
abbrev pub run_of : Text → Option ModeName → Option Text → Option InvocationValue
run_of file mode size = option_and_then (λ mode. option_and_then (run_sized file mode) (size_of size)) mode

-- the flag for the mode `open_read_only` stands there
abbrev pub only_reads : List Row → Bool
only_reads words = is_set (first_of (codes "read-only") words)

-- the mode of a run
abbrev pub mode_in : List Row → Option ModeName
mode_in words = mode_of (only_reads words) (first_of (codes "mode") words)

-- what a run asks for
abbrev pub asked_run : Text → List Row → Option InvocationValue
asked_run file words = run_of file (mode_in words) (first_of (codes "size") words)

-- the command of a word that takes a file
abbrev pub command_called : Text → Option FileCommand
command_called argument =
    if bytes_eq argument (codes "create") then Some on_file.Create
    else if bytes_eq argument (codes "run") then Some on_file.Run
    else if bytes_eq argument (codes "check") then Some on_file.Check
    else if bytes_eq argument (codes "grow") then Some on_file.Grow
    else if bytes_eq argument (codes "shrink") then Some on_file.Shrink
    else if bytes_eq argument (codes "migrate") then Some on_file.Migrate
    else if bytes_eq argument (codes "stat") then Some on_file.Stat
    else if bytes_eq argument (codes "draw") then Some on_file.Draw
    else if bytes_eq argument (codes "dump") then Some on_file.Dump
    else if bytes_eq argument (codes "names") then Some on_file.Names
    else if bytes_eq argument (codes "get") then Some on_file.Get
    else if bytes_eq argument (codes "load") then Some on_file.Load
    else if bytes_eq argument (codes "salvage") then Some on_file.Salvage
    else None

-- what such a command asks for, of a file
abbrev pub asked_as : Option FileCommand → Text → List Row → Option InvocationValue
asked_as (Some on_file.Create) file words = with_number (create file) words
asked_as (Some on_file.Run) file words = asked_run file words
asked_as (Some on_file.Check) file words = Some (check file)
asked_as (Some on_file.Grow) file words = with_number (grow file) words
asked_as (Some on_file.Shrink) file words = Some (shrink file)
asked_as (Some on_file.Migrate) file words = Some (migrate file)
asked_as (Some on_file.Stat) file words = Some (tell file Figures)
asked_as (Some on_file.Draw) file words = Some (tell file (drawn_of words))
asked_as (Some on_file.Dump) file words = option_map (tell file) (dumped_of words)
asked_as (Some on_file.Names) file words = asked_names file words
asked_as (Some on_file.Get) file words = asked_get file words
asked_as (Some on_file.Load) file words = option_map (load file) (size_of (first_of (codes "size") words))
asked_as (Some on_file.Salvage) file words = Some (salvage file)
asked_as None file words = None

-- the command of the words of a subcommand
abbrev pub asked_in : Text → List Row → Option InvocationValue
asked_in subcommand words =
    if bytes_eq subcommand (codes "lint") then Some lint
    else if bytes_eq subcommand (codes "language") then Some language
    else option_and_then (λ file. asked_as (command_called subcommand) file words) (first_of (codes "file") words)

-- the options of words that have these seconds and this script
abbrev pub options_with : List Row → ℕ → Origin → OptionValues
options_with words wait origin = record {
  origin = origin;
  paths = list_of (codes "file") words;
  saving = saving_of (first_of (codes "replace") words);
  commits = is_set (first_of (codes "commit") words);
  wait = wait;
  strict = is_set (first_of (codes "strict") words);
  fails = is_set (first_of (codes "fail") words);
  numbered = is_set (first_of (codes "numbered") words);
  explains = is_set (first_of (codes "explain") words);
  quiet = is_set (first_of (codes "quiet") words);
  all = is_set (first_of (codes "all") words);
  verbose = is_set (first_of (codes "verbose") words);
}

-- more files than one are to be explained
abbrev pub explains_many : List Row → Bool
explains_many words = is_set (first_of (codes "explain") words) && nat_lt 1 (length (list_of (codes "file") words))

-- the mode of a run is one by which a file is made alone, read, or not saved
abbrev pub saves_none : Option Text → Bool
saves_none None = false
saves_none (Some mode) = not (bytes_eq mode (codes "open_only")) && not (bytes_eq mode (codes "open_or_create"))

-- a run is to commit that saves otherwise, or not at all
abbrev pub commits_amiss : List Row → Bool
commits_amiss words = is_set (first_of (codes "commit") words) && (is_set (first_of (codes "replace") words)
    || (only_reads words || saves_none (first_of (codes "mode") words)))

-- the script of words
abbrev pub script_of : List Row → Option Origin
script_of words = origin_of (first_of (codes "script") words) (list_of (codes "line") words)

-- the options of the words of a subcommand: their seconds are a number, they have one script, explain one file, and do
-- not commit amiss
abbrev pub options_of : List Row → Option OptionValues
options_of words = option_and_then (λ wait. option_and_then (λ origin.
    if explains_many words then None else if commits_amiss words then None else Some (options_with words wait origin))
    (script_of words)) (seconds_of (first_of (codes "wait") words))

-- a command with its options
abbrev pub requested : Option InvocationValue → Option OptionValues → Option RequestValue
requested asked said = option_and_then (λ a. option_map (λ o. record { command = a; options = o }) said) asked

-- what the words of a subcommand ask for
abbrev pub requested_in : Text → List Row → Option RequestValue
requested_in subcommand words = requested (asked_in subcommand words) (options_of words)

-- a subcommand with its words
abbrev pub requested_of : Option (Text × List Row) → Option RequestValue
requested_of None = None
requested_of (Some found) = requested_in found.0 found.1

-- the words, the program's name first, ask for this: by their subcommand, if clap finds no fault, or they want the
-- version to be shown
abbrev pub IsRequestedBy : List Text → RequestValue → Type 0
IsRequestedBy words r =
    ((fault_of command_line words ≡ []) × (requested_of (subcommand_of command_line words) ≡ Some r))
    ⊎ ((r ≡ of_version) × IsAmong DisplayVersion (fault_of command_line words))

-- they ask for this command, with some options
abbrev pub IsAskedBy : List Text → InvocationValue → Type 0
IsAskedBy words a = (o : OptionValues) × IsRequestedBy words (record { command = a; options = o })

-- an answer is what is wanted, and an error stands for nothing
abbrev pub ParsesTo : {A E : Type 0} → Option A → Result A E → Type 0
ParsesTo wanted result = MatchResult result (λ a. wanted ≡ Some a) (λ e. wanted ≡ None)

-- ---- what is wrong with words that ask for nothing

-- there is no such command or mode, or no file, key, number or size; or two modes, two scripts, more files than are
-- explained, a dump in JSON with capacities, or a commit of a run that saves otherwise
pub data Wrong : Type 0 where
  no_command : Wrong
  no_file : Wrong
  no_key : Wrong
  no_number : Wrong
  no_mode : Wrong
  two_modes : Wrong
  no_size : Wrong
  two_scripts : Wrong
  many_files : Wrong
  json_capacities : Wrong
  amiss_commit : Wrong

-- what an error says of the words, unless it is one of clap's
abbrev pub wrong_by : UsageError → Option Wrong
wrong_by (Arguments misread) = None
wrong_by Command = Some no_command
wrong_by File = Some no_file
wrong_by Key = Some no_key
wrong_by Number = Some no_number
wrong_by (Mode nearest) = Some no_mode
wrong_by Modes = Some two_modes
wrong_by Size = Some no_size
wrong_by TwoScripts = Some two_scripts
wrong_by Files = Some many_files
wrong_by JsonCapacities = Some json_capacities
wrong_by Commit = Some amiss_commit

-- what is wrong with a mode: there are two, or there is no such mode
abbrev pub wrong_mode : List Row → Wrong
wrong_mode words = if only_reads words then two_modes else no_mode

-- of a run the first of these: its mode is none, its size is no number, it lacks a size
abbrev pub wrong_run : List Row → Wrong
wrong_run words =
    if not (is_some (mode_in words)) then wrong_mode words
    else if is_some (size_of (first_of (codes "size") words)) then no_size
    else no_number

-- of a command with a file: what is wrong with a run or a dump, or its key or number, or there is no such command
abbrev pub wrong_filed : Option FileCommand → List Row → Wrong
wrong_filed (Some on_file.Run) words = wrong_run words
wrong_filed (Some on_file.Dump) words = json_capacities
wrong_filed (Some on_file.Get) words = no_key
wrong_filed (Some command) words = no_number
wrong_filed None words = no_command

-- of a command: a file is looked for before all else
abbrev pub wrong_command : Text → List Row → Wrong
wrong_command subcommand words =
    if is_some (first_of (codes "file") words) then wrong_filed (command_called subcommand) words
    else no_file

-- of options the first of these: the seconds are no number, there are two scripts, many files are to be explained, a
-- commit is amiss
abbrev pub wrong_options : List Row → Wrong
wrong_options words =
    if not (is_some (seconds_of (first_of (codes "wait") words))) then no_number
    else if not (is_some (script_of words)) then two_scripts
    else if explains_many words then many_files
    else amiss_commit

-- the command is looked at before its options
abbrev pub wrong_in : Text → List Row → Wrong
wrong_in subcommand words =
    if is_some (asked_in subcommand words) then wrong_options words
    else wrong_command subcommand words

-- of a subcommand with its words, or of none
abbrev pub wrong_of : Option (Text × List Row) → Wrong
wrong_of None = no_command
wrong_of (Some found) = wrong_in found.0 found.1

-- an error tells what is wrong with the words, the program's name first: a fault that clap finds, or, if it finds
-- none, why they ask for nothing
abbrev pub IsWrongBy : List Text → UsageError → Type 0
IsWrongBy words (Arguments misread) = IsAmong (kind_of misread) (fault_of command_line words)
IsWrongBy words e = (fault_of command_line words ≡ []) × (requested_of (subcommand_of command_line words) ≡ None)
    × (wrong_by e ≡ Some (wrong_of (subcommand_of command_line words)))

-- ---- command lines that are always understood

-- a path is not empty and does not begin with a hyphen
abbrev pub is_path : Text → Bool
is_path [] = false
is_path (c ∷ cs) = not (c == 45)

-- `--mode M`, which may be left out for `open_only`
abbrev pub IsModePart : List Text → ModeName → Type 0
IsModePart words mode = (words ≡ codes "--mode" ∷ mode_argument mode ∷ []) ⊎ ((words ≡ []) × (mode ≡ OpenOnly))

-- `NAME N`, which may be left out
abbrev pub IsNumberPart : Text → List Text → Option ℕ → Type 0
IsNumberPart name words None = words ≡ []
IsNumberPart name words (Some n) = (digits : Text) × (number_of digits ≡ Some n) × (words ≡ name ∷ digits ∷ [])

-- `--size N`, which may be left out if the mode wants none
abbrev pub IsSizePart : List Text → ModeName → Option ℕ → Type 0
IsSizePart words mode size = IsNumberPart (codes "--size") words size × (lacks_size mode size ≡ false)

-- `--wait N`, which may be left out for no time
abbrev pub IsWaitPart : List Text → ℕ → Type 0
IsWaitPart words wait = (seconds : Option ℕ) × IsNumberPart (codes "--wait") words seconds
    × (wait ≡ unwrap_or seconds 0)

-- `--replace`, which is left out if the file is emptied
abbrev pub saving_part : SaveMode → List Text
saving_part InPlace = []
saving_part Replacing = codes "--replace" ∷ []

-- a flag that may be left out
abbrev pub flag_part : Text → Bool → List Text
flag_part argument true = argument ∷ []
flag_part argument false = []

abbrev pub flag_arguments : SaveMode → Bool → Bool → List Text
flag_arguments saving strict numbered =
    saving_part saving ++ (flag_part (codes "--strict") strict ++ flag_part (codes "--numbered") numbered)

-- the lines of a script, each after `-c`
abbrev pub line_arguments : List Text → List Text
line_arguments [] = []
line_arguments (line ∷ rest) = codes "-c" ∷ line ∷ line_arguments rest

-- what stands for the script of a run, after the file
abbrev pub IsOriginPart : List Text → Origin → Type 0
IsOriginPart words input = words ≡ []
IsOriginPart words (from_file path) = IsTrue (is_path path) × (words ≡ path ∷ [])
IsOriginPart words (from_lines []) = ⊥
IsOriginPart words (from_lines (line ∷ rest)) = IsTrue (list_all is_path (line ∷ rest))
    × (words ≡ line_arguments (line ∷ rest))

-- `NAME TEXT`, which may be left out
abbrev pub IsPart : Text → List Text → Text → Type 0
IsPart name words [] = words ≡ []
IsPart name words (c ∷ cs) = IsTrue (is_path (c ∷ cs)) × (words ≡ name ∷ (c ∷ cs) ∷ [])

-- the options of a run
abbrev pub options_of_run : Text → Origin → SaveMode → ℕ → Bool → Bool → OptionValues
options_of_run file origin saving wait strict numbered = record (plain_options (file ∷ [])) {
  origin = origin;
  saving = saving;
  wait = wait;
  strict = strict;
  numbered = numbered;
}

-- a run, with its script from standard input, or otherwise with no other word than the script
abbrev pub IsRunWritten : Text → ModeName → Option ℕ → Origin → SaveMode → ℕ → Bool → Bool → List Text → Type 0
IsRunWritten file mode size input saving wait strict numbered words = (modes : List Text) × (sizes : List Text)
    × (waits : List Text)
    × IsModePart modes mode × IsSizePart sizes mode size × IsWaitPart waits wait
    × (words ≡ codes "run" ∷ file ∷ modes ++ (sizes ++ (waits ++ flag_arguments saving strict numbered)))
IsRunWritten file mode size origin saving wait strict numbered words =
    (origins : List Text) × IsOriginPart origins origin
    × (mode ≡ OpenOnly) × (size ≡ None) × (saving ≡ InPlace) × (wait ≡ 0) × (strict ≡ false) × (numbered ≡ false)
    × (words ≡ codes "run" ∷ file ∷ origins)

-- the options of a check, and its words
abbrev pub check_options : Text → Bool → Bool → OptionValues
check_options file explains quiet = record (plain_options (file ∷ [])) { explains = explains; quiet = quiet }

abbrev pub check_arguments : Text → Bool → Bool → List Text
check_arguments file explains quiet =
    codes "check" ∷ file ∷ flag_part (codes "--explain") explains ++ flag_part (codes "--quiet") quiet

-- the options of a command that writes a file
abbrev pub kept_options : Text → SaveMode → ℕ → OptionValues
kept_options file saving wait = record (plain_options (file ∷ [])) { saving = saving; wait = wait }

-- these words, and after them those options
abbrev pub IsKeptWritten : List Text → Text → OptionValues → List Text → Type 0
IsKeptWritten begun file how words = IsTrue (is_path file) × (waits : List Text) × IsWaitPart waits how.wait
    × (how ≡ kept_options file how.saving how.wait) × (words ≡ begun ++ (waits ++ saving_part how.saving))

-- an index, which may be left out, is a word like a path
abbrev pub is_index : Option Text → Bool
is_index None = true
is_index (Some index) = is_path index

abbrev pub index_arguments : Option Text → List Text
index_arguments None = []
index_arguments (Some index) = index ∷ []

-- what is told of a file: the command, and its flag
abbrev pub report_arguments : Report → Text → List Text
report_arguments Figures file = codes "stat" ∷ file ∷ []
report_arguments Picture file = codes "draw" ∷ file ∷ []
report_arguments Page file = codes "draw" ∷ file ∷ codes "--html" ∷ []
report_arguments Dump file = codes "dump" ∷ file ∷ []
report_arguments Capacities file = codes "dump" ∷ file ∷ codes "--capacities" ∷ []
report_arguments Json file = codes "dump" ∷ file ∷ codes "--json" ∷ []

-- the words after the program's name say a command and these options
abbrev pub IsWrittenWith : InvocationValue → OptionValues → List Text → Type 0
IsWrittenWith (create file size) how words = IsTrue (is_path file) × (how ≡ plain_options (file ∷ []))
    × (digits : Text) × (number_of digits ≡ Some size) × (words ≡ codes "create" ∷ file ∷ digits ∷ [])
IsWrittenWith (run file mode size) how words = IsTrue (is_path file)
    × (how ≡ options_of_run file how.origin how.saving how.wait how.strict how.numbered)
    × IsRunWritten file mode size how.origin how.saving how.wait how.strict how.numbered words
IsWrittenWith (check file) how words = IsTrue (is_path file) × (how ≡ check_options file how.explains how.quiet)
    × (words ≡ check_arguments file how.explains how.quiet)
IsWrittenWith (grow file bytes) how words = (digits : Text) × (number_of digits ≡ Some bytes)
    × IsKeptWritten (codes "grow" ∷ file ∷ digits ∷ []) file how words
IsWrittenWith (shrink file) how words = IsKeptWritten (codes "shrink" ∷ file ∷ []) file how words
IsWrittenWith (migrate file) how words = IsKeptWritten (codes "migrate" ∷ file ∷ []) file how words
IsWrittenWith (tell file what) how words = IsTrue (is_path file) × (how ≡ plain_options (file ∷ []))
    × (words ≡ report_arguments what file)
IsWrittenWith (names file prefix most) how words = IsTrue (is_path file) × (how ≡ plain_options (file ∷ []))
    × (prefixes : List Text) × (mosts : List Text)
    × IsPart (codes "--prefix") prefixes prefix × IsNumberPart (codes "--most") mosts most
    × (words ≡ codes "names" ∷ file ∷ prefixes ++ mosts)
IsWrittenWith (get file key index) how words = IsTrue (is_path file) × IsTrue (is_path key) × IsTrue (is_index index)
    × (how ≡ plain_options (file ∷ [])) × (words ≡ codes "get" ∷ file ∷ key ∷ index_arguments index)
IsWrittenWith (load file size) how words = (sizes : List Text) × IsNumberPart (codes "--size") sizes size
    × IsKeptWritten (codes "load" ∷ file ∷ sizes) file how words
IsWrittenWith (salvage file) how words = IsTrue (is_path file) × (how ≡ plain_options (file ∷ []))
    × (words ≡ codes "salvage" ∷ file ∷ [])
IsWrittenWith lint how words = (how ≡ no_options) × (words ≡ codes "lint" ∷ [])
IsWrittenWith language how words = (how ≡ no_options) × (words ≡ codes "language" ∷ [])
IsWrittenWith version how words = (how ≡ no_options) × (words ≡ codes "--version" ∷ [])

-- the words after the program's name say what is requested
abbrev pub IsRequestWritten : RequestValue → List Text → Type 0
IsRequestWritten r words = IsWrittenWith r.command r.options words

-- they say a command, with some options
abbrev pub IsWritten : InvocationValue → List Text → Type 0
IsWritten a words = (o : OptionValues) × IsRequestWritten (record { command = a; options = o }) words
