-- The words of a command line, and the run that the words ask for.
use Rattle.std.specs.Prelude.{◌≡◌, ◌+◌, ℕ, Bool, true, List, [], ◌∷◌, Option, Some, None, codes, IfSome}
use Rattle.std.specs.Prelude.{if◌then◌else◌}
use Rattle.std.specs.List.{count_by, list_any}
use Rattle.std.specs.Str.{bytes_eq, IsUtf8}
use Rattle.segment_lang.specs.Texts.{quoted_text}
use Rattle.segment_commands.specs.Paths.{path_text, stands_in}
use Rattle.segment_commands.specs.declared.running.RunRequest.{RunRequest}
use Rattle.segment_invocation.specs.declared.invocations.ModeName.{ModeName}
use Rattle.segment_invocation.specs.Invocations.{OptionValues, Origin, from_file, from_lines, input}
use Rattle.segment_scripts.specs.declared.ends.Until.{Until}
use Rattle.segment_scripts.specs.declared.ends.Until.TheVariants.{End, Refusal}

-- the only element of a list, if there is one alone
abbrev pub only : {X : Type 0} → List X → Option X
only [] = None
only (x ∷ []) = Some x
only (x ∷ y ∷ rest) = None

-- ---- words that are no UTF-8

-- What is read of the bytes of a word: the text that the bytes are; otherwise a stand-in of the bytes, or nothing.
pub record IsArgumentOf (bytes : List ℕ) (read : Option (List ℕ)) : Type 0 where
  pub text : IsUtf8 bytes → read ≡ Some bytes
  pub stand_in : (IsUtf8 bytes → ⊥)
      → IfSome read (λ made. (stands_in made ≡ true) × (path_text made ≡ quoted_text bytes))

-- how many words stand for words that are no UTF-8
abbrev pub stand_in_count : List (List ℕ) → ℕ
stand_in_count = count_by stands_in

-- how many of the script's files these are: one if the script is a file whose path is no UTF-8
abbrev pub script_stand_ins : Origin → ℕ
script_stand_ins input = 0
script_stand_ins (from_file path) = if stands_in path then 1 else 0
script_stand_ins (from_lines texts) = 0

-- how many paths are no UTF-8, of the files of a command and of its script
abbrev pub unusable_count : OptionValues → ℕ
unusable_count how = stand_in_count how.paths + script_stand_ins how.origin

-- ---- lines that ask for help

-- the lines by which people ask a program for help, or leave the program
abbrev pub pleas : List (List ℕ)
pleas = codes "help\n" ∷ codes "quit\n" ∷ codes "exit\n" ∷ []

abbrev pub is_among_pleas : List ℕ → Bool
is_among_pleas line = list_any (λ plea. bytes_eq plea line) pleas

-- ---- a run

-- a strict run ends at the first refusal, any other run at the end of the script
abbrev pub run_end : Bool → Until
run_end strict = if strict then Refusal else End

-- the run of a script on the file with this path, as the options of the command line say
pub record IsRunFor (path : List ℕ) (mode : ModeName) (size : Option ℕ) (how : OptionValues) (request : RunRequest) :
    Type 0 where
  pub path_is : request.path.now ≡ path
  pub mode_is : request.mode ≡ mode
  pub size_is : request.size ≡ size
  pub saving_is : request.saving ≡ how.saving
  pub until_is : request.until ≡ run_end how.strict
