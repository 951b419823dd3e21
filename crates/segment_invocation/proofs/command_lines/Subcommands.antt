-- What a parse makes of the words after each command of the program.
use Rattle.std.proofs.Common.{◌≡◌, refl, ap, ap₂, ◌∙◌, ℕ, Bool, true, false, ◌&&◌, List, [], ◌∷◌, ◌++◌, Option, Some}
use Rattle.std.proofs.Common.{None, codes, fold}
use Rattle.std.specs.List.{list_all}
use Rattle.std.specs.Prelude.{⊤, option_and_then}
use Rattle.std.proofs.lemmas.Bool.{and_parts}
use Rattle.std.proofs.lemmas.List.{append_assoc}
use Rattle.clap.proofs.OnLiterals.{clap_on_literals}
use Rattle.clap.specs.Walk.{Held, Row, Text, Waiting, Walk, finished, idle, option as waits, nothing_held, plain_word}
use Rattle.clap.specs.Walk.{settled, walk_from, walked}
use Rattle.clap.specs.Simple.{Shape, built_leaf, inherited}
use Rattle.clap.specs.Takes.{default_passes, is_valid, settle_passes, step_passes, turn_passes, walk_passes}
use Rattle.clap.specs.declared.builder.value_parser.Reading.TheVariants as reading
use Rattle.clap.specs.declared.parser.matches.ValueSource.TheVariants.{CommandLine}
use Rattle.segment_invocation.specs.Invocations.{mode_of, InvocationValue, OptionValues, Origin, asked_in, from_lines}
use Rattle.segment_invocation.specs.Invocations.{input, kept_options, line_arguments, options_of, plain_options}
use Rattle.segment_invocation.specs.Invocations.{program, run_command, run_of, options_of_run, seconds_of}
use Rattle.segment_invocation.specs.declared.invocations.ModeName.TheVariants.{OpenOnly}
use Rattle.segment_disk.specs.declared.presence.SaveMode.{SaveMode}
use Rattle.segment_disk.specs.declared.presence.SaveMode.TheVariants.{InPlace, Replacing}
use Rattle.segment_invocation.proofs.command_lines.PlainArguments.{IsPlain, plain_step, turn-plain, walked-plain}

-- a command as it is built
abbrev pub leaf : Shape → Shape
leaf s = built_leaf (inherited program.top s)

-- the last tests of a level, after the test of its words
abbrev pub passes_at : Shape → Bool → Walk → Bool
passes_at s arguments_pass end =
    arguments_pass && (settle_passes s.rules s.args_override_self end.held
    && (list_all default_passes s.rules && is_valid s (finished s.rules end.held) false))

-- ---- a walk over some of the words

-- where it leads, and that each word passes
pub record IsSteps (s : Shape) (from : Walk) (words : List Text) (to : Walk) : Type 0 where
  pub walk : fold (walked s.rules []) from words ≡ to
  pub passes : walk_passes s [] from words ≡ true

-- between two words
abbrev pub at : Held → Waiting → ℕ → Walk
at h waiting position = record { held = h; waiting = waiting; position = position; is_trailing = false; stopped = None }

-- after the name of an option, and after its value
abbrev pub at_option : Shape → Text → Walk → Walk
at_option s id w = record w {
  held = record w.held {
    rows = (settled s.rules w.held).rows;
    pending = Some (id, []);
  };
  waiting = waits id;
}

-- after an option and its value
abbrev pub after_option : Shape → Text → Text → Walk → Walk
after_option s id v w = plain_step s.rules (at_option s id w) v

-- after the file
abbrev pub after_file : Shape → Text → Walk
after_file s f = plain_step s.rules (walk_from nothing_held) f

-- the word passes that is a value, or goes to its place
abbrev pub IsTaken : Shape → Held → Waiting → ℕ → Text → Type 0
IsTaken s h waiting position argument =
    (let met = plain_word s.rules waiting argument h in step_passes s position met.0 met.1) ≡ true

module _ (s : Shape) where
  walk-behind : (words : List Text) (w : Walk) (more : List Text)
      → fold (walked s.rules []) w (words ++ more) ≡ fold (walked s.rules []) (fold (walked s.rules []) w words) more
  walk-behind [] w more = refl
  walk-behind (y ∷ ys) w more = walk-behind ys (walked s.rules [] w y) more

  passes-behind : (words : List Text) (w : Walk) (more : List Text) → walk_passes s [] w words ≡ true
      → walk_passes s [] (fold (walked s.rules []) w words) more ≡ true
      → walk_passes s [] w (words ++ more) ≡ true
  unfolding walk_passes
  passes-behind [] w more h t = t
  passes-behind (y ∷ ys) w more h t =
      let both = and_parts (turn_passes s [] w y) _ h in
      ap₂ ◌&&◌ both.0 (passes-behind ys (walked s.rules [] w y) more both.1 t)

  -- words and more words
  pub steps : (from to end : Walk) (words more : List Text) → IsSteps s from words to → IsSteps s to more end
      → IsSteps s from (words ++ more) end
  steps from to end words more a b = record {
    walk = walk-behind words from more ∙ (ap (λ (w : Walk). fold (walked s.rules []) w more) a.walk ∙ b.walk);
    passes = passes-behind words from more a.passes (ap (λ (w : Walk). walk_passes s [] w more) a.walk ∙ b.passes);
  }

  -- one word that is no option
  pub plain : (h : Held) (waiting : Waiting) (position : ℕ) (argument : Text) → IsPlain argument → IsTaken s h
      waiting position argument
      → IsSteps s (at h waiting position) (argument ∷ []) (plain_step s.rules (at h waiting position) argument)
  unfolding walk_passes
  plain h waiting position argument p t = record {
    walk = walked-plain s.rules h waiting position argument p;
    passes = ap (λ b. b && true) (turn-plain s h waiting position argument p ∙ t);
  }

  -- an option and its value
  pub option-steps : (h : Held) (waiting : Waiting) (position : ℕ) (argument id v : Text) → IsPlain v
      → walked s.rules [] (at h waiting position) argument ≡ at_option s id (at h waiting position)
      → turn_passes s [] (at h waiting position) argument ≡ true
      → IsTaken s (at_option s id (at h waiting position)).held (waits id) position v
      → IsSteps s (at h waiting position) (argument ∷ v ∷ []) (after_option s id v (at h waiting position))
  unfolding walk_passes
  option-steps h waiting position argument id v p e t u =
      steps (at h waiting position) (at_option s id (at h waiting position))
      (after_option s id v (at h waiting position)) (argument ∷ []) (v ∷ [])
      (record { walk = e; passes = ap (λ b. b && true) t })
      (plain (at_option s id (at h waiting position)).held (waits id) position v p u)

  -- flags
  pub flags : (w : Walk) (words : List Text) → walk_passes s [] w words ≡ true
      → IsSteps s w words (fold (walked s.rules []) w words)
  flags w words t = record { walk = refl; passes = t }

  -- no word
  pub none : (w : Walk) → IsSteps s w [] w
  unfolding walk_passes
  none w = record { walk = refl; passes = refl }

  -- an option after words that lead to a place
  pub optioned : (from : Walk) (words : List Text) (h : Held) (position : ℕ) (argument id v : Text) → IsPlain v
      → IsSteps s from words (at h idle position)
      → walked s.rules [] (at h idle position) argument ≡ at_option s id (at h idle position)
      → turn_passes s [] (at h idle position) argument ≡ true
      → IsTaken s (at_option s id (at h idle position)).held (waits id) position v
      → IsSteps s from (words ++ argument ∷ v ∷ []) (after_option s id v (at h idle position))
  optioned from words h position argument id v q w e t u = steps from (at h idle position)
      (after_option s id v (at h idle position)) words (argument ∷ v ∷ []) w
      (option-steps h idle position argument id v q e t u)

-- ---- what all words ask for, and that they pass

-- a command and its options, if they are asked for
abbrev pub Asking : Type 0
Asking = Option InvocationValue × Option OptionValues

-- what a subcommand's rows ask for
abbrev pub asking : Text → List Row → Asking
asking name words = (asked_in name words, options_of words)

-- a command of a file, with no options
abbrev pub plainly : Text → InvocationValue → Asking
plainly f a = (Some a, Some (plain_options (f ∷ [])))

-- this is asked for at the end of the words, and the last tests pass
abbrev pub IsAsked : Shape → Text → Walk → Asking → Type 0
IsAsked s name end wanted = ◌≡◌ {A = Asking × Bool} (asking name (finished s.rules end.held), passes_at s true end)
    (wanted, true)

-- flags after a place pass, and this is asked for
abbrev pub IsEnding : Shape → Text → Walk → List Text → Asking → Type 0
IsEnding s name to words wanted = (walk_passes s [] to words ≡ true)
    × IsAsked s name (fold (walked s.rules []) to words) wanted

-- `NAME VALUE`, or nothing
abbrev pub option_arguments : Text → Option Text → List Text
option_arguments name None = []
option_arguments name (Some v) = name ∷ v ∷ []

-- the value is no option
abbrev pub IsPlainIn : Option Text → Type 0
IsPlainIn None = ⊤
IsPlainIn (Some v) = IsPlain v

-- an option right after the file
abbrev pub with_option : Shape → Text → Text → Text → Walk
with_option s f id v = after_option s id v (after_file s f)

-- the options of a command that writes a file, by its words
abbrev pub kept_in : Text → Option Text → SaveMode → Option OptionValues
kept_in f wait saving = option_and_then (λ w. Some (kept_options f saving w)) (seconds_of wait)

-- what holds of both ways to save a file
pub either-saving : (P : SaveMode → Type 0) → P InPlace → P Replacing → (saving : SaveMode) → P saving
either-saving P i r InPlace = i
either-saving P i r Replacing = r

-- ---- a run

-- the command `run`
abbrev pub run_leaf : Shape
run_leaf = leaf run_command

-- what a run of standard input is asked for, by its words
abbrev pub said : Text → Option Text → Option Text → Option Text → SaveMode → Bool → Bool → Asking
said f mode size wait saving strict numbered = (
  run_of f (mode_of false mode) size,
  option_and_then (λ w. Some (options_of_run f input saving w strict numbered)) (seconds_of wait),
)

-- a run with this script, and no options
abbrev pub said_with : Text → Origin → Asking
said_with f origin = (run_of f (Some OpenOnly) None, Some (options_of_run f origin InPlace 0 false false))

-- what holds with all flags of a run
pub all-flags : (P : SaveMode → Bool → Bool → Type 0) → P InPlace false false → P InPlace false true
    → P InPlace true false → P InPlace true true
    → P Replacing false false → P Replacing false true → P Replacing true false → P Replacing true true
    → (saving : SaveMode) (strict numbered : Bool) → P saving strict numbered
all-flags P a b c d e f g h InPlace false false = a
all-flags P a b c d e f g h InPlace false true = b
all-flags P a b c d e f g h InPlace true false = c
all-flags P a b c d e f g h InPlace true true = d
all-flags P a b c d e f g h Replacing false false = e
all-flags P a b c d e f g h Replacing false true = f
all-flags P a b c d e f g h Replacing true false = g
all-flags P a b c d e f g h Replacing true true = h

-- ---- the lines of a run

-- the row of a word, which may have more than one value
abbrev argument_row : Text → List Text → Row
argument_row id words = record {
  id = id;
  values = words;
  count = None;
  source = Some CommandLine;
  reading = reading.AsWritten;
}

-- the rows with these lines
abbrev line_rows : Text → List Text → List Row
line_rows f [] = argument_row (codes "file") (f ∷ []) ∷ []
line_rows f (l ∷ ls) = argument_row (codes "file") (f ∷ []) ∷ argument_row (codes "line") (l ∷ ls) ∷ []

-- after the last line, with those before it
abbrev pub at_line : Text → List Text → Text → Walk
at_line f done last = at (record { rows = line_rows f done; pending = Some (codes "line", last ∷ []); skip = 0 }) idle 2

-- the first line leads there
pub first-line : (f l : Text) → IsPlain l
    → IsSteps run_leaf (after_file run_leaf f) (codes "-c" ∷ l ∷ []) (at_line f [] l)
unfolding clap_on_literals
first-line f l q = option-steps run_leaf (after_file run_leaf f).held idle 2 (codes "-c") (codes "line") l q refl
    refl refl

next-line : (f : Text) (done : List Text) (last l : Text) → IsPlain l
    → IsSteps run_leaf (at_line f done last) (codes "-c" ∷ l ∷ []) (at_line f (done ++ last ∷ []) l)
unfolding clap_on_literals
next-line f [] last l q = option-steps run_leaf (at_line f [] last).held idle 2 (codes "-c") (codes "line") l q refl
    refl refl
next-line f (x ∷ xs) last l q =
    option-steps run_leaf (at_line f (x ∷ xs) last).held idle 2 (codes "-c") (codes "line") l q refl refl refl

-- each is a word that is no option
abbrev pub ArePlain : List Text → Type 0
ArePlain [] = ⊤
ArePlain (l ∷ ls) = IsPlain l × ArePlain ls

-- where lines lead after one
pub record IsLined (f : Text) (done : List Text) (last : Text) (words : List Text) : Type 0 where
  pub before : List Text
  pub final : Text
  pub path : IsSteps run_leaf (at_line f done last) (line_arguments words) (at_line f before final)
  pub all : before ++ final ∷ [] ≡ done ++ last ∷ words

-- lines lead to the last of them
pub lined : (f : Text) (done : List Text) (last : Text) (words : List Text) → ArePlain words → IsLined f done last words
unfolding walk_passes
lined f done last [] q = record {
  before = done;
  final = last;
  path = record { walk = refl; passes = refl };
  all = refl;
}
lined f done last (l ∷ ls) (q, qs) =
    let rest = lined f (done ++ last ∷ []) l ls qs in
    record {
      before = rest.before;
      final = rest.final;
      path = steps run_leaf (at_line f done last) (at_line f (done ++ last ∷ []) l)
          (at_line f rest.before rest.final) (codes "-c" ∷ l ∷ []) (line_arguments ls) (next-line f done last l q)
          rest.path;
      all = rest.all ∙ append_assoc done (last ∷ []) (l ∷ ls);
    }

-- the lines are asked for
pub lines-asked : (f : Text) (before : List Text) (final : Text)
    → IsAsked run_leaf (codes "run") (at_line f before final) (said_with f (from_lines (before ++ final ∷ [])))
unfolding clap_on_literals
lines-asked f [] final = refl
lines-asked f (x ∷ xs) final = refl
