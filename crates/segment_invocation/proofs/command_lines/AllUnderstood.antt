-- The command lines that are always understood.
use Rattle.std.proofs.Common.{◌≡◌, refl, sym, subst, ap, ap₂, ◌∙◌, ℕ, ◌==◌, ◌&&◌, Bool, true, false, not, List, [], ◌∷◌}
use Rattle.std.proofs.Common.{◌++◌, Option, Some, None, codes, arith, inl, inr, drop, fold}
use Rattle.std.specs.List.{list_all}
use Rattle.std.specs.Prelude.{◌⊎◌, is_some, if◌then◌else◌, IsTrue, nat_le, option_map, option_and_then, unwrap_or}
use Rattle.std.proofs.lemmas.Bool.{and_parts}
use Rattle.std.proofs.lemmas.Bool.Decides.{nat_tests}
use Rattle.clap.proofs.OnLiterals.{clap_on_literals}
use Rattle.clap.specs.Walk.{Held, Names, Text, Walk, finished, idle, nothing_held, option as awaiting, rows_after}
use Rattle.clap.specs.Walk.{stop_after, walk, walk_from, walked}
use Rattle.clap.proofs.WalkLemmas.{walk_stopped}
use Rattle.clap.specs.Simple.{App, Shape, built, entered, is_simple, names_of, subcommand_of}
use Rattle.clap.specs.Takes.{built_takes, default_passes, entered_passes, is_valid, level_passes, settle_passes, takes}
use Rattle.clap.specs.Takes.{turn_passes, walk_passes}
use Rattle.clap.specs.Faults.{built_fault, fault_of, is_simple_and_free}
use Rattle.clap.specs.declared.error.kind.ErrorKind.TheVariants.{DisplayVersion}
use Rattle.segment_lang.specs.Lexing.{between, is_digit, is_numeral, number_after, number_of}
use Rattle.segment_invocation.specs.Invocations.{InvocationValue, OptionValues, Origin, RequestValue, create, run}
use Rattle.segment_invocation.specs.Invocations.{check, get, grow, shrink, migrate, tell, names, load, lint, language}
use Rattle.segment_invocation.specs.Invocations.{salvage, version, input, from_file, from_lines, IsKeptWritten}
use Rattle.segment_invocation.specs.Invocations.{IsModePart, IsNumberPart, IsOriginPart, IsPart, IsRequestWritten}
use Rattle.segment_invocation.specs.Invocations.{IsRunWritten, IsSizePart, IsWaitPart, IsWrittenWith, check_command}
use Rattle.segment_invocation.specs.Invocations.{check_options, check_arguments, command_line, create_command}
use Rattle.segment_invocation.specs.Invocations.{draw_command, dump_command, file_command, get_command, grow_command}
use Rattle.segment_invocation.specs.Invocations.{kept_command, line_arguments, load_command, names_command}
use Rattle.segment_invocation.specs.Invocations.{flag_arguments, index_arguments, is_index, report_arguments, is_path}
use Rattle.segment_invocation.specs.Invocations.{kept_options, lacks_size, mode_called, mode_of, mode_argument}
use Rattle.segment_invocation.specs.Invocations.{no_options, of_version, plain_options, requested, requested_in}
use Rattle.segment_invocation.specs.Invocations.{requested_of, run_of, options_of_run, run_sized, saving_part}
use Rattle.segment_invocation.specs.Invocations.{seconds_of, size_of}
use Rattle.segment_invocation.specs.declared.invocations.Report.{Report}
use Rattle.segment_invocation.specs.declared.invocations.Report.TheVariants.{Figures, Picture, Page, Dump, Capacities}
use Rattle.segment_invocation.specs.declared.invocations.Report.TheVariants.{Json}
use Rattle.segment_invocation.specs.declared.invocations.ModeName.{ModeName}
use Rattle.segment_invocation.specs.declared.invocations.ModeName.TheVariants.{CreateOnly, OpenOnly, OpenOrCreate}
use Rattle.segment_invocation.specs.declared.invocations.ModeName.TheVariants.{OpenReadOnly, OpenCopyOnWrite}
use Rattle.segment_disk.specs.declared.presence.SaveMode.{SaveMode}
use Rattle.segment_disk.specs.declared.presence.SaveMode.TheVariants.{InPlace}
use Rattle.segment_invocation.proofs.command_lines.PlainArguments.{IsPlain, plain_step}
use Rattle.segment_invocation.proofs.command_lines.Subcommands.{Asking, IsAsked, IsEnding, IsPlainIn, IsSteps, IsTaken}
use Rattle.segment_invocation.proofs.command_lines.Subcommands.{ArePlain, after_file, after_option, all-flags, asking}
use Rattle.segment_invocation.proofs.command_lines.Subcommands.{at, at_line, at_option, either-saving, first-line}
use Rattle.segment_invocation.proofs.command_lines.Subcommands.{flags, kept_in, leaf, lined, lines-asked, none}
use Rattle.segment_invocation.proofs.command_lines.Subcommands.{option-steps, option_arguments, optioned, passes_at}
use Rattle.segment_invocation.proofs.command_lines.Subcommands.{plain, plainly, run_leaf, said, said_with, steps}
use Rattle.segment_invocation.proofs.command_lines.Subcommands.{with_option}

-- ---- words that are no options

path-plain : (f : Text) → IsTrue (is_path f) → IsPlain f
path-plain [] h = cc
path-plain (c ∷ cs) h = go (c == 45) refl h
  where
    go : (b : Bool) → (c == 45) ≡ b → IsTrue (not b) → IsPlain (c ∷ cs)
    go true e h = cc
    go false e h = (c, cs, refl, e)

lines-plain : (ls : List Text) → IsTrue (list_all is_path ls) → ArePlain ls
lines-plain [] h = tt
lines-plain (l ∷ ls) h = let both = and_parts (is_path l) (list_all is_path ls) h
    in (path-plain l both.0, lines-plain ls both.1)

digit-plain : (d : ℕ) → is_digit d ≡ true → (d == 45) ≡ false
digit-plain d h = grind (arith, nat_tests)

first-digit : (d : ℕ) → between 0x31 0x39 d ≡ true → (d == 45) ≡ false
first-digit d h = grind (arith, nat_tests)

some-if : {A : Type 0} (b : Bool) (x y : A) → (if b then Some x else None) ≡ Some y → b ≡ true
some-if true x y h = refl
some-if false x y h = cc

numeral-plain : (w : Text) → is_numeral w ≡ true → IsPlain w
numeral-plain [] h = cc
numeral-plain (d ∷ []) h = (d, [], refl, digit-plain d h)
numeral-plain (d ∷ e ∷ ds) h = (d, e ∷ ds, refl, first-digit d (and_parts (between 0x31 0x39 d) _ h).0)

number-plain : (w : Text) (n : ℕ) → number_of w ≡ Some n → IsPlain w
number-plain w n h = numeral-plain w
    (and_parts (is_numeral w) (nat_le (number_after 0 w) 18446744073709551615) (some-if _ _ n h)).0

mode-plain : (mode : ModeName) → IsPlain (mode_argument mode)
mode-plain CreateOnly = (_, _, refl, refl)
mode-plain OpenOnly = (_, _, refl, refl)
mode-plain OpenOrCreate = (_, _, refl, refl)
mode-plain OpenReadOnly = (_, _, refl, refl)
mode-plain OpenCopyOnWrite = (_, _, refl, refl)

called : (mode : ModeName) → mode_called (mode_argument mode) ≡ Some mode
called CreateOnly = refl
called OpenOnly = refl
called OpenOrCreate = refl
called OpenReadOnly = refl
called OpenCopyOnWrite = refl

-- ---- options that may be left out

-- words are an option or nothing, whose value is no option and is read as this
record IsOption {A : Type 0} (name : Text) (reading : Option Text → Option A) (words : List Text) (a : A) : Type 0 where
  argument : Option Text
  spelled : words ≡ option_arguments name argument
  value : reading argument ≡ Some a
  plain : IsPlainIn argument

number-option : (name : Text) (words : List Text) (n : Option ℕ) → IsNumberPart name words n
    → IsOption name size_of words n
number-option name words None h = record { argument = None; spelled = h; value = refl; plain = tt }
number-option name words (Some n) (d, h, e) =
    record { argument = Some d; spelled = e; value = ap (option_map Some) h; plain = number-plain d n h }

wait-option : (words : List Text) (wait : ℕ) → IsWaitPart words wait → IsOption (codes "--wait") seconds_of words wait
wait-option words wait (n, h, e) =
    let o = number-option (codes "--wait") words n h in
    record {
      argument = o.argument;
      spelled = o.spelled;
      value = ap (option_map (λ (n : Option ℕ). unwrap_or n 0)) o.value
          ∙ ap Some (sym e);
      plain = o.plain;
    }

mode-option : (words : List Text) (mode : ModeName) → IsModePart words mode
    → IsOption (codes "--mode") (mode_of false) words mode
mode-option words mode (inl e) =
    record { argument = Some (mode_argument mode); spelled = e; value = called mode; plain = mode-plain mode }
mode-option words mode (inr (e, o)) = record { argument = None; spelled = e; value = ap Some (sym o); plain = tt }

prefix-option : (words : List Text) (prefix : Text) → IsPart (codes "--prefix") words prefix
    → IsOption (codes "--prefix") (λ argument. Some (unwrap_or argument [])) words prefix
prefix-option words [] e = record { argument = None; spelled = e; value = refl; plain = tt }
prefix-option words (c ∷ cs) (t, e) =
    record { argument = Some (c ∷ cs); spelled = e; value = refl; plain = path-plain (c ∷ cs) t }

-- ---- the words after the program's name

-- they are taken, and say what is requested
record Behind (words : List Text) (r : RequestValue) : Type 0 where
  takes : built_takes (built command_line) nothing_held words ≡ true
  asks : requested_of (entered (built command_line)
      (stop_after (built command_line).top.rules (names_of (built command_line)) words)) ≡ Some r

-- a command and its options
abbrev with_options : InvocationValue → OptionValues → RequestValue
with_options a o = record { command = a; options = o }

-- a command of a file, with no options
abbrev plain_request : Text → InvocationValue → RequestValue
plain_request f a = with_options a (plain_options (f ∷ []))

-- what is asked for is requested
abbrev of_asking : Asking → Option RequestValue
of_asking p = requested p.0 p.1

behind-lint : Behind (codes "lint" ∷ []) (with_options lint no_options)
unfolding clap_on_literals
behind-lint = record { takes = refl; asks = refl }

behind-language : Behind (codes "language" ∷ []) (with_options language no_options)
unfolding clap_on_literals
behind-language = record { takes = refl; asks = refl }

-- ---- after the name of a subcommand all words are its own

abbrev app : App
app = built command_line

-- a walk that stopped takes all words
stopped-passes : (s : Shape) (known : Names) (w : Walk) (name : Text) (seen words : List Text)
    → walk_passes s known (record w { stopped = Some (name, seen) }) words ≡ true
unfolding walk_passes walked
stopped-passes s known w name seen [] = refl
stopped-passes s known w name seen (x ∷ xs) = stopped-passes s known w name (seen ++ x ∷ []) xs

abbrev at_name : Text → List Text → Walk
at_name name words = record (walk_from nothing_held) { stopped = Some (name, words) }

-- the tests of the program's own level, after those of its words
abbrev takes_at : Walk → Bool → Bool
takes_at end arguments_pass = entered_passes app end.stopped
    && (arguments_pass && (settle_passes app.top.rules app.top.args_override_self end.held
    && (list_all default_passes app.top.rules
    && is_valid app.top (finished app.top.rules end.held) (is_some (entered app end.stopped)))))

module _ (name : Text) (s : Shape) (met : walked app.top.rules (names_of app) (walk_from nothing_held) name
    ≡ at_name name [])
    (passes : turn_passes app.top (names_of app) (walk_from nothing_held) name ≡ true)
    (taken : (words : List Text) → takes_at (at_name name words) true
    ≡ (level_passes s [] nothing_held words false && true))
    (asked : (words : List Text) → requested_of (entered app (Some (name, words)))
    ≡ requested_in name (rows_after s.rules [] words)) where
  name-walk : (words : List Text) → walk app.top.rules (names_of app) nothing_held (name ∷ words) ≡ at_name name words
  name-walk words = ap (λ (w : Walk). fold (walked app.top.rules (names_of app)) w words) met
      ∙ sym (walk_stopped app.top.rules (names_of app) (walk_from nothing_held) name [] words)

  name-words : (words : List Text) → walk_passes app.top (names_of app) (walk_from nothing_held) (name ∷ words) ≡ true
  unfolding walk_passes
  name-words words = ap₂ ◌&&◌ passes (ap (λ (w : Walk). walk_passes app.top (names_of app) w words) met
      ∙ stopped-passes app.top (names_of app) (walk_from nothing_held) name [] words)

  -- a file and words after it are understood, that lead to a place and ask there for this
  behind-file : (f : Text) (words : List Text) (end : Walk) (wanted : Asking) (a : InvocationValue) (o : OptionValues)
      → IsPlain f → IsTaken s nothing_held idle 1 f → IsSteps s (after_file s f) words end → IsAsked s name end wanted
      → wanted.0 ≡ Some a → wanted.1 ≡ Some o → Behind (name ∷ f ∷ words) (with_options a o)
  behind-file f words end wanted a o p t w h e g =
      let path = steps s (walk_from nothing_held) (after_file s f) end (f ∷ []) words
      (plain s nothing_held idle 1 f p t) w in
      record {
        takes = ap₂ takes_at (name-walk (f ∷ words)) (name-words (f ∷ words)) ∙ (taken (f ∷ words)
            ∙ ap (λ b. b && true) (ap₂ (passes_at s) path.passes path.walk ∙ ap (λ (x : Asking × Bool). x.1) h));
        asks = ap (λ (w : Walk). requested_of (entered app w.stopped)) (name-walk (f ∷ words)) ∙ (asked (f ∷ words)
            ∙ (ap of_asking (ap (λ (w : Walk). asking name (finished s.rules w.held)) path.walk
            ∙ ap (λ (x : Asking × Bool). x.0) h) ∙ ap₂ requested e g));
      }

  -- the same with flags after them
  behind-flags : (f : Text) (words more : List Text) (to : Walk) (wanted : Asking) (a : InvocationValue)
      (o : OptionValues) → IsPlain f → IsTaken s nothing_held idle 1 f → IsSteps s (after_file s f) words to
      → IsEnding s name to more wanted → wanted.0 ≡ Some a → wanted.1 ≡ Some o
      → Behind (name ∷ f ∷ words ++ more) (with_options a o)
  behind-flags f words more to wanted a o p t w h = behind-file f (words ++ more) (fold (walked s.rules []) to more)
      wanted a o p t (steps s (after_file s f) to (fold (walked s.rules []) to more) words more w (flags s to more h.0))
      h.1

  -- a command that writes a file, with its own words and then these options
  module _ (f : Text) (begun : List Text) (h : Held) (position : ℕ) (wanted : Option InvocationValue)
      (a : InvocationValue) (t : IsTaken s nothing_held idle 1 f)
      (path : IsSteps s (after_file s f) begun (at h idle position)) (is : wanted ≡ Some a) where
    abbrev IsKept : Walk → Option Text → SaveMode → Type 0
    IsKept to wait saving = IsEnding s name to (saving_part saving) (wanted, kept_in f wait saving)

    closed : (more : List Text) (to : Walk) (wait : Option Text) (saving : SaveMode) (n : ℕ) → IsPlain f
        → IsSteps s (at h idle position) more to → IsKept to wait saving → seconds_of wait ≡ Some n
        → Behind (name ∷ f ∷ begun ++ (more ++ saving_part saving)) (with_options a (kept_options f saving n))
    closed more to wait saving n p m k v =
        let end : Walk = fold (walked s.rules []) to (saving_part saving) in
        behind-file f (begun ++ (more ++ saving_part saving)) end (wanted, kept_in f wait saving) a
        (kept_options f saving n) p t (steps s (after_file s f) (at h idle position) end begun
        (more ++ saving_part saving) path (steps s (at h idle position) to end more (saving_part saving) m
        (flags s to (saving_part saving) k.0))) k.1 is (ap (option_and_then (λ w. Some (kept_options f saving w))) v)

    module _ (kept : (saving : SaveMode) → IsKept (at h idle position) None saving)
        (e : walked s.rules [] (at h idle position) (codes "--wait") ≡ at_option s (codes "wait") (at h idle position))
        (q : turn_passes s [] (at h idle position) (codes "--wait") ≡ true)
        (u : (w : Text) → IsTaken s (at_option s (codes "wait") (at h idle position)).held (awaiting (codes "wait"))
        position w)
        (waited : (w : Text) (saving : SaveMode)
        → IsKept (after_option s (codes "wait") w (at h idle position)) (Some w) saving) where
      behind-wait : (wait : Option Text) (saving : SaveMode) (n : ℕ) → IsPlain f → IsPlainIn wait
          → seconds_of wait ≡ Some n
          → Behind (name ∷ f ∷ begun ++ (option_arguments (codes "--wait") wait ++ saving_part saving))
          (with_options a (kept_options f saving n))
      behind-wait None saving n p r v =
          closed [] (at h idle position) None saving n p (none s (at h idle position)) (kept saving) v
      behind-wait (Some w) saving n p r v =
          closed (codes "--wait" ∷ w ∷ []) (after_option s (codes "wait") w (at h idle position)) (Some w) saving n p
          (option-steps s h idle position (codes "--wait") (codes "wait") w r e q (u w)) (waited w saving) v

      behind-kept : (how : OptionValues) (words : List Text) → IsKeptWritten (name ∷ f ∷ begun) f how words
          → Behind words (with_options a how)
      behind-kept how words (p, waits, w, i, k) =
          let o = wait-option waits how.wait w in
          let spelled = k ∙ ap (λ (ws : List Text). name ∷ f ∷ begun ++ (ws ++ saving_part how.saving)) o.spelled in
          subst (λ (r : OptionValues). Behind words (with_options a r)) (sym i)
          (subst (λ (ws : List Text). Behind ws (with_options a (kept_options f how.saving how.wait))) (sym spelled)
          (behind-wait o.argument how.saving how.wait (path-plain f p) o.plain o.value))

-- ---- commands of a file

-- a report of a file
behind-report : (f : Text) (what : Report) → IsPlain f
    → Behind (report_arguments what f) (plain_request f (tell f what))
unfolding clap_on_literals
behind-report f Figures p = behind-flags (codes "stat") (leaf (file_command (codes "stat"))) refl refl (λ ws. refl)
    (λ ws. refl) f [] [] _ (plainly f (tell f Figures)) _ _ p refl (none _ _) (refl, refl) refl refl
behind-report f Picture p = behind-flags (codes "draw") (leaf draw_command) refl refl (λ ws. refl) (λ ws. refl) f []
    [] _ (plainly f (tell f Picture)) _ _ p refl (none _ _) (refl, refl) refl refl
behind-report f Page p = behind-flags (codes "draw") (leaf draw_command) refl refl (λ ws. refl) (λ ws. refl) f []
    (codes "--html" ∷ []) _ (plainly f (tell f Page)) _ _ p refl (none _ _) (refl, refl) refl refl
behind-report f Dump p = behind-flags (codes "dump") (leaf dump_command) refl refl (λ ws. refl) (λ ws. refl) f []
    [] _ (plainly f (tell f Dump)) _ _ p refl (none _ _) (refl, refl) refl refl
behind-report f Capacities p = behind-flags (codes "dump") (leaf dump_command) refl refl (λ ws. refl) (λ ws. refl) f
    [] (codes "--capacities" ∷ []) _ (plainly f (tell f Capacities)) _ _ p refl (none _ _) (refl, refl) refl refl
behind-report f Json p = behind-flags (codes "dump") (leaf dump_command) refl refl (λ ws. refl) (λ ws. refl) f []
    (codes "--json" ∷ []) _ (plainly f (tell f Json)) _ _ p refl (none _ _) (refl, refl) refl refl

behind-salvage : (f : Text) → IsPlain f → Behind (codes "salvage" ∷ f ∷ []) (plain_request f (salvage f))
unfolding clap_on_literals
behind-salvage f p = behind-flags (codes "salvage") (leaf (file_command (codes "salvage"))) refl refl (λ ws. refl)
    (λ ws. refl) f [] [] _ (plainly f (salvage f)) _ _ p refl (none _ _) (refl, refl) refl refl

-- a check of one file, with its flags
check-flags : (f : Text) (explains quiet : Bool) (words : List Text) → IsPlain f
    → IsEnding (leaf check_command) (codes "check") (after_file (leaf check_command) f) words
    (Some (check f), Some (check_options f explains quiet))
    → Behind (codes "check" ∷ f ∷ words) (with_options (check f) (check_options f explains quiet))
unfolding clap_on_literals
check-flags f explains quiet words p h = behind-flags (codes "check") (leaf check_command) refl refl (λ ws. refl)
    (λ ws. refl) f [] words _ (Some (check f), Some (check_options f explains quiet)) _ _ p refl (none _ _) h refl refl

behind-check : (f : Text) (explains quiet : Bool) → IsPlain f
    → Behind (check_arguments f explains quiet) (with_options (check f) (check_options f explains quiet))
unfolding clap_on_literals
behind-check f false false p = check-flags f false false [] p (refl, refl)
behind-check f false true p = check-flags f false true (codes "--quiet" ∷ []) p (refl, refl)
behind-check f true false p = check-flags f true false (codes "--explain" ∷ []) p (refl, refl)
behind-check f true true p = check-flags f true true (codes "--explain" ∷ codes "--quiet" ∷ []) p (refl, refl)

behind-create : (f d : Text) (n : ℕ) → IsPlain f → number_of d ≡ Some n
    → Behind (codes "create" ∷ f ∷ d ∷ []) (plain_request f (create f n))
unfolding clap_on_literals
behind-create f d n p h =
    let s : Shape = leaf create_command in
    behind-file (codes "create") s refl refl (λ ws. refl) (λ ws. refl) f (d ∷ [])
    (plain_step s.rules (after_file s f) d) (option_map (create f) (number_of d), Some (plain_options (f ∷ []))) _ _ p
    refl
    (plain s (after_file s f).held idle 2 d (number-plain d n h) refl) refl (ap (option_map (create f)) h) refl

behind-value : (f k : Text) (index : Option Text) → IsPlain f → IsPlain k → IsTrue (is_index index)
    → Behind (codes "get" ∷ f ∷ k ∷ index_arguments index) (plain_request f (get f k index))
unfolding clap_on_literals
behind-value f k None p q h =
    let s : Shape = leaf get_command in
    behind-file (codes "get") s refl refl (λ ws. refl) (λ ws. refl) f (k ∷ []) (plain_step s.rules (after_file s f) k)
    (plainly f (get f k None)) _ _ p refl (plain s (after_file s f).held idle 2 k q refl) refl refl refl
behind-value f k (Some i) p q h =
    let s : Shape = leaf get_command in
    let at_key : Walk = plain_step s.rules (after_file s f) k in
    behind-file (codes "get") s refl refl (λ ws. refl) (λ ws. refl) f (k ∷ i ∷ []) (plain_step s.rules at_key i)
    (plainly f (get f k (Some i))) _ _ p refl
    (steps s (after_file s f) at_key (plain_step s.rules at_key i) (k ∷ []) (i ∷ [])
    (plain s (after_file s f).held idle 2 k q refl) (plain s at_key.held idle 3 i (path-plain i h) refl))
    refl refl refl

-- ---- commands that write a file

behind-grow : (f d : Text) (n : ℕ) (how : OptionValues) (words : List Text) → number_of d ≡ Some n
    → IsKeptWritten (codes "grow" ∷ f ∷ d ∷ []) f how words → Behind words (with_options (grow f n) how)
unfolding clap_on_literals
behind-grow f d n how words h =
    let s : Shape = leaf grow_command in
    behind-kept (codes "grow") s refl refl (λ ws. refl) (λ ws. refl) f (d ∷ [])
    (plain_step s.rules (after_file s f) d).held 3 (option_map (grow f) (number_of d)) (grow f n) refl
    (plain s (after_file s f).held idle 2 d (number-plain d n h) refl) (ap (option_map (grow f)) h)
    (either-saving _ (refl, refl) (refl, refl)) refl refl (λ w. refl)
    (λ w. either-saving _ (refl, refl) (refl, refl)) how words

behind-shrink : (f : Text) (how : OptionValues) (words : List Text)
    → IsKeptWritten (codes "shrink" ∷ f ∷ []) f how words → Behind words (with_options (shrink f) how)
unfolding clap_on_literals
behind-shrink f =
    let s : Shape = leaf (kept_command (codes "shrink")) in
    behind-kept (codes "shrink") s refl refl (λ ws. refl) (λ ws. refl) f [] (after_file s f).held 2 (Some (shrink f))
    (shrink f) refl (none s (after_file s f)) refl (either-saving _ (refl, refl) (refl, refl)) refl refl (λ w. refl)
    (λ w. either-saving _ (refl, refl) (refl, refl))

behind-migrate : (f : Text) (how : OptionValues) (words : List Text)
    → IsKeptWritten (codes "migrate" ∷ f ∷ []) f how words → Behind words (with_options (migrate f) how)
unfolding clap_on_literals
behind-migrate f =
    let s : Shape = leaf (kept_command (codes "migrate")) in
    behind-kept (codes "migrate") s refl refl (λ ws. refl) (λ ws. refl) f [] (after_file s f).held 2 (Some (migrate f))
    (migrate f) refl (none s (after_file s f)) refl (either-saving _ (refl, refl) (refl, refl)) refl refl (λ w. refl)
    (λ w. either-saving _ (refl, refl) (refl, refl))

behind-load : (f : Text) (size : Option ℕ) (how : OptionValues) (sizes words : List Text)
    → IsNumberPart (codes "--size") sizes size → IsKeptWritten (codes "load" ∷ f ∷ sizes) f how words
    → Behind words (with_options (load f size) how)
unfolding clap_on_literals
behind-load f None how sizes words e =
    let s : Shape = leaf load_command in
    rw e (behind-kept (codes "load") s refl refl (λ ws. refl) (λ ws. refl) f [] (after_file s f).held 2
    (Some (load f None)) (load f None) refl (none s (after_file s f)) refl (either-saving _ (refl, refl) (refl, refl))
    refl refl (λ w. refl) (λ w. either-saving _ (refl, refl) (refl, refl)) how words)
behind-load f (Some n) how sizes words (d, h, e) =
    let s : Shape = leaf load_command in
    rw e (behind-kept (codes "load") s refl refl (λ ws. refl) (λ ws. refl) f (codes "--size" ∷ d ∷ [])
    (with_option s f (codes "size") d).held 2 (option_map (load f) (size_of (Some d))) (load f (Some n)) refl
    (option-steps s (after_file s f).held idle 2 (codes "--size") (codes "size") d (number-plain d n h) refl refl refl)
    (ap (λ m. option_map (load f) (option_map Some m)) h) (either-saving _ (refl, refl) (refl, refl)) refl refl
    (λ w. refl) (λ w. either-saving _ (refl, refl) (refl, refl)) how words)

-- ---- names

-- what names are asked for, by their words
abbrev listed : Text → Option Text → Option Text → Asking
listed f prefix most = (option_map (names f (unwrap_or prefix [])) (size_of most), Some (plain_options (f ∷ [])))

-- the command `names`
abbrev names_leaf : Shape
names_leaf = leaf names_command

prefix-steps : (f t : Text) → IsPlain t
    → IsSteps names_leaf (after_file names_leaf f) (codes "--prefix" ∷ t ∷ [])
    (with_option names_leaf f (codes "prefix") t)
unfolding clap_on_literals
prefix-steps f t q = option-steps names_leaf (after_file names_leaf f).held idle 2 (codes "--prefix")
    (codes "prefix") t q refl refl refl

names-asked : (f : Text) (prefix most : Option Text) (a : InvocationValue) → IsPlain f → IsPlainIn prefix
    → IsPlainIn most → (listed f prefix most).0 ≡ Some a → Behind (codes "names" ∷ f ∷ option_arguments
    (codes "--prefix") prefix ++ option_arguments (codes "--most") most) (plain_request f a)
unfolding clap_on_literals
names-asked f None None a p q r h = behind-file (codes "names") names_leaf refl refl (λ ws. refl) (λ ws. refl) f []
    (after_file names_leaf f) (listed f None None) _ _ p refl (none _ _) refl h refl
names-asked f (Some t) None a p q r h = behind-file (codes "names") names_leaf refl refl (λ ws. refl) (λ ws. refl) f
    (codes "--prefix" ∷ t ∷ []) (with_option names_leaf f (codes "prefix") t) (listed f (Some t) None) _ _ p refl
    (prefix-steps f t q) refl h refl
names-asked f None (Some d) a p q r h = behind-file (codes "names") names_leaf refl refl (λ ws. refl) (λ ws. refl) f
    (codes "--most" ∷ d ∷ []) (with_option names_leaf f (codes "most") d) (listed f None (Some d)) _ _ p refl
    (option-steps names_leaf (after_file names_leaf f).held idle 2 (codes "--most") (codes "most") d r refl refl refl)
    refl h refl
names-asked f (Some t) (Some d) a p q r h =
    behind-file (codes "names") names_leaf refl refl (λ ws. refl) (λ ws. refl) f
    (codes "--prefix" ∷ t ∷ codes "--most" ∷ d ∷ [])
    (after_option names_leaf (codes "most") d (with_option names_leaf f (codes "prefix") t))
    (listed f (Some t) (Some d)) _ _ p refl (optioned names_leaf (after_file names_leaf f) (codes "--prefix" ∷ t ∷ [])
    (with_option names_leaf f (codes "prefix") t).held 2 (codes "--most") (codes "most") d r (prefix-steps f t q) refl
    refl refl) refl h refl

behind-names : (f : Text) (prefix : Text) (most : Option ℕ) (prefixes mosts : List Text) → IsPlain f
    → IsPart (codes "--prefix") prefixes prefix → IsNumberPart (codes "--most") mosts most
    → Behind (codes "names" ∷ f ∷ prefixes ++ mosts) (plain_request f (names f prefix most))
behind-names f prefix most prefixes mosts p a m =
    let o = prefix-option prefixes prefix a in
    let u = number-option (codes "--most") mosts most m in
    subst (λ (ws : List Text). Behind (codes "names" ∷ f ∷ ws) (plain_request f (names f prefix most)))
    (sym (ap₂ ◌++◌ o.spelled u.spelled))
    (names-asked f o.argument u.argument (names f prefix most) p o.plain u.plain
    (ap (option_map (names f (unwrap_or o.argument []))) u.value ∙ ap (option_map (λ (t : Text). names f t most))
    o.value))

-- ---- runs

-- a run that has the size that its mode wants
sized : (f : Text) (mode : Option ModeName) (size : Option Text) (m : ModeName) (n : Option ℕ) → mode ≡ Some m
    → size_of size ≡ Some n → lacks_size m n ≡ false → run_of f mode size ≡ Some (run f m n)
sized f mode size m n hm hn hl =
    ap (option_and_then (λ m. option_and_then (run_sized f m) (size_of size))) hm
    ∙ (ap (option_and_then (run_sized f m)) hn ∙ ap (λ b. if b then None else Some (run f m n)) hl)

-- the words of a run are understood, with all flags
module _ (f : Text) (words : List Text) (to : Walk) (a : SaveMode → Bool → Bool → Asking)
    (path : IsSteps run_leaf (after_file run_leaf f) words to)
    (each : (saving : SaveMode) (strict numbered : Bool)
    → IsEnding run_leaf (codes "run") to (flag_arguments saving strict numbered) (a saving strict numbered))
    (saving : SaveMode) (strict numbered : Bool) (i : InvocationValue) (o : OptionValues) (p : IsPlain f)
    (h : (a saving strict numbered).0 ≡ Some i) (g : (a saving strict numbered).1 ≡ Some o) where
  run-flags : Behind (codes "run" ∷ f ∷ words ++ flag_arguments saving strict numbered) (with_options i o)
  unfolding clap_on_literals
  run-flags = behind-flags (codes "run") run_leaf refl refl (λ ws. refl) (λ ws. refl) f words
      (flag_arguments saving strict numbered) to (a saving strict numbered) i o p refl path
      (each saving strict numbered) h g

-- `--mode M` and `--size N` right after the file, and both
abbrev at_mode : Text → Text → Walk
at_mode f m = with_option run_leaf f (codes "mode") m

abbrev at_size : Text → Text → Walk
at_size f d = with_option run_leaf f (codes "size") d

abbrev at_both : Text → Text → Text → Walk
at_both f m d = after_option run_leaf (codes "size") d (at_mode f m)

mode-steps : (f m : Text) → IsPlain m → IsSteps run_leaf (after_file run_leaf f) (codes "--mode" ∷ m ∷ []) (at_mode f m)
unfolding clap_on_literals
mode-steps f m q = option-steps run_leaf (after_file run_leaf f).held idle 2 (codes "--mode") (codes "mode") m q
    refl refl refl

size-steps : (f d : Text) → IsPlain d → IsSteps run_leaf (after_file run_leaf f) (codes "--size" ∷ d ∷ []) (at_size f d)
unfolding clap_on_literals
size-steps f d q = option-steps run_leaf (after_file run_leaf f).held idle 2 (codes "--size") (codes "size") d q
    refl refl refl

both-steps : (f m d : Text) → IsPlain m → IsPlain d
    → IsSteps run_leaf (after_file run_leaf f) (codes "--mode" ∷ m ∷ codes "--size" ∷ d ∷ []) (at_both f m d)
unfolding clap_on_literals
both-steps f m d q r = optioned run_leaf (after_file run_leaf f) (codes "--mode" ∷ m ∷ []) (at_mode f m).held 2
    (codes "--size") (codes "size") d r (mode-steps f m q) refl refl refl

-- a run of standard input, by its words
run-asked : (f : Text) (mode size wait : Option Text) (saving : SaveMode) (strict numbered : Bool)
    (i : InvocationValue) (o : OptionValues) → IsPlainIn mode → IsPlainIn size → IsPlainIn wait → IsPlain f
    → (said f mode size wait saving strict numbered).0 ≡ Some i
    → (said f mode size wait saving strict numbered).1 ≡ Some o
    → Behind (codes "run" ∷ f ∷ option_arguments (codes "--mode") mode ++ (option_arguments (codes "--size") size
    ++ (option_arguments (codes "--wait") wait ++ flag_arguments saving strict numbered))) (with_options i o)
unfolding clap_on_literals
run-asked f None None None v x n i o q r t = run-flags f []
    (after_file run_leaf f) (said f None None None)
    (none _ _)
    (all-flags _ (refl, refl) (refl, refl) (refl, refl) (refl, refl)
    (refl, refl) (refl, refl) (refl, refl) (refl, refl)) v x n i o
run-asked f (Some m) None None v x n i o q r t = run-flags f (codes "--mode" ∷ m ∷ [])
    (at_mode f m) (said f (Some m) None None)
    (mode-steps f m q)
    (all-flags _ (refl, refl) (refl, refl) (refl, refl) (refl, refl)
    (refl, refl) (refl, refl) (refl, refl) (refl, refl)) v x n i o
run-asked f None (Some d) None v x n i o q r t = run-flags f (codes "--size" ∷ d ∷ [])
    (at_size f d) (said f None (Some d) None)
    (size-steps f d r)
    (all-flags _ (refl, refl) (refl, refl) (refl, refl) (refl, refl)
    (refl, refl) (refl, refl) (refl, refl) (refl, refl)) v x n i o
run-asked f (Some m) (Some d) None v x n i o q r t = run-flags f (codes "--mode" ∷ m ∷ codes "--size" ∷ d ∷ [])
    (at_both f m d) (said f (Some m) (Some d) None)
    (both-steps f m d q r)
    (all-flags _ (refl, refl) (refl, refl) (refl, refl) (refl, refl)
    (refl, refl) (refl, refl) (refl, refl) (refl, refl)) v x n i o
run-asked f None None (Some w) v x n i o q r t = run-flags f (codes "--wait" ∷ w ∷ [])
    (after_option run_leaf (codes "wait") w (after_file run_leaf f)) (said f None None (Some w))
    (option-steps run_leaf (after_file run_leaf f).held idle 2 (codes "--wait") (codes "wait") w t refl refl
    refl)
    (all-flags _ (refl, refl) (refl, refl) (refl, refl) (refl, refl)
    (refl, refl) (refl, refl) (refl, refl) (refl, refl)) v x n i o
run-asked f (Some m) None (Some w) v x n i o q r t = run-flags f (codes "--mode" ∷ m ∷ codes "--wait" ∷ w ∷ [])
    (after_option run_leaf (codes "wait") w (at_mode f m)) (said f (Some m) None (Some w))
    (optioned run_leaf (after_file run_leaf f) (codes "--mode" ∷ m ∷ []) (at_mode f m).held 2 (codes "--wait")
    (codes "wait") w t (mode-steps f m q) refl refl refl)
    (all-flags _ (refl, refl) (refl, refl) (refl, refl) (refl, refl)
    (refl, refl) (refl, refl) (refl, refl) (refl, refl)) v x n i o
run-asked f None (Some d) (Some w) v x n i o q r t = run-flags f (codes "--size" ∷ d ∷ codes "--wait" ∷ w ∷ [])
    (after_option run_leaf (codes "wait") w (at_size f d)) (said f None (Some d) (Some w))
    (optioned run_leaf (after_file run_leaf f) (codes "--size" ∷ d ∷ []) (at_size f d).held 2 (codes "--wait")
    (codes "wait") w t (size-steps f d r) refl refl refl)
    (all-flags _ (refl, refl) (refl, refl) (refl, refl) (refl, refl)
    (refl, refl) (refl, refl) (refl, refl) (refl, refl)) v x n i o
run-asked f (Some m) (Some d) (Some w) v x n i o q r t = run-flags f
    (codes "--mode" ∷ m ∷ codes "--size" ∷ d ∷ codes "--wait" ∷ w ∷ [])
    (after_option run_leaf (codes "wait") w (at_both f m d)) (said f (Some m) (Some d) (Some w))
    (optioned run_leaf (after_file run_leaf f) (codes "--mode" ∷ m ∷ codes "--size" ∷ d ∷ []) (at_both f m d).held 2
    (codes "--wait") (codes "wait") w t (both-steps f m d q r) refl refl refl)
    (all-flags _ (refl, refl) (refl, refl) (refl, refl) (refl, refl)
    (refl, refl) (refl, refl) (refl, refl) (refl, refl)) v x n i o

behind-options : (f : Text) (modes sizes waits : List Text) (mode : ModeName) (size : Option ℕ) (wait : ℕ)
    (saving : SaveMode) (strict numbered : Bool) → IsPlain f
    → IsModePart modes mode → IsSizePart sizes mode size → IsWaitPart waits wait
    → Behind (codes "run" ∷ f ∷ modes ++ (sizes ++ (waits ++ flag_arguments saving strict numbered)))
    (with_options (run f mode size) (options_of_run f input saving wait strict numbered))
behind-options f modes sizes waits mode size wait v t n p m (s, l) w =
    let a = mode-option modes mode m in
    let o = number-option (codes "--size") sizes size s in
    let u = wait-option waits wait w in
    subst (λ (ws : List Text). Behind (codes "run" ∷ f ∷ ws)
    (with_options (run f mode size) (options_of_run f input v wait t n)))
    (sym (ap₂ ◌++◌ a.spelled (ap₂ ◌++◌ o.spelled (ap (λ (ws : List Text). ws ++ flag_arguments v t n) u.spelled))))
    (run-asked f a.argument o.argument u.argument v t n (run f mode size) (options_of_run f input v wait t n) a.plain
    o.plain u.plain p (sized f (mode_of false a.argument) o.argument mode size a.value o.value l)
    (ap (option_and_then (λ w. Some (options_of_run f input v w t n))) u.value))

-- a run of a script that the command line names or has
abbrev of_script : Text → Origin → RequestValue
of_script f origin = with_options (run f OpenOnly None) (options_of_run f origin InPlace 0 false false)

behind-origin : (f : Text) (words : List Text) (origin : Origin) → IsPlain f → IsOriginPart words origin
    → Behind (codes "run" ∷ f ∷ words) (of_script f origin)
unfolding clap_on_literals
behind-origin f words input p e =
    rw e (behind-options f [] [] [] OpenOnly None 0 InPlace false false p (inr (refl, refl)) (refl, refl) (
      None,
      refl,
      refl,
    ))
behind-origin f words (from_file path) p (t, e) =
    rw e (behind-file (codes "run") run_leaf refl refl (λ ws. refl) (λ ws. refl) f (path ∷ [])
    (plain_step run_leaf.rules (after_file run_leaf f) path) (said_with f (from_file path)) _ _ p refl
    (plain run_leaf (after_file run_leaf f).held idle 2 path (path-plain path t) refl) refl refl refl)
behind-origin f words (from_lines []) p h = absurd h
behind-origin f words (from_lines (l ∷ ls)) p (t, e) =
    let both = and_parts (is_path l) (list_all is_path ls) t in
    let more = lined f [] l ls (lines-plain ls both.1) in
    rw e (behind-file (codes "run") run_leaf refl refl (λ ws. refl) (λ ws. refl) f (line_arguments (l ∷ ls))
    (at_line f more.before more.final) (said_with f (from_lines (l ∷ ls))) _ _ p refl
    (steps run_leaf (after_file run_leaf f) (at_line f [] l) (at_line f more.before more.final) (codes "-c" ∷ l ∷ [])
    (line_arguments ls) (first-line f l (path-plain l both.0)) more.path)
    (lines-asked f more.before more.final ∙ ap (λ ls. (said_with f (from_lines ls), true)) more.all) refl refl)

behind-script : (f : Text) (mode : ModeName) (size : Option ℕ) (origin : Origin) (saving : SaveMode) (wait : ℕ)
    (strict numbered : Bool) (words origins : List Text) → IsPlain f → IsOriginPart origins origin
    → mode ≡ OpenOnly → size ≡ None → saving ≡ InPlace → wait ≡ 0 → strict ≡ false → numbered ≡ false
    → words ≡ codes "run" ∷ f ∷ origins
    → Behind words (with_options (run f mode size) (options_of_run f origin saving wait strict numbered))
behind-script f mode size origin saving wait strict numbered words origins p o m z s w t n e =
    rw (e, m, z, s, w, t, n) (behind-origin f origins origin p o)

behind-written : (f : Text) (mode : ModeName) (size : Option ℕ) (origin : Origin) (saving : SaveMode) (wait : ℕ)
    (strict numbered : Bool) (words : List Text) → IsPlain f
    → IsRunWritten f mode size origin saving wait strict numbered words
    → Behind words (with_options (run f mode size) (options_of_run f origin saving wait strict numbered))
behind-written f mode size input saving wait strict numbered words p (modes, sizes, waits, m, s, w, e) =
    rw e (behind-options f modes sizes waits mode size wait saving strict numbered p m s w)
behind-written f mode size (from_file path) saving wait strict numbered words p (origins, o, m, z, s, w, t, n, e) =
    behind-script f mode size (from_file path) saving wait strict numbered words origins p o m z s w t n e
behind-written f mode size (from_lines ls) saving wait strict numbered words p (origins, o, m, z, s, w, t, n, e) =
    behind-script f mode size (from_lines ls) saving wait strict numbered words origins p o m z s w t n e

-- words that have no command
pub record IsVersion (words : List Text) (r : RequestValue) : Type 0 where
  pub is : r ≡ of_version
  pub fault : built_fault (built command_line) nothing_held words ≡ DisplayVersion ∷ []

asks-version : IsVersion (codes "--version" ∷ []) of_version
unfolding clap_on_literals
asks-version = record { is = refl; fault = refl }

behind : (words : List Text) (a : InvocationValue) (how : OptionValues) → IsWrittenWith a how words
    → Behind words (with_options a how) ⊎ IsVersion words (with_options a how)
behind words (create f n) how (p, o, d, h, e) = inl (rw (e, o) (behind-create f d n (path-plain f p) h))
behind words (run f mode size) how (p, o, r) =
    inl (subst (λ (q : OptionValues). Behind words (with_options (run f mode size) q)) (sym o)
    (behind-written f mode size how.origin how.saving how.wait how.strict how.numbered words (path-plain f p) r))
behind words (check f) how (p, o, e) =
    inl (subst (λ (q : OptionValues). Behind words (with_options (check f) q)) (sym o)
    (rw e (behind-check f how.explains how.quiet (path-plain f p))))
behind words (grow f n) how (d, h, k) = inl (behind-grow f d n how words h k)
behind words (shrink f) how k = inl (behind-shrink f how words k)
behind words (migrate f) how k = inl (behind-migrate f how words k)
behind words (tell f what) how (p, o, e) = inl (rw (e, o) (behind-report f what (path-plain f p)))
behind words (names f prefix most) how (p, o, prefixes, mosts, a, m, e) =
    inl (rw (e, o) (behind-names f prefix most prefixes mosts (path-plain f p) a m))
behind words (get f k index) how (p, q, r, o, e) =
    inl (rw (e, o) (behind-value f k index (path-plain f p) (path-plain k q) r))
behind words (load f size) how (sizes, s, k) = inl (behind-load f size how sizes words s k)
behind words (salvage f) how (p, o, e) = inl (rw (e, o) (behind-salvage f (path-plain f p)))
behind words lint how (o, e) = inl (rw (e, o) behind-lint)
behind words language how (o, e) = inl (rw (e, o) behind-language)
behind words version how (o, e) = inr (rw (e, o) asks-version)

-- the command is simple, takes the words, and they ask for this
pub record IsUnderstood (words : List Text) (r : RequestValue) : Type 0 where
  pub takes : takes command_line words ≡ true
  pub asks : requested_of (subcommand_of command_line words) ≡ Some r

-- the words want the version to be shown
pub record WantsVersion (words : List Text) (r : RequestValue) : Type 0 where
  pub is : r ≡ of_version
  pub fault : fault_of command_line words ≡ DisplayVersion ∷ []

-- no two words of the program's command are one
pub free : is_simple_and_free command_line ≡ true
unfolding clap_on_literals
free = refl

-- the program's command is simple
pub simple : is_simple command_line ≡ true
unfolding clap_on_literals
simple = refl

-- a command line that is written is understood, or asks for the version
pub understood : (words : List Text) (r : RequestValue) → IsRequestWritten r (drop 1 words)
    → IsUnderstood words r ⊎ WantsVersion words r
understood words r w = elim (behind (drop 1 words) r.command r.options w) [
  | inl b ↦ inl (record { takes = ap₂ ◌&&◌ simple b.takes; asks = b.asks })
  | inr v ↦ inr (record { is = v.is; fault = v.fault })
]
