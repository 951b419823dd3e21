-- What a parse makes of a word that does not begin with a hyphen, in a command without subcommands.
use Rattle.std.proofs.Common.{◌≡◌, refl, ap, ap₂, ℕ, true, false, ◌&&◌, List, [], ◌∷◌, None, ◌==◌}
use Rattle.std.specs.Str.{bytes_eq}
use Rattle.clap.specs.Lexer.{long_of, short_of, strip_byte}
use Rattle.clap.specs.Walk.{Held, Rule, Step, Text, Waiting, Walk, after_step, plain_word, walked, word_met, idle}
use Rattle.clap.specs.Walk.{option, positional}
use Rattle.clap.specs.Simple.{Shape}
use Rattle.clap.specs.Takes.{step_passes, turn_passes, word_passes}

-- the word is no option
abbrev pub IsPlain : Text → Type 0
IsPlain argument = (x : ℕ) × (xs : Text) × (argument ≡ x ∷ xs) × ((x == 45) ≡ false)

-- it is a value of the option that waits, or goes to its place
abbrev pub plain_step : List Rule → Walk → Text → Walk
plain_step c w argument = let met = plain_word c w.waiting argument w.held in after_step c argument w met.0 met.1

no-dashes : (x : ℕ) (xs : Text) → (x == 45) ≡ false → bytes_eq (x ∷ xs) (45 ∷ 45 ∷ []) ≡ false
no-dashes x xs e = rw e refl

no-minus : (x : ℕ) (xs : Text) → (x == 45) ≡ false → strip_byte 45 (x ∷ xs) ≡ None
no-minus x xs e = rw e refl

no-long : (x : ℕ) (xs : Text) → (x == 45) ≡ false → long_of (x ∷ xs) ≡ None
no-long x xs e = rw (no-minus x xs e) refl

no-short : (x : ℕ) (xs : Text) → (x == 45) ≡ false → short_of (x ∷ xs) ≡ None
no-short x xs e = rw (no-minus x xs e) refl

met-plain : (c : List Rule) (waiting : Waiting) (position x : ℕ) (xs : Text) (h : Held) → (x == 45) ≡ false
    → word_met c [] false waiting position (x ∷ xs) h ≡ plain_word c waiting (x ∷ xs) h
met-plain c idle position x xs h e = rw (no-dashes x xs e, no-long x xs e, no-short x xs e) refl
met-plain c (option id) position x xs h e = rw (no-dashes x xs e, no-long x xs e, no-short x xs e) refl
met-plain c positional position x xs h e = rw (no-dashes x xs e, no-long x xs e, no-short x xs e) refl

-- a word that does not begin with a hyphen is walked as one
pub walked-plain : (c : List Rule) (h : Held) (waiting : Waiting) (position : ℕ) (argument : Text) → IsPlain argument
    → walked c [] (record { held = h; waiting = waiting; position = position; is_trailing = false; stopped = None })
    argument
    ≡ plain_step c (record {
      held = h;
      waiting = waiting;
      position = position;
      is_trailing = false;
      stopped = None;
    }) argument
unfolding walked
walked-plain c h waiting position argument (x, xs, is, e) =
    rw is (ap (λ met. after_step c (x ∷ xs) (record {
      held = h;
      waiting = waiting;
      position = position;
      is_trailing = false;
      stopped = None;
    }) met.0 met.1) (met-plain c waiting position x xs h e))

passes-plain : (s : Shape) (waiting : Waiting) (x : ℕ) (xs : Text) (h : Held) → (x == 45) ≡ false
    → word_passes s [] false waiting (x ∷ xs) h ≡ true
passes-plain s idle x xs h e = rw (no-dashes x xs e, no-long x xs e, no-short x xs e) refl
passes-plain s (option id) x xs h e = rw (no-dashes x xs e, no-long x xs e, no-short x xs e) refl
passes-plain s positional x xs h e = rw (no-dashes x xs e, no-long x xs e, no-short x xs e) refl

-- it passes where the step does
pub turn-plain : (s : Shape) (h : Held) (waiting : Waiting) (position : ℕ) (argument : Text) → IsPlain argument
    → turn_passes s [] (record {
      held = h;
      waiting = waiting;
      position = position;
      is_trailing = false;
      stopped = None;
    }) argument
    ≡ (let met = plain_word s.rules waiting argument h in step_passes s position met.0 met.1)
turn-plain s h waiting position argument (x, xs, is, e) =
    rw is (ap₂ (λ a (met : Held × Step). a && step_passes s position met.0 met.1) (passes-plain s waiting x xs h e)
    (met-plain s.rules waiting position x xs h e))
