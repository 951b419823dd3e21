-- What is asked for by the name of a command, and what values and numbers its words have.
use Rattle.std.proofs.Common.{◌≡◌, ◌∙◌, ◌++◌, ap, map, true, false, List, [], Option, Some, None, codes, refl, ℕ}
use Rattle.std.specs.Prelude.{option_and_then, option_map, unwrap_or}
use Rattle.std.specs.Str.{bytes_eq}
use Rattle.std.proofs.lemmas.Slice.Eq.{bytes_eq-Decides}
use denote.Ref.{Bor}
use Rattle.clap.specs.Matches.{matched_of, raw_values}
use Rattle.clap.specs.Walk.{Row, Text, first_of, rows_of}
use Rattle.clap.specs.declared.parser.matches.Found.{Found}
use Rattle.clap.proofs.WalkLemmas.{raw_values-rows}
use Rattle.segment_lang.specs.Lexing.{number_of}
use Rattle.segment_invocation.specs.Invocations.{asked_as, asked_in, command_called, language, lint, list_of, size_of}

module _ (name : Text) (rows : List Row) where
  -- the name of `lint` asks for a lint
  pub lint_asked : bytes_eq name (codes "lint") ≡ true → asked_in name rows ≡ Some lint
  lint_asked e = ap (λ n. asked_in n rows) ((bytes_eq-Decides name (codes "lint")).0 e)

  -- the name of `language` asks for the language
  pub language_asked : bytes_eq name (codes "language") ≡ true → asked_in name rows ≡ Some language
  language_asked e = ap (λ n. asked_in n rows) ((bytes_eq-Decides name (codes "language")).0 e)

  module _ (l : bytes_eq name (codes "lint") ≡ false) (h : bytes_eq name (codes "language") ≡ false) where
    -- every other command wants a file
    pub without_file : first_of (codes "file") rows ≡ None → asked_in name rows ≡ None
    without_file e = rw (l, h, e) refl

    -- with a file it asks for what its name says
    pub of_file : (file : Text) → first_of (codes "file") rows ≡ Some file
        → asked_in name rows ≡ asked_as (command_called name) file rows
    of_file file e = rw (l, h, e) refl

-- ---- the values of a word that may stand there more than once

module _ (f : Found) (id : Text) where
  -- the values of an argument are all of those given
  pub all_listed : (old new values : List (Bor Text)) → old ≡ [] → new ≡ old ++ values
      → Some (map (λ s. s.now) values) ≡ option_map raw_values (matched_of f id)
      → map (λ s. s.now) new ≡ list_of id (rows_of f)
  all_listed old new values o n e = ap (map (λ (s : Bor Text). s.now)) (n ∙ ap (λ l. l ++ values) o)
      ∙ ap (λ l. unwrap_or l []) (e ∙ raw_values-rows f id)

  -- no value of an argument was given
  pub none_listed : (old : List (Bor Text)) → old ≡ [] → None ≡ option_map raw_values (matched_of f id)
      → map (λ s. s.now) old ≡ list_of id (rows_of f)
  none_listed old o e = ap (map (λ (s : Bor Text). s.now)) o ∙ ap (λ l. unwrap_or l []) (e ∙ raw_values-rows f id)

-- ---- a number that must be there

some_of : (o : Option ℕ) (n : ℕ) → option_map Some o ≡ Some (Some n) → o ≡ Some n
some_of None n h = cc
some_of (Some m) n h = cc

none_of : (o : Option ℕ) → option_map Some o ≡ None → o ≡ None
none_of None h = refl
none_of (Some m) h = cc

not_none : (o : Option ℕ) → option_map Some o ≡ Some None → ⊥
not_none None h = cc
not_none (Some m) h = cc

-- a number that was given is read
pub number_read : (argument : Option Text) (n : ℕ) → size_of argument ≡ Some (Some n) → option_and_then number_of
    argument ≡ Some n
number_read None n h = cc
number_read (Some w) n h = some_of (number_of w) n h

-- no number was given: none is read
pub no_number_read : (argument : Option Text) → size_of argument ≡ Some None → option_and_then number_of argument ≡ None
no_number_read None h = refl
no_number_read (Some w) h = absurd (not_none (number_of w) h)

-- a word that is no number is not read
pub number_unread : (argument : Option Text) → size_of argument ≡ None → option_and_then number_of argument ≡ None
number_unread None h = cc
number_unread (Some w) h = none_of (number_of w) h
