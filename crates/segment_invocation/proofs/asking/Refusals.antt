-- What is asked for by words of which a parse made matches, and by words of which it made an error.
use Rattle.std.proofs.Common.{◌≡◌, refl, sym, ap, ap₂, subst, ◌∙◌, List, [], ◌∷◌, Option, Some, None, Ok, Err, true}
use Rattle.std.proofs.Common.{inl, inr}
use Rattle.std.specs.Prelude.{◌⊎◌, Box, Result, IfOk, MatchResult, option_map}
use Rattle.std.specs.Box.{box_value}
use Rattle.std.proofs.lemmas.Option.{none-some, same_Some}
use Rattle.std.proofs.lemmas.Result.{IfOk-weaker}
use Rattle.clap.specs.Walk.{Row, Text}
use Rattle.clap.specs.Values.{kind_of}
use Rattle.clap.specs.Kinds.{HasKind, IsAmong, Kinds}
use Rattle.clap.specs.Simple.{App, HasMatchesOf, app_of, is_simple, subcommand_of, subcommand_rows}
use Rattle.clap.specs.Matches.{subcommand_name_of}
use Rattle.clap.specs.declared.parser.matches.ArgMatches.{ArgMatches}
use Rattle.clap.specs.declared.parser.matches.ArgMatches.TheViews.{out-ArgMatches, out-SubCommand}
use Rattle.clap.specs.declared.parser.matches.SubCommand.{SubCommand}
use Rattle.clap.specs.Faults.{fault_of, is_simple_and_free}
use Rattle.clap.specs.Takes.{takes}
use Rattle.clap.specs.declared.builder.command.Command.{Command}
use Rattle.clap.specs.declared.error.Error.{Error}
use Rattle.clap.specs.declared.error.kind.ErrorKind.{ErrorKind}
use Rattle.clap.specs.declared.error.kind.ErrorKind.TheVariants.{DisplayVersion, OutOfMemory as NoMemory}
use Rattle.segment_invocation.specs.Invocations.{IsRequestedBy, IsWrongBy, RequestValue, command_line, of_version}
use Rattle.segment_invocation.specs.Invocations.{request_by, requested_in, requested_of, wrong_by, wrong_of}
use Rattle.segment_invocation.specs.declared.invocations.Request.{Request}
use Rattle.segment_invocation.specs.declared.usage.InvocationFault.{InvocationFault}
use Rattle.segment_invocation.specs.declared.usage.UsageError.{UsageError}
use Rattle.segment_invocation.specs.declared.usage.UsageError.TheVariants.{Arguments, Command as NoCommand, File}
use Rattle.segment_invocation.specs.declared.usage.UsageError.TheVariants.{Number, Key, Mode, Modes, Size, Script}
use Rattle.segment_invocation.specs.declared.usage.UsageError.TheVariants.{Files, Capacities, Commit}
use Rattle.segment_invocation.specs.declared.usage.InvocationFault.TheVariants.{OutOfMemory, Usage}
use Rattle.segment_invocation.proofs.command_lines.AllUnderstood.{IsUnderstood, WantsVersion, free, simple as plain}

no-memory : DisplayVersion ≡ NoMemory → ⊥
no-memory e = cc

no-kinds : (k : ErrorKind) → ◌≡◌ {A = Kinds} (k ∷ []) [] → ⊥
no-kinds k e = cc

shown : (kinds : Kinds) (other : Error) → kind_of other ≡ DisplayVersion → HasKind kinds other
    → IsAmong DisplayVersion kinds
shown kinds other e (inl m) = absurd (no-memory (sym e ∙ m))
shown kinds other e (inr a) = subst (λ k. IsAmong k kinds) e a

entered_rows : {Z : Type 0} (o : Option (Box SubCommand Z)) (name : Text) (rows : List Row)
    → option_map (λ b. (out-SubCommand (box_value b)).name.now) o ≡ Some name
    → option_map (λ p. p.1) (subcommand_rows o) ≡ Some rows → subcommand_rows o ≡ Some (name, rows)
entered_rows None name rows n r = cc
entered_rows (Some b) name rows n r = ap₂ (λ x y. Some (x, y)) (same_Some _ _ n) (same_Some _ _ r)

as_version : (a : RequestValue) (result : Result Request InvocationFault) → a ≡ of_version
    → MatchResult result (λ r. request_by r ≡ of_version) (λ e. ⊥)
    → MatchResult result (λ r. request_by r ≡ a) (λ e. e ≡ OutOfMemory)
as_version a (Ok r) is h = h ∙ sym is
as_version a (Err e) is h = absurd h

among : (kinds : Kinds) (other : Error) → HasKind kinds other → (kind_of other ≡ NoMemory → ⊥)
    → IsAmong (kind_of other) kinds
among kinds other (inl m) n = absurd (n m)
among kinds other (inr a) n = a

module _ (words : List Text) (command : Command) (is : app_of command ≡ command_line) where
  same-faults : fault_of (app_of command) words ≡ fault_of command_line words
  same-faults = ap (λ (x : App). fault_of x words) is

  simple : is_simple_and_free (app_of command) ≡ true
  simple = ap is_simple_and_free is ∙ free

  -- a parse that failed is a fault of the words
  pub unread_read : (other : Error)
      → (is_simple_and_free (app_of command) ≡ true → HasKind (fault_of (app_of command) words) other)
      → (result : Result Request InvocationFault)
      → IfOk result (λ r. (request_by r ≡ of_version) × (kind_of other ≡ DisplayVersion))
      → IfOk result (λ r. IsRequestedBy words (request_by r))
  unread_read other kinds result only =
      IfOk-weaker result _ _ (λ r h.
      inr (h.0, subst (IsAmong DisplayVersion) same-faults (shown _ other h.1 (kinds simple)))) only

  module _ (a : RequestValue) (other : Error) (result : Result Request InvocationFault) (memory : kind_of other
      ≡ NoMemory → result ≡ Err OutOfMemory) (version : kind_of other ≡ DisplayVersion
      → MatchResult result (λ r. request_by r ≡ of_version) (λ e. ⊥)) where
    refused : kind_of other ≡ NoMemory → MatchResult result (λ r. request_by r ≡ a) (λ e. e ≡ OutOfMemory)
    refused m = rw (memory m) refl

    told : WantsVersion words a → HasKind (DisplayVersion ∷ []) other
        → MatchResult result (λ r. request_by r ≡ a) (λ e. e ≡ OutOfMemory)
    told v (inl m) = refused m
    told v (inr (inl e)) = as_version a result v.is (version e)
    told v (inr (inr x)) = absurd x

    -- a command line that is understood fails for memory alone
    pub unread_given : IsUnderstood words a ⊎ WantsVersion words a
        → (takes (app_of command) words ≡ true → kind_of other ≡ NoMemory)
        → (is_simple_and_free (app_of command) ≡ true → HasKind (fault_of (app_of command) words) other)
        → MatchResult result (λ r. request_by r ≡ a) (λ e. e ≡ OutOfMemory)
    unread_given (inl u) passes kinds = refused (passes (ap (λ (x : App). takes x words) is ∙ u.takes))
    unread_given (inr v) passes kinds = told v (subst (λ k. HasKind k other) (same-faults ∙ v.fault) (kinds simple))

  -- a command line that is understood has no fault
  pub read_given : (a : RequestValue) → IsUnderstood words a ⊎ WantsVersion words a
      → (is_simple_and_free (app_of command) ≡ true → fault_of (app_of command) words ≡ [])
      → requested_of (subcommand_of command_line words) ≡ Some a
  read_given a (inl u) kinds = u.asks
  read_given a (inr v) kinds = absurd (no-kinds DisplayVersion (sym v.fault ∙ (sym same-faults ∙ kinds simple)))

  -- the program's command has the faults of its parser
  pub faultless : (is_simple_and_free (app_of command) ≡ true → fault_of (app_of command) words ≡ [])
      → fault_of command_line words ≡ []
  faultless kinds = sym same-faults ∙ kinds simple

  -- the subcommand that was parsed is the program's
  pub enters : (m : ArgMatches) → HasMatchesOf (app_of command) words m → (name : Text) (rows : List Row)
      → Some name ≡ subcommand_name_of m
      → Some rows ≡ option_map (λ p. p.1) (subcommand_rows (out-ArgMatches m).subcommand)
      → subcommand_of command_line words ≡ Some (name, rows)
  enters m matches name rows n r =
      let entered = (matches (ap is_simple is ∙ plain)).1 in
      sym (ap (λ (x : App). subcommand_of x words) is)
      ∙ (sym entered ∙ entered_rows (out-ArgMatches m).subcommand name rows (sym n) (sym r))

  -- the rows that were parsed ask for a command
  pub asks : (m : ArgMatches) → HasMatchesOf (app_of command) words m → (name : Text) (rows : List Row)
      → Some name ≡ subcommand_name_of m
      → Some rows ≡ option_map (λ p. p.1) (subcommand_rows (out-ArgMatches m).subcommand)
      → requested_of (subcommand_of command_line words) ≡ requested_in name rows
  asks m matches name rows n r = ap requested_of (enters m matches name rows n r)

  -- what is wrong with words of which a parse made an error
  pub unread_wrong : (other : Error)
      → (is_simple_and_free (app_of command) ≡ true → HasKind (fault_of (app_of command) words) other)
      → (w : UsageError) → (w ≡ Arguments other) × (kind_of other ≡ NoMemory → ⊥) → IsWrongBy words w
  unread_wrong other kinds w h =
      subst (IsWrongBy words) (sym h.0)
      (subst (IsAmong (kind_of other)) same-faults (among (fault_of (app_of command) words) other (kinds simple) h.1))

-- what is wrong with words of which a parse made matches
wrong_if : (words : List Text) → fault_of command_line words ≡ []
    → requested_of (subcommand_of command_line words) ≡ None
    → (w : UsageError) → wrong_by w ≡ Some (wrong_of (subcommand_of command_line words)) → IsWrongBy words w
wrong_if words f n (Arguments misread) e = absurd (none-some _ e)
wrong_if words f n NoCommand e = (f, n, e)
wrong_if words f n File e = (f, n, e)
wrong_if words f n Number e = (f, n, e)
wrong_if words f n (Mode nearest) e = (f, n, e)
wrong_if words f n Modes e = (f, n, e)
wrong_if words f n Size e = (f, n, e)
wrong_if words f n Script e = (f, n, e)
wrong_if words f n Files e = (f, n, e)
wrong_if words f n Key e = (f, n, e)
wrong_if words f n Capacities e = (f, n, e)
wrong_if words f n Commit e = (f, n, e)

-- a command line without a fault has a subcommand
pub read_wrong : (words : List Text) → fault_of command_line words ≡ [] → (found : Option (Text × List Row))
    → subcommand_of command_line words ≡ found → requested_of found ≡ None
    → (w : UsageError) → wrong_by w ≡ Some (wrong_of found) → IsWrongBy words w
read_wrong words f found is n w e = wrong_if words f (ap requested_of is ∙ n) w (e
    ∙ ap (λ x. Some (wrong_of x)) (sym is))

-- two faults of usage are one
pub usage_same : (told w : UsageError) (fault : InvocationFault) → fault ≡ Usage told → ◌≡◌ {A = Result Request
    InvocationFault} (Err fault) (Err (Usage w)) → told ≡ w
usage_same told w fault f e = cc

-- words that ask for something are read as that, or memory is refused
pub found_given : (a : RequestValue) (result : Result Request InvocationFault) (asked : Option RequestValue)
    → IfOk result (λ r. asked ≡ Some (request_by r)) → ((w : UsageError) → result ≡ Err (Usage w) → asked ≡ None)
    → asked ≡ Some a → MatchResult result (λ r. request_by r ≡ a) (λ e. e ≡ OutOfMemory)
found_given a (Ok r) asked h n given = same_Some _ _ (sym h ∙ given)
found_given a (Err OutOfMemory) asked h n given = refl
found_given a (Err (Usage w)) asked h n given = absurd (none-some a (sym (n w refl) ∙ given))
