-- Each setting of the program's command changes only its own field.
use Rattle.std.proofs.Common.{◌≡◌, ap, true, ◌∙◌, Some, ℕ, List}
use denote.Ref.{Bor}
use Rattle.clap.specs.Simple.{App, app_of_fields, on_top}
use Rattle.clap.specs.declared.builder.command.Command.{Command}
use Rattle.clap.specs.declared.builder.command.Command.TheOpen.{Command-F}

-- the version of the command is set
pub version_told : (old new : Command-F Command) (a : App) (text : Bor (List ℕ)) → app_of_fields old ≡ a
    → new ≡ record old { version = Some text }
    → app_of_fields new ≡ on_top (λ s. record s { has_version = true }) a
version_told old new a text h e = ap app_of_fields e ∙ ap (on_top (λ s. record s { has_version = true })) h

module _ (old new : Command-F Command) (a : App) (h : app_of_fields old ≡ a) where
  -- a subcommand is required
  pub subcommand_wanted : new ≡ record old { subcommand_required = true }
      → app_of_fields new ≡ on_top (λ s. record s { subcommand_required = true }) a
  subcommand_wanted e = ap app_of_fields e ∙ ap (on_top (λ s. record s { subcommand_required = true })) h

  -- help is shown if no argument is given
  pub help_wanted : new ≡ record old { arg_required_else_help = true }
      → app_of_fields new ≡ on_top (λ s. record s { arg_required_else_help = true }) a
  help_wanted e = ap app_of_fields e ∙ ap (on_top (λ s. record s { arg_required_else_help = true })) h
