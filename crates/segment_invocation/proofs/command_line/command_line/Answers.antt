-- The table has the commands that the program takes.
use Rattle.std.proofs.Common.{ap, fold, ◌∙◌}
use Rattle.std.proofs.lemmas.Result.{IfOk-weaker}
use Rattle.clap.specs.Simple.{App, with_subcommand}
use Rattle.segment_invocation.specs.Invocations.{subcommands}
use Rattle.segment_invocation.proofs.command_line.command_line.Goals as goal

pub returns : goal.returns
returns c =
    let told = ap (λ (a : App). fold with_subcommand a subcommands) c.program.ensures in
    IfOk-weaker c.with_commands.result _ _ (λ r h. h ∙ told) c.with_commands.ensures
