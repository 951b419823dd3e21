-- Each setting changes its own field.
use Rattle.clap.specs.declared.builder.command.Command.TheViews.{out-Command}
use Rattle.segment_invocation.proofs.command_lines.Settings.{help_wanted, subcommand_wanted, version_told}
use Rattle.segment_invocation.proofs.command_line.program.Goals as goal

pub returns : goal.returns
returns c =
    let begun = out-Command c.bare_command.result in
    let told = out-Command c.version.result in
    let wanting = out-Command c.subcommand_required.result in
    let one = version_told begun told _ _ c.bare_command.ensures.app c.version.ensures in
    let two = subcommand_wanted told wanting _ one c.subcommand_required.ensures in
    help_wanted wanting (out-Command c.arg_required_else_help.result) _ two c.arg_required_else_help.ensures
