-- The command of the first row goes after the commands before it, and the other rows are left.
use Rattle.std.proofs.Common.{ap, ◌∙◌}
use Rattle.clap.specs.Simple.{app_of, with_subcommand}
use Rattle.segment_invocation.specs.Table.{row_shape}
use Rattle.segment_invocation.proofs.command_lines.Turns.{first_taken}
use Rattle.segment_invocation.proofs.command_line.with_commands.Goals as goal

pub commands-preserved : goal.commands-preserved
commands-preserved c = record {
  same = first_taken with_subcommand row_shape _ c.commands.rest.now c.in-len1-up.len_at_least
      (c.in_ok-program.ensures.shape c.in_ok-command_of.ensures.local
      ∙ ap (with_subcommand (app_of c.commands.program)) c.in_ok-command_of.ensures.app)
      ∙ c.commands.invariant.same;
}
