use Rattle.std.proofs.Common.{◌≡◌, fold, length, map}
use Rattle.clap.specs.Simple.{app_of, with_subcommand}
use Rattle.segment_invocation.specs.Table.{row_shape}
use Rattle.segment_invocation.proofs.command_line.with_commands.Given as goal

abbrev pub invariant-commands : goal.invariant-commands
invariant-commands l = record {
  same : fold with_subcommand (app_of l.program) (map row_shape l.rest)
      ≡ fold with_subcommand (app_of l.initial.program) (map row_shape l.rows);
}

abbrev pub decreases-commands : goal.decreases-commands
decreases-commands l = length l.rest
