use Rattle.std.proofs.Common.{◌≡◌, false, fold, length, map}
use Rattle.clap.specs.Simple.{app_of, with_rule}
use Rattle.clap.specs.declared.builder.command.Command.TheViews.{out-Command}
use Rattle.segment_invocation.specs.Table.{argument_rule}
use Rattle.segment_invocation.proofs.command_line.with_arguments.Given as goal

abbrev pub invariant-words : goal.invariant-words
invariant-words l = record {
  same : fold with_rule (app_of l.command) (map argument_rule l.rest)
      ≡ fold with_rule (app_of l.initial.command) (map argument_rule l.words);
  local : (out-Command l.command).has_globals ≡ false;
}

abbrev pub decreases-words : goal.decreases-words
decreases-words l = length l.rest
