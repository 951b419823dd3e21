-- The first word is taken, and the others are left.
use Rattle.std.proofs.Common.{◌∙◌, ap, ◌||◌}
use Rattle.clap.specs.Simple.{app_of, with_rule}
use Rattle.segment_invocation.specs.Table.{argument_rule}
use Rattle.segment_invocation.proofs.command_lines.Turns.{first_taken}
use Rattle.segment_invocation.proofs.command_line.with_arguments.Goals as goal

pub words-preserved : goal.words-preserved
words-preserved c = record {
  same = first_taken with_rule argument_rule _ c.words.rest.now c.in-len1-up.len_at_least
      (c.in_ok-command.ensures.shape c.arg_of.ensures.local
      ∙ ap (with_rule (app_of c.words.command)) c.arg_of.ensures.rule)
      ∙ c.words.invariant.same;
  local = c.in_ok-command.ensures.globals ∙ ap (λ b. b || c.arg_of.result.global) c.words.invariant.local
      ∙ c.arg_of.ensures.local;
}
