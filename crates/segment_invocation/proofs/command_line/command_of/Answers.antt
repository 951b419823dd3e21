-- A command begins without words, and gets those of its row.
use Rattle.std.proofs.Common.{ap, fold, map, ◌∙◌}
use Rattle.std.proofs.lemmas.Result.{IfOk-weaker}
use Rattle.clap.specs.Simple.{App, with_rule}
use Rattle.segment_invocation.specs.Table.{argument_rule}
use Rattle.segment_invocation.proofs.command_line.command_of.Goals as goal

pub returns-clause-app : goal.returns-clause-app
returns-clause-app c =
    let begun = ap (λ (a : App). (fold with_rule a (map argument_rule c.args.row.now.3.now)).top)
    c.bare_command.ensures.app in
    IfOk-weaker c.with_arguments.result _ _ (λ r h. ap (λ (a : App). a.top) h ∙ begun) c.with_arguments.ensures.app
