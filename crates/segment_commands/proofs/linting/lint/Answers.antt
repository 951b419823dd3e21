use Rattle.std.proofs.Common.{◌≡◌, ap₂, is_ok, rules, ◌∙◌}
use Rattle.segment_scripts.specs.Linting.{start}
use Rattle.segment_commands.specs.Linting.{answer_of}
use Rattle.segment_commands.proofs.linting.Ends.{linted}
use Rattle.segment_commands.proofs.linting.lint.Goals as goal

pub returns-clause-effect : goal.returns-clause-effect
returns-clause-effect g c =
    let Script = g.S.Source in
    let Answers = g.O.Sink in
    let end = c.run_followed-answered.new.machine in
    let ran = c.run_followed-answered.result in
    let went_out : c.is_ok-went_out.result ≡ is_ok c.flush-flushed.result = search rules in
    linted c.args.rows.now end.rows.now (Script.history c.args.script.now)
    (Script.history c.run_followed-answered.new.script) Answers.history g.O.Output.flushes
    c.args.out.now c.run_followed-answered.new.out c.flush-flushed.new.self ran end.line end.has_found
    (is_ok c.flush-flushed.result)
    (c.run_followed-answered.ensures.remainder (start c.args.rows.now) c.new-machine.ensures)
    c.flush-flushed.ensures.unchanged c.flush-flushed.ensures.flush
    c.lint_answer.result (c.lint_answer.ensures ∙ ap₂ (answer_of ran) went_out c.has_found.ensures)
