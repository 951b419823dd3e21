use Rattle.std.proofs.Common.{refl}
use Rattle.segment_commands.proofs.running.Ends.{saving_run, unsaved_run}
use Rattle.segment_commands.proofs.running.Start.{made_run}
use Rattle.segment_commands.proofs.running.ScriptEnds.{end_saved, unread_unmade}
use Rattle.std.proofs.lemmas.Result.{err_from_is_err_and}
use Rattle.segment_commands.proofs.running.run_made.Goals as goal

pub returns-then-is_whole-clause-effect : goal.returns-then-is_whole-clause-effect
returns-then-is_whole-clause-effect g c = rw c.saved.ensures (made_run _ _ c.args.disk.now _ _ _ _ _ _ _ _
    c.in_ok-segment.segment _ _
    (λ capacity image h. saving_run _ _ _ _ _ _ _ _ _ _ _ _ c.run_script-ended.new.segment h _
    (let is = c.is_whole.ensures.complete search in rw is at c.run_script-ended.ensures.service) _ refl
    c.write_made.result c.write_made.ensures) c.in_ok-segment.ensures)

pub returns-clause-effect : goal.returns-clause-effect
returns-clause-effect g c = made_run _ _ c.args.disk.now _ _ _ _ _ _ _ _ c.in_ok-segment.segment _ _
    (λ capacity image h. unsaved_run _ _ _ _ _ _ _ _ _ _ _ _ c.run_script-ended.new.segment h _
    c.run_script-ended.result (c.is_whole.ensures.early_stop search) c.run_script-ended.ensures.service)
    c.in_ok-segment.ensures

pub returns-in_err-segment-clause-script_end : goal.returns-in_err-segment-clause-script_end
returns-in_err-segment-clause-script_end g c =
    let p = err_from_is_err_and c.from_residual.result c.from_residual.ensures.1 in
    rw (p.1, p.2) (unread_unmade (g.S.Source.history c.args.script.now) c.args.size
    c.in_err-segment.field-0.0 c.in_err-segment.ensures)

pub returns-then-is_whole-clause-script_end : goal.returns-then-is_whole-clause-script_end
returns-then-is_whole-clause-script_end g c =
    let is = c.is_whole.ensures.complete search in
    rw c.saved.ensures (end_saved _ _ _ (rw is at c.run_script-ended.ensures.script_end))
