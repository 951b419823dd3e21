use Rattle.raw_region.specs.Device.{read_delta, write_delta}
use Rattle.segment_cli.specs.declared.faults.Start.TheVariants.{Image}
use Rattle.segment_disk.specs.Events.{IsFlushed, create_mode_of}
use Rattle.segment_commands.proofs.running.Ends.{free_run}
use Rattle.segment_commands.proofs.running.Start.{opened_run}
use Rattle.segment_commands.proofs.running.ScriptEnds.{unread_unopened}
use Rattle.std.proofs.lemmas.Result.{err_from_is_err_and}
use Rattle.segment_commands.proofs.running.run_free.Goals as goal

pub returns-clause-effect : goal.returns-clause-effect
returns-clause-effect g c =
    let Script = g.S.Source in let Answers = g.O.Sink in let request = c.args.request.now in
    let flushed : _ = IsFlushed Answers.history g.O.Output.flushes c.run_script.new.out in
    opened_run g.D.Disk.step c.args.disk.now c.open_segment.new.disk c.open_segment.new.disk request
    (Script.history c.args.script.now) (Script.history c.run_script.new.script) Answers.history
    c.args.out.now c.run_script.new.out c.run_script.result c.in_ok-segment.segment c.args.mode _
    (λ capacity image h. free_run g.D.Disk.step (create_mode_of request.saving) request.path.now Image c.args.mode
    capacity image request.until
    (read_delta (Script.history c.args.script.now) (Script.history c.run_script.new.script))
    (write_delta (Answers.history c.args.out.now) (Answers.history c.run_script.new.out)) flushed
    c.in_ok-segment.segment c.run_script.new.segment h c.requires.mode c.open_segment.new.disk c.run_script.result
    c.run_script.ensures.service) c.in_ok-segment.ensures

pub returns-in_err-segment-clause-script_end : goal.returns-in_err-segment-clause-script_end
returns-in_err-segment-clause-script_end g c =
    let p = err_from_is_err_and c.from_residual.result c.from_residual.ensures.1 in
    rw (p.1, p.2) (unread_unopened (g.S.Source.history c.args.script.now) c.in_err-segment.ensures.read
    c.in_err-segment.field-0.0 c.in_err-segment.ensures.answer)
