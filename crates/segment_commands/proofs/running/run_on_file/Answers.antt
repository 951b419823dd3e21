use Rattle.std.proofs.Common.{◌≡◌, ◌≢◌, inr, rules, subst}
use Rattle.raw_region.specs.Device.{ReaderHistory}
use Rattle.segment_manager.specs.declared.modes.Mode.TheVariants.{Write}
use Rattle.segment_disk.specs.Events.{IsFlushed}
use Rattle.segment_commands.specs.Running.{RunsOpened}
use Rattle.segment_commands.proofs.running.Start.{in_reading}
use Rattle.segment_commands.proofs.running.run_on_file.Goals as goal

pub returns-else-eq-clause-effect : goal.returns-else-eq-clause-effect
returns-else-eq-clause-effect g c =
    let Script = g.S.Source in let Answers = g.O.Sink in let step = g.D.Disk.step in
    let flushes : _ = IsFlushed Answers.history g.O.Output.flushes c.run_free.new.out in
    let same : Script.history c.can_be_read.new.script ≡ Script.history c.args.script.now = search rules in
    let is_not : c.args.mode ≢ Write = search rules in
    inr (in_reading step c.args.disk.now c.run_free.new.disk c.args.request.now
    (Script.history c.args.script.now) (Script.history c.run_free.new.script)
    Answers.history flushes c.args.out.now c.run_free.new.out c.answered.result c.args.mode is_not (record {
      answer = c.run_free.result;
      ran = subst (λ (gave : ReaderHistory).
          RunsOpened step c.args.disk.now c.run_free.new.disk c.args.request.now c.args.mode
          gave (Script.history c.run_free.new.script)
          Answers.history flushes c.args.out.now c.run_free.new.out c.run_free.result) same c.run_free.ensures.effect;
      result_is = c.answered.ensures;
    }))
