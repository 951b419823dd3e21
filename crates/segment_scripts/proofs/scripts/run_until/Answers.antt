use Rattle.std.proofs.Common.{[], refl, subst, ◌∙◌, arith}
use Rattle.raw_region.specs.Device.{read_delta, write_delta}
use Rattle.segment_scripts.specs.RunProgress.{LeavesEnded}
use Rattle.segment_scripts.specs.Lines.{ended_lines, open_line, executable}
use Rattle.segment_scripts.specs.Stopping.{stops_at}
use Rattle.segment_scripts.proofs.runs.Stops.{none_failed, one_failed, printed_part, executable-whole, grows_last}
use Rattle.segment_scripts.proofs.runs.Stops.{grows_stopped, until_last}
use Rattle.segment_scripts.proofs.scripts.run_until.Goals as goal

pub returns-in-Refused-clause-remainder : goal.returns-in-Refused-clause-remainder
returns-in-Refused-clause-remainder g c = λ state s.
    let before = (g.W.Sink.history c.args.out.now).bytes in
    let script = read_delta (g.S.Source.history c.args.script.now) (g.S.Source.history c.read_lines.new.script) in
    let out = write_delta (g.W.Sink.history c.args.out.now) (g.W.Sink.history c.read_lines.new.out) in
    subst (LeavesEnded g.M.Machine.respond (stops_at c.args.until g.M.Machine.refuses) state before script
    (g.M.Machine.stands c.read_lines.new.machine) c.read_lines.new.line
    (g.W.Sink.history c.read_lines.new.out).bytes out)
    c.in-Refused.is (c.in_ok-read_lines.ensures.end state s)

pub returns-in-Ok-clause-remainder : goal.returns-in-Ok-clause-remainder
returns-in-Ok-clause-remainder g c = λ state s.
    let before = (g.W.Sink.history c.args.out.now).bytes in
    let script = read_delta (g.S.Source.history c.args.script.now) (g.S.Source.history c.read_lines.new.script) in
    let out = write_delta (g.W.Sink.history c.args.out.now) (g.W.Sink.history c.answer_last.new.out) in
    let read = subst (LeavesEnded g.M.Machine.respond (stops_at c.args.until g.M.Machine.refuses) state before
    script (g.M.Machine.stands c.read_lines.new.machine) c.read_lines.new.line
    (g.W.Sink.history c.read_lines.new.out).bytes
    (write_delta (g.W.Sink.history c.args.out.now) (g.W.Sink.history c.read_lines.new.out)))
    c.in-Complete.is (c.in_ok-read_lines.ensures.end state s) in
    until_last g.M.Machine.respond (stops_at c.args.until g.M.Machine.refuses) state before script out
    (g.M.Machine.stands c.answer_last.new.machine) (g.W.Sink.history c.answer_last.new.out).bytes c.in-Ok.end
    read.end.whole read.end.within
    (c.in-Ok.ensures.on_ok state before script.bytes (record { behind = read.end.behind; on = read.on })) refl
    (none_failed _ _ (omega (arith, c.in_ok-read_lines.ensures.devices.reads.counted)))
    (none_failed _ _ (omega (arith, c.in_ok-read_lines.ensures.devices.writes_counted, c.in-Ok.ensures.failures)))

pub returns-in-Err-clause-remainder : goal.returns-in-Err-clause-remainder
returns-in-Err-clause-remainder g c = λ state s.
    let before = (g.W.Sink.history c.args.out.now).bytes in
    let script = read_delta (g.S.Source.history c.args.script.now) (g.S.Source.history c.read_lines.new.script) in
    let read = subst (LeavesEnded g.M.Machine.respond (stops_at c.args.until g.M.Machine.refuses) state before
    script (g.M.Machine.stands c.read_lines.new.machine) c.read_lines.new.line
    (g.W.Sink.history c.read_lines.new.out).bytes
    (write_delta (g.W.Sink.history c.args.out.now) (g.W.Sink.history c.read_lines.new.out)))
    c.in-Complete.is (c.in_ok-read_lines.ensures.end state s) in
    let cut = c.in-Err.ensures.on_error state before script.bytes (record { behind = read.end.behind; on = read.on }) in
    let p = printed_part g.M.Machine.respond (stops_at c.args.until g.M.Machine.refuses) state before
    (executable script) (ended_lines script.bytes) (open_line script.bytes) []
    (g.M.Machine.stands c.answer_last.new.machine)
    (g.W.Sink.history c.answer_last.new.out).bytes cut.stopped read.on
    (executable-whole script read.end.whole read.end.within ∙ cut.parts) in
    record {
      left = record {
        answers = p.part;
        read = none_failed _ _ (omega (arith, c.in_ok-read_lines.ensures.devices.reads.counted));
        written = one_failed _ _ (omega (
          arith,
          c.in_ok-read_lines.ensures.devices.writes_counted,
          c.in-Err.ensures.failures,
        ));
      };
      on = p.on;
    }

pub returns-in-Ok-clause-output_history : goal.returns-in-Ok-clause-output_history
returns-in-Ok-clause-output_history g c = λ state s.
    let before = (g.W.Sink.history c.args.out.now).bytes in
    let script = read_delta (g.S.Source.history c.args.script.now) (g.S.Source.history c.read_lines.new.script) in
    let read = subst (LeavesEnded g.M.Machine.respond (stops_at c.args.until g.M.Machine.refuses) state before
    script (g.M.Machine.stands c.read_lines.new.machine) c.read_lines.new.line
    (g.W.Sink.history c.read_lines.new.out).bytes
    (write_delta (g.W.Sink.history c.args.out.now) (g.W.Sink.history c.read_lines.new.out)))
    c.in-Complete.is (c.in_ok-read_lines.ensures.end state s) in
    grows_last g.M.Machine.respond (stops_at c.args.until g.M.Machine.refuses) state before script.bytes
    (g.M.Machine.stands c.answer_last.new.machine) (g.W.Sink.history c.answer_last.new.out).bytes c.in-Ok.end
    (c.in-Ok.ensures.on_ok state before script.bytes (record { behind = read.end.behind; on = read.on }))

pub returns-in-Err-clause-output_history : goal.returns-in-Err-clause-output_history
returns-in-Err-clause-output_history g c = λ state s.
    let before = (g.W.Sink.history c.args.out.now).bytes in
    let script = read_delta (g.S.Source.history c.args.script.now) (g.S.Source.history c.read_lines.new.script) in
    let read = subst (LeavesEnded g.M.Machine.respond (stops_at c.args.until g.M.Machine.refuses) state before
    script (g.M.Machine.stands c.read_lines.new.machine) c.read_lines.new.line
    (g.W.Sink.history c.read_lines.new.out).bytes
    (write_delta (g.W.Sink.history c.args.out.now) (g.W.Sink.history c.read_lines.new.out)))
    c.in-Complete.is (c.in_ok-read_lines.ensures.end state s) in
    grows_stopped g.M.Machine.respond state before _ _ (g.M.Machine.stands c.answer_last.new.machine)
    (g.W.Sink.history c.answer_last.new.out).bytes
    (c.in-Err.ensures.on_error state before script.bytes (record { behind = read.end.behind; on = read.on })).stopped
