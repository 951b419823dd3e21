use Rattle.std.proofs.Common.{◌&&◌, ap, sym, ◌∙◌}
use Rattle.std.proofs.lemmas.Result.{err_from_is_err_and}
use Rattle.segment_scripts.specs.Stopping.{may_stop, stops_at}
use Rattle.segment_scripts.proofs.runs.AnswersSoFar.{same_line}
use Rattle.segment_scripts.proofs.runs.Stops.{stopped_at_last}
use Rattle.segment_scripts.proofs.runs.Ends.{ends_at_last, same_on, through, through_last}
use Rattle.segment_scripts.proofs.scripts.answer_last.Goals as goal

pub returns-in_err-answered-clause-on_error : goal.returns-in_err-answered-clause-on_error
returns-in_err-answered-clause-on_error g c =
    let Stands = g.M.Machine.stands in
    let err = c.in_err-answered.ensures in
    let p = err_from_is_err_and c.from_residual.result c.from_residual.ensures.1 in
    rw p.1 (λ start before read h.
    stopped_at_last g.M.Machine.respond g.met.M.Machine.long_lines start before read (Stands c.args.machine.now)
    (Stands c.answer_next.new.machine) c.as_slice-last.result.now (g.W.Sink.history c.args.out.now).bytes
    (g.W.Sink.history c.answer_next.new.out).bytes
    (same_line g.M.Machine.respond start before read (Stands c.args.machine.now) c.args.line.now
    c.as_slice-last.result.now (g.W.Sink.history c.args.out.now).bytes h.behind c.as_slice-last.ensures)
    (sym c.is_empty.ensures ∙ c.if-not-is_empty.true) err.step (λ p s. (err.output.writes p s).err))

pub returns-then-is_stop-clause-on_ok : goal.returns-then-is_stop-clause-on_ok
returns-then-is_stop-clause-on_ok g c = λ start before read h.
    let Stands = g.M.Machine.stands in
    let until = c.args.until in
    let stops = stops_at until g.M.Machine.refuses in
    let ok = c.in_ok-answered.ensures in
    ends_at_last g.M.Machine.respond stops g.met.M.Machine.long_lines (λ state line h.
    ap (λ b. may_stop until && b) (g.met.M.Machine.long_refusals state line h))
    start before read (Stands c.args.machine.now) (Stands c.answer_next.new.machine) c.as_slice-last.result.now
    (g.W.Sink.history c.args.out.now).bytes (g.W.Sink.history c.answer_next.new.out).bytes
    (same_on g.M.Machine.respond stops start before read (Stands c.args.machine.now) c.args.line.now
    c.as_slice-last.result.now (g.W.Sink.history c.args.out.now).bytes h c.as_slice-last.ensures)
    (sym c.is_empty.ensures ∙ c.if-not-is_empty.true) ok.step (λ p s. (ok.output.writes p s).ok)
    (λ p s. ap (λ b. may_stop until && b) (sym (ok.report p s)) ∙ sym c.is_stop.ensures ∙ c.if-is_stop.true)

pub returns-else-is_stop-clause-on_ok : goal.returns-else-is_stop-clause-on_ok
returns-else-is_stop-clause-on_ok g c = λ start before read h.
    let Stands = g.M.Machine.stands in
    let until = c.args.until in
    let stops = stops_at until g.M.Machine.refuses in
    let ok = c.in_ok-answered.ensures in
    through_last g.M.Machine.respond stops g.met.M.Machine.long_lines (λ state line h.
    ap (λ b. may_stop until && b) (g.met.M.Machine.long_refusals state line h))
    start before read (Stands c.args.machine.now) (Stands c.answer_next.new.machine) c.as_slice-last.result.now
    (g.W.Sink.history c.args.out.now).bytes (g.W.Sink.history c.answer_next.new.out).bytes
    (same_on g.M.Machine.respond stops start before read (Stands c.args.machine.now) c.args.line.now
    c.as_slice-last.result.now (g.W.Sink.history c.args.out.now).bytes h c.as_slice-last.ensures)
    (sym c.is_empty.ensures ∙ c.if-not-is_empty.true) ok.step (λ p s. (ok.output.writes p s).ok)
    (λ p s. ap (λ b. may_stop until && b) (sym (ok.report p s)) ∙ sym c.is_stop.ensures ∙ c.if-is_stop.false)

pub returns-else-not-is_empty-clause-on_ok : goal.returns-else-not-is_empty-clause-on_ok
returns-else-not-is_empty-clause-on_ok g c = λ start before read h.
    let Stands = g.M.Machine.stands in
    let stops = stops_at c.args.until g.M.Machine.refuses in
    through g.M.Machine.respond stops start before read (Stands c.args.machine.now) c.as_slice-last.result.now
    (g.W.Sink.history c.args.out.now).bytes
    (same_on g.M.Machine.respond stops start before read (Stands c.args.machine.now) c.args.line.now
    c.as_slice-last.result.now (g.W.Sink.history c.args.out.now).bytes h c.as_slice-last.ensures)
    (sym c.is_empty.ensures ∙ c.if-not-is_empty.false)
