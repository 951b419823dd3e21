use Rattle.std.proofs.Common.{◌≡◌, ◌&&◌, [], ◌∷◌, ◌++◌, take, sym, subst, ap, ◌∙◌, arith, ℕ, List}
use Rattle.std.proofs.lemmas.List.{append_assoc}
use Rattle.std.proofs.lemmas.Result.{err_from_is_err_and}
use Rattle.segment_scripts.specs.RunProgress.{IsOn}
use Rattle.segment_scripts.specs.Stopping.{may_stop, stops_at}
use Rattle.segment_scripts.proofs.runs.LineEnds.{first_end, no_end}
use Rattle.segment_scripts.proofs.runs.Ends.{ends_in, fails_in, on_line, on_open}
use Rattle.segment_scripts.proofs.scripts.feed.Goals as goal

pub returns-in_err-answered-clause-on_error : goal.returns-in_err-answered-clause-on_error
returns-in_err-answered-clause-on_error g c =
    let Stands = g.M.Machine.stands in
    let until = c.args.until in
    let was = c.in_err-answered.ensures in
    let p = err_from_is_err_and c.from_residual.result c.from_residual.ensures.1 in
    rw p.1 (λ start before read h.
    fails_in g.M.Machine.respond (stops_at until g.M.Machine.refuses) g.met.M.Machine.long_lines (λ state line h.
    ap (λ b. may_stop until && b) (g.met.M.Machine.long_refusals state line h))
    start before read c.args.piece.now c.lines.invariant.done c.lines.rest.now _ _ (Stands c.lines.machine)
    (Stands c.answer_ended.new.machine)
    c.lines.line (g.W.Sink.history c.lines.out).bytes (g.W.Sink.history c.answer_ended.new.out).bytes
    (c.lines.invariant.behind start before read h)
    (first_end c.lines.rest.now c.in-Some.len c.in-Some.ensures.0 c.in-Some.ensures.1) was.step
    c.lines.invariant.parts (λ p s. (was.output.writes p s).err))

pub returns-then-is_stop-clause-on_ok : goal.returns-then-is_stop-clause-on_ok
returns-then-is_stop-clause-on_ok g c = λ start before read h.
    let Stands = g.M.Machine.stands in
    let until = c.args.until in
    let ok = c.in_ok-answered.ensures in
    ends_in g.M.Machine.respond (stops_at until g.M.Machine.refuses) g.met.M.Machine.long_lines (λ state line h.
    ap (λ b. may_stop until && b) (g.met.M.Machine.long_refusals state line h))
    start before read c.args.piece.now c.lines.invariant.done c.lines.rest.now _ _ (Stands c.lines.machine)
    (Stands c.answer_ended.new.machine)
    c.lines.line (g.W.Sink.history c.lines.out).bytes (g.W.Sink.history c.answer_ended.new.out).bytes
    (c.lines.invariant.behind start before read h)
    (first_end c.lines.rest.now c.in-Some.len c.in-Some.ensures.0 c.in-Some.ensures.1) ok.step
    c.lines.invariant.parts (λ p s. (ok.output.writes p s).ok)
    (λ p s. ap (λ b. may_stop until && b) (sym (ok.report p s)) ∙ sym c.is_stop.ensures ∙ c.if-is_stop.true)

pub lines-preserved : goal.lines-preserved
lines-preserved g c =
    let Stands = g.M.Machine.stands in
    let until = c.args.until in
    let ok = c.in_ok-answered.ensures in
    let rest = c.lines.rest.now in
    let n = c.in-Some.len in
    let end = take n rest in
    let ends = first_end rest n c.in-Some.ensures.0 c.in-Some.ensures.1 in
    record {
      done = c.lines.invariant.done ++ end ++ 0x0A ∷ [];
      parts = c.lines.invariant.parts ∙ ap (λ (l : List ℕ). c.lines.invariant.done ++ l) ends.parts ∙ simp append_assoc;
      behind = λ start before read h.
          on_line g.M.Machine.respond (stops_at until g.M.Machine.refuses) g.met.M.Machine.long_lines
          (λ state line h. ap (λ b. may_stop until && b) (g.met.M.Machine.long_refusals state line h))
          start before read c.args.piece.now c.lines.invariant.done rest end _ (Stands c.lines.machine)
          (Stands c.answer_ended.new.machine)
          c.lines.line (g.W.Sink.history c.lines.out).bytes (g.W.Sink.history c.answer_ended.new.out).bytes
          (c.lines.invariant.behind start before read h)
          ends ok.step c.answer_ended.new.line (λ p s. (ok.output.writes p s).ok)
          (λ p s. ap (λ b. may_stop until && b) (sym (ok.report p s)) ∙ sym c.is_stop.ensures
          ∙ c.if-is_stop.false) ok.empty;
      failures = omega (arith, ok.output.counted, c.lines.invariant.failures);
    }

pub returns-clause-on_ok : goal.returns-clause-on_ok
returns-clause-on_ok g c = λ start before read h.
    let Stands = g.M.Machine.stands in
    let stops = stops_at c.args.until g.M.Machine.refuses in
    let was = c.lines.invariant in
    let all : (read ++ was.done) ++ c.lines.rest.now ≡ read ++ c.args.piece.now =
    append_assoc read was.done c.lines.rest.now ∙ ap (λ (l : List ℕ). read ++ l) (sym was.parts) in
    subst (λ (l : List ℕ). IsOn g.M.Machine.respond stops start before l (Stands c.lines.machine) c.extend.new.self
    (g.W.Sink.history c.lines.out).bytes) all
    (on_open g.M.Machine.respond stops start before (read ++ was.done) c.lines.rest.now (Stands c.lines.machine)
    c.lines.line c.extend.new.self (g.W.Sink.history c.lines.out).bytes
    (was.behind start before read h) (no_end c.lines.rest.now c.in_default.ensures) c.extend.ensures)
