use Rattle.segment_dump.proofs.Common.{sym, subst, ◌∙◌, false≢true, Writes, compared, portable, dump_text}
use Rattle.segment_dump.proofs.comparing.Comparison.{is-written, never-fails, owed-alike}
use Rattle.segment_dump.proofs.comparing.compare.Goals as goal

pub returns-then-has_all-clause-on_ok : goal.returns-then-has_all-clause-on_ok
returns-then-has_all-clause-on_ok c = record {
  is = λ d st. is-written c.args.text.now (dump_text c.args.size (portable d)) c.new-out.result c.dump_as.new.out
      c.in-Ok.field-0 c.new-out.ensures (c.in-Ok.ensures.writes d st) c.if-has_all.ensures.every;
}

pub returns-else-has_all-clause-on_error : goal.returns-else-has_all-clause-on_error
returns-else-has_all-clause-on_error c = record {
  is_not = λ d st e.
      let all = owed-alike c.args.text.now (dump_text c.args.size (portable d)) c.new-out.result c.dump_as.new.out
      c.in-Ok.field-0 c.new-out.ensures c.if-has_all.ensures.known_size (c.in-Ok.ensures.writes d st) e in
      false≢true (sym c.if-has_all.false ∙ c.has_all.ensures.totality all);
}

pub returns-in-Err-clause-on_error : goal.returns-in-Err-clause-on_error
returns-in-Err-clause-on_error c = record {
  is_not = λ d st e.
      never-fails c.args.text.now c.new-out.result c.dump_as.new.out c.new-out.ensures c.alike-in-Err.ensures _
      c.in-Err.field-0 c.in-Err.is
      (subst (λ t. Writes (compared c.new-out.result) (compared c.dump_as.new.out) c.dump_as.result t) (sym e)
      (c.dump_as.ensures.writes d st));
}
