use Rattle.segment_report.proofs.figures.Figures.{kind-cut}
use Rattle.segment_report.proofs.figures.put_kind_lines.Goals as goal

pub returns-in_err-put_kind : goal.returns-in_err-put_kind
returns-in_err-put_kind g c =
    kind-cut c.args.objects.now.kinds c.args.kinds.now c.kinds.kind-index _ c.of_kind.result
    (g.W.Sink.history c.args.out.now) (g.W.Sink.history c.kinds.out) (g.W.Sink.history c.put_kind.new.out) _
    c.from_residual.result
    c.kinds-test.true c.kinds.invariant.taken c.kinds.invariant.failures c.from_residual.ensures.0 c.of_kind.ensures
    c.in_err-put_kind.ensures
