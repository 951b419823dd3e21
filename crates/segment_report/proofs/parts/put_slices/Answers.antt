use Rattle.raw_region.proofs.Laws.{writes-element}
use Rattle.segment_report.specs.Parts.{slice_text}
use Rattle.segment_report.proofs.parts.put_slices.Goals as goal

pub returns-in_err-write_all : goal.returns-in_err-write_all
returns-in_err-write_all g c =
    writes-element slice_text c.args.slices.now c.slices.slice-index _ (g.W.Sink.history c.args.out.now)
    (g.W.Sink.history c.slices.out) (g.W.Sink.history c.write_all.new.sink) _ c.from_residual.result
    c.slices-test.true c.slices.invariant.taken c.slices.invariant.failures c.from_residual.ensures.0
    c.in_err-write_all.ensures
