use Rattle.raw_region.proofs.Laws.{writes-element}
use Rattle.segment_report.specs.Entries.{entry_text}
use Rattle.segment_report.proofs.figures.put_entries.Goals as goal

pub returns-in_err-put_entry : goal.returns-in_err-put_entry
returns-in_err-put_entry g c =
    writes-element entry_text c.args.entries.now c.entries.entry-index _ (g.W.Sink.history c.args.out.now)
    (g.W.Sink.history c.entries.out) (g.W.Sink.history c.put_entry.new.out) _ c.from_residual.result
    c.entries-test.true c.entries.invariant.taken c.entries.invariant.failures c.from_residual.ensures.0
    c.in_err-put_entry.ensures
