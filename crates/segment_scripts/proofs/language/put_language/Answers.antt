use Rattle.segment_scripts.specs.CommandRows.{row_text}
use Rattle.raw_region.proofs.Laws.{writes-element}
use Rattle.segment_scripts.proofs.language.put_language.Goals as goal

pub returns-in_err-put_row : goal.returns-in_err-put_row
returns-in_err-put_row g c =
    writes-element row_text c.args.rows.now c.rows.row-index _ (g.W.Sink.history c.args.out.now)
    (g.W.Sink.history c.rows.out) (g.W.Sink.history c.put_row.new.out) _ c.from_residual.result c.rows-test.true
    c.rows.invariant.taken c.rows.invariant.failures c.from_residual.ensures.0 c.in_err-put_row.ensures
