use Rattle.std.proofs.Common.{is_ok}
use Rattle.std.proofs.lemmas.Result.{err_from_is_err_and}
use Rattle.segment_file.proofs.writing.Outcome.{cut}
use Rattle.segment_file.proofs.writing.fill.Goals as goal

pub returns-in_err-saved : goal.returns-in_err-saved
returns-in_err-saved g c =
    let p = err_from_is_err_and c.from_residual.result c.from_residual.ensures.1 in
    let Writer = g.D.Writer.Sink in
    let fresh = c.requires in
    rw (p.1, p.2) (cut g.D.Disk.step c.args.disk.now c.sync_and_close-lasting.new.self c.args.segment.now.cut.bytes
    c.save-saved.ensures.acceptance (Writer.history c.save-saved.new.out)
    (is_ok c.sync_and_close-lasting.result) c.in_err-saved.field-0.0 c.sync_and_close-lasting.ensures
    (rw fresh at c.in_err-saved.ensures.output))
