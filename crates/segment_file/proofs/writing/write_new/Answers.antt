use Rattle.std.proofs.Common.{Ok, Err}
use Rattle.std.proofs.lemmas.Result.{err_from_is_err_and}
use Rattle.segment_file.proofs.writing.Outcome.{not_made_new, written_new}
use Rattle.segment_file.proofs.writing.write_new.Goals as goal

pub returns : goal.returns
returns g c = written_new g.D.Disk.step c.args.disk.now c.create_new.new.self c.fill.new.disk c.args.path.now
    c.args.segment.now.cut.bytes c.in_ok-writer.ensures.request (Ok tt) c.in_ok-fill.ensures

pub returns-in_err-fill : goal.returns-in_err-fill
returns-in_err-fill g c =
    let from = c.from_residual-in_err-fill in let p = err_from_is_err_and from.result from.ensures.1 in
    rw (p.1, p.2) (written_new g.D.Disk.step c.args.disk.now c.create_new.new.self c.fill.new.disk c.args.path.now
    c.args.segment.now.cut.bytes c.in_ok-writer.ensures.request (Err c.in_err-fill.field-0.0) c.in_err-fill.ensures)

pub returns-in_err-writer : goal.returns-in_err-writer
returns-in_err-writer g c =
    let p = err_from_is_err_and c.from_residual.result c.from_residual.ensures.1 in
    rw (p.1, p.2) (not_made_new g.D.Disk.step c.args.disk.now c.args.disk.now c.create_new.new.self c.args.path.now
    c.args.segment.now.cut.bytes c.in_err-writer.field-0.0 c.in_err-writer.ensures.request)
