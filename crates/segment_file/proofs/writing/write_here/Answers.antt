use Rattle.segment_file.proofs.writing.Outcome.{written_here}
use Rattle.segment_file.proofs.writing.write_here.Goals as goal

pub returns : goal.returns
returns g c = written_here g.D.Disk.step c.args.disk.now c.create.new.self c.fill.new.disk c.args.path.now
    c.args.segment.now.cut.bytes
    c.in_ok-writer.ensures.request c.fill.result c.fill.ensures
