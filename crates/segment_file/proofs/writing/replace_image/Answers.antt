use Rattle.segment_file.proofs.writing.Outcome.{dropped, placed}
use Rattle.segment_file.proofs.writing.replace_image.Goals as goal

pub returns-in-Ok : goal.returns-in-Ok
returns-in-Ok g c = placed g.D.Disk.step c.args.disk.now c.create.new.self c.put_in_place.new.disk
    c.args.path.now c.args.segment.now.cut.bytes
    c.in_ok-writer.ensures.request c.fill.new.disk c.in-Ok.ensures c.put_in_place.result c.put_in_place.ensures

pub returns-in-Err : goal.returns-in-Err
returns-in-Err g c = dropped g.D.Disk.step c.args.disk.now c.create.new.self c.discard_replacement.new.self
    c.args.path.now c.args.segment.now.cut.bytes
    c.in_ok-writer.ensures.request c.fill.new.disk c.in-Err.fault c.in-Err.fault c.in-Err.ensures
    c.discard_replacement.ensures
