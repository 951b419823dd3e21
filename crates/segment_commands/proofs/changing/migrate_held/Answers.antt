use Rattle.std.proofs.Common.{inr, Ok}
use Rattle.segment_commands.proofs.changing.Outcome.{image_written, told, write_fault}
use Rattle.segment_commands.proofs.changing.migrate_held.Goals as goal

pub returns-in-Ok : goal.returns-in-Ok
returns-in-Ok g c = rw c.written.ensures (inr (inr (record {
  segment = c.in_ok-segment.segment;
  read = c.open_segment.new.disk;
  opens_file = c.in_ok-segment.ensures;
  writes = image_written g.D.Disk.step c.open_segment.new.disk c.write_image.new.disk _ c.args.request.now.path.now
      c.in_ok-segment.segment.cut.bytes (Ok tt) c.in-Ok.ensures;
  tells = told _ _ c.write_and_flush.result c.write_and_flush.ensures;
  answer = write_fault c.write_and_flush.result;
})))
