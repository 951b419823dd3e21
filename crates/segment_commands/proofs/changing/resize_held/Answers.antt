use Rattle.std.proofs.Common.{inl, inr, Ok}
use Rattle.segment_manager.specs.declared.modes.Mode.TheVariants.{Write}
use Rattle.image_check.specs.declared.versions.AcceptedVersions.TheVariants.{Current}
use Rattle.segment_commands.specs.Opening.{OpensWith}
use Rattle.segment_commands.specs.Resizing.{more_by}
use Rattle.segment_commands.proofs.changing.LargerRegion.{roomy_by}
use Rattle.segment_commands.proofs.changing.Outcome.{file_resized, write_fault}
use Rattle.segment_commands.proofs.changing.resize_held.Goals as goal

pub returns-in-Ok : goal.returns-in-Ok
returns-in-Ok g c = rw c.written.ensures (inr (inr (record {
  segment = c.in_ok-segment.segment;
  read = c.open_segment.new.disk;
  opens = rw c.more_for-more.ensures at c.in_ok-segment.ensures;
  resized = c.resize_segment.new.segment;
  becomes = c.in-Ok.ensures.changes;
  goes = file_resized g.D.Disk.step c.open_segment.new.disk c.tell_and_write.new.disk c.args.request.now.path.now _
      g.O.Sink.history g.O.Output.flushes c.args.out.now c.tell_and_write.new.out c.resize_segment.new.segment
      c.tell_and_write.result c.tell_and_write.ensures;
  answer = write_fault c.tell_and_write.result;
})))

pub returns : goal.returns
returns g c = let opens : OpensWith g.D.Disk.step c.args.disk.now c.open_segment.new.disk
    c.args.request.now.path.now Current Write (more_by c.args.how) (Ok c.in_ok-segment.segment) =
    rw c.more_for-more.ensures at c.in_ok-segment.ensures in
    inr (inl (record {
      segment = c.in_ok-segment.segment;
      opens = opens;
      error = c.in-Err.error;
      roomy = roomy_by g.D.Disk.step c.args.disk.now c.open_segment.new.disk c.args.request.now.path.now
          c.in_ok-segment.segment c.args.how c.in-Err.error opens c.in-Err.ensures.refused;
      refused_by = c.in-Err.ensures.refused;
      silent = search;
      refused = search;
    }))
