use Rattle.segment_disk.specs.Events.{create_mode_of}
use Rattle.segment_file.proofs.writing.Outcome.{is_over, left_over, made_over, overtaken}
use Rattle.segment_file.proofs.writing.write_image.Goals as goal

pub returns-in-Other : goal.returns-in-Other
returns-in-Other g c = overtaken g.D.Disk.step c.args.disk.now c.compare_image.new.disk c.args.path.now
    c.args.segment.now.cut.bytes (create_mode_of c.args.how) (is_over c.args.how) _
    (rw c.in-Other.is at c.compare_image.ensures.step)

pub returns-in-Different : goal.returns-in-Different
returns-in-Different g c = made_over g.D.Disk.step c.args.disk.now c.compare_image.new.disk c.write_over.new.disk
    c.args.path.now c.args.segment.now.cut.bytes (create_mode_of c.args.how) (is_over c.args.how) c.write_over.result
    (rw c.in-Different.is at c.compare_image.ensures.step) c.write_over.ensures

pub returns-in-Equal : goal.returns-in-Equal
returns-in-Equal g c = left_over g.D.Disk.step c.args.disk.now c.compare_image.new.disk c.args.path.now
    c.args.segment.now.cut.bytes (create_mode_of c.args.how) (is_over c.args.how)
    (rw c.in-Equal.is at c.compare_image.ensures.step) c.compare_image.ensures.acceptance
