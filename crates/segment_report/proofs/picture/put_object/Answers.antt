use Rattle.std.proofs.Common.{◌+◌}
use Rattle.seg_types.specs.Names.{ByHandle}
use Rattle.segment_manager.specs.Directory.{Directory, object_at}
use Rattle.segment_report.specs.Picture.{called, label_text, object_label}
use Rattle.segment_report.proofs.picture.Blocks.{label-said}
use Rattle.segment_report.proofs.page.Output.{tells-text}
use Rattle.segment_report.proofs.picture.put_object.Goals as goal

pub returns : goal.returns
returns g c =
    let s = c.args.segment.now in
    let said = c.instance_here-said.result in
    let row = c.args.scale.row in
    tells-text s (g.W.Sink.history c.args.out.now) (g.W.Sink.history c.put_label.new.out) c.put_label.result
    (label_text row c.args.from c.args.len (called said.class said.name.now said.handle) said.kind)
    (λ (d : Directory). object_label row c.args.from c.args.len (object_at d (ByHandle (c.args.from + 16))))
    c.put_label.ensures
    (label-said s row c.args.from c.args.len (c.args.from + 16) said c.instance_here-said.ensures)
