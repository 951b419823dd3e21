use Rattle.std.proofs.Common.{subst, ap, ◌∙◌}
use Rattle.raw_region.specs.Device.{Writes}
use Rattle.segment_report.specs.Picture.{frame_at}
use Rattle.segment_report.proofs.picture.Shapes.{AreCorners, framed}
use Rattle.segment_report.proofs.shapes.put_frame.Goals as goal

pub returns : goal.returns
returns g c =
    let k = c.corners-corners.result in
    let e = c.corners-corners.ensures in
    let h : AreCorners c.args.scale.row c.args.from c.args.len k.left k.right k.top k.last =
    record { left_is = e.remainder; right_is = e.right; top_is = e.top; last_is = e.last } in
    subst (λ t. Writes (g.W.Sink.history c.args.out.now) (g.W.Sink.history c.put_parts.new.out) c.put_parts.result t)
    (ap (λ w. frame_at k.left w k.top) c.width_in.ensures
    ∙ framed c.args.scale.row c.args.from c.args.len k.left k.right k.top k.last h) c.put_parts.ensures
