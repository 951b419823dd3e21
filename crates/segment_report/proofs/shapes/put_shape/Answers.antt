use Rattle.std.proofs.Common.{subst}
use Rattle.raw_region.specs.Device.{Writes}
use Rattle.segment_report.proofs.picture.Shapes.{AreCorners, many-rows, one-row}
use Rattle.segment_report.proofs.shapes.put_shape.Goals as goal

pub returns-then-corners : goal.returns-then-corners
returns-then-corners g c =
    let k = c.corners-corners.result in
    let e = c.corners-corners.ensures in
    let h : AreCorners c.args.scale.row c.args.from c.args.len k.left k.right k.top k.last =
    record { left_is = e.remainder; right_is = e.right; top_is = e.top; last_is = e.last } in
    subst (λ t. Writes (g.W.Sink.history c.args.out.now) (g.W.Sink.history c.put_parts.new.out) c.put_parts.result t)
    (one-row c.args.scale.row c.args.from c.args.len k.left k.right k.top k.last h c.args.sort.now
    c.if-corners.true) c.put_parts.ensures

pub returns : goal.returns
returns g c =
    let k = c.corners-corners.result in
    let e = c.corners-corners.ensures in
    let h : AreCorners c.args.scale.row c.args.from c.args.len k.left k.right k.top k.last =
    record { left_is = e.remainder; right_is = e.right; top_is = e.top; last_is = e.last } in
    subst (λ t. Writes (g.W.Sink.history c.args.out.now) (g.W.Sink.history c.put_parts-2.new.out)
    c.put_parts-2.result t)
    (many-rows c.args.scale.row c.args.from c.args.len k.left k.right k.top k.last h c.args.sort.now
    c.if-corners.false) c.put_parts-2.ensures
