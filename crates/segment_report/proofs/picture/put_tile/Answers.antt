use Rattle.std.proofs.Common.{ap}
use Rattle.segment_manager.specs.Directory.{Directory}
use Rattle.segment_report.specs.Picture.{object_in, object_label, shape_text, sort_of}
use Rattle.segment_report.proofs.page.Output.{tells-cut, tells-text, tells-then}
use Rattle.segment_report.proofs.picture.put_tile.Goals as goal

pub returns-in_err-put_shape : goal.returns-in_err-put_shape
returns-in_err-put_shape g c =
    let s = c.args.segment.now in
    let t = c.args.tile in
    let old = g.W.Sink.history c.args.out.now in
    let new = g.W.Sink.history c.put_shape.new.out in
    tells-cut s old new _ c.from_residual.result (λ (d : Directory).
    shape_text c.args.scale.row t.offset t.len (sort_of t.use_of))
    (λ (d : Directory). object_label c.args.scale.row t.offset t.len (object_in d t.use_of t.offset))
    c.from_residual.ensures.0
    (tells-text s old new _ (shape_text c.args.scale.row t.offset t.len c.sort_of.result.now) (λ (d : Directory).
    shape_text c.args.scale.row t.offset t.len (sort_of t.use_of)) c.in_err-put_shape.ensures
    (λ d k. ap (shape_text c.args.scale.row t.offset t.len) c.sort_of.ensures))

pub returns : goal.returns
returns g c =
    let s = c.args.segment.now in
    let t = c.args.tile in
    let old = g.W.Sink.history c.args.out.now in
    let mid = g.W.Sink.history c.put_shape.new.out in
    let new = g.W.Sink.history c.put_inside.new.out in
    tells-then s old mid new _ c.put_inside.result (λ (d : Directory).
    shape_text c.args.scale.row t.offset t.len (sort_of t.use_of))
    (λ (d : Directory). object_label c.args.scale.row t.offset t.len (object_in d t.use_of t.offset))
    (tells-text s old mid _ (shape_text c.args.scale.row t.offset t.len c.sort_of.result.now) (λ (d : Directory).
    shape_text c.args.scale.row t.offset t.len (sort_of t.use_of)) c.in_ok-put_shape.ensures
    (λ d k. ap (shape_text c.args.scale.row t.offset t.len) c.sort_of.ensures))
    c.put_inside.ensures
