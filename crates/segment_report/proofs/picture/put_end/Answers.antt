use Rattle.std.proofs.Common.{◌-◌, List, ℕ, refl, arith}
use Rattle.std.specs.Prelude.{codes}
use Rattle.segment_manager.specs.Directory.{Directory}
use Rattle.segment_report.specs.Picture.{bytes_in_row, close_text, shape_text}
use Rattle.segment_report.proofs.picture.Blocks.{end-same, has_size}
use Rattle.segment_report.proofs.page.Output.{tells-cut, tells-text, tells-then}
use Rattle.segment_report.proofs.picture.put_end.Goals as goal

pub overflow_sub-size_of : goal.overflow_sub-size_of
overflow_sub-size_of g c = let h =
    has_size c.args.segment.now c.size_of.result c.size_of.ensures.denotation c.size_of.ensures.size
    in omega (arith, h.low)

pub put_shape-requires-clause-in_bounds : goal.put_shape-requires-clause-in_bounds
put_shape-requires-clause-in_bounds g c = let h =
    has_size c.args.segment.now c.size_of.result c.size_of.ensures.denotation c.size_of.ensures.size
    in omega (arith, h.low, h.high)

pub returns-in_err-put_shape : goal.returns-in_err-put_shape
returns-in_err-put_shape g c =
    let s = c.args.segment.now in
    let old = g.W.Sink.history c.args.out.now in
    let new = g.W.Sink.history c.put_shape.new.out in
    let shape : Directory → List ℕ = λ d. shape_text (bytes_in_row d.size) (d.size - 16) 16 (codes "end") in
    tells-cut s old new _ c.from_residual.result shape (λ (d : Directory). close_text) c.from_residual.ensures.0
    (tells-text s old new _ (shape_text c.args.scale.row (c.size_of.result - 16) 16 (codes "end")) shape
    c.in_err-put_shape.ensures
    (end-same s c.args.scale.row c.size_of.result c.requires.scale c.size_of.ensures.size))

pub returns : goal.returns
returns g c =
    let s = c.args.segment.now in
    let old = g.W.Sink.history c.args.out.now in
    let mid = g.W.Sink.history c.put_shape.new.out in
    let new = g.W.Sink.history c.put_parts.new.out in
    let shape : Directory → List ℕ = λ d. shape_text (bytes_in_row d.size) (d.size - 16) 16 (codes "end") in
    tells-then s old mid new _ c.put_parts.result shape (λ (d : Directory). close_text)
    (tells-text s old mid _ (shape_text c.args.scale.row (c.size_of.result - 16) 16 (codes "end")) shape
    c.in_ok-put_shape.ensures
    (end-same s c.args.scale.row c.size_of.result c.requires.scale c.size_of.ensures.size))
    (tells-text s mid new c.put_parts.result close_text (λ (d : Directory). close_text) c.put_parts.ensures (λ d k.
    refl))
