use Rattle.std.proofs.Common.{ap, List, ℕ}
use Rattle.std.specs.Prelude.{codes}
use Rattle.best_fit.specs.Extents.{free_bytes}
use Rattle.segment_manager.specs.Directory.{Directory, live}
use Rattle.segment_report.specs.Picture.{bytes_in_row, head_text, shape_text}
use Rattle.segment_report.proofs.picture.Blocks.{head-same}
use Rattle.segment_report.proofs.page.Output.{tells-cut, tells-text, tells-then}
use Rattle.segment_report.proofs.picture.put_prefix.Goals as goal

pub returns-in_err-put_head : goal.returns-in_err-put_head
returns-in_err-put_head g c =
    let s = c.args.segment.now in
    let old = g.W.Sink.history c.args.out.now in
    let new = g.W.Sink.history c.put_head.new.out in
    tells-cut s old new _ c.from_residual.result (λ (d : Directory).
    head_text d.size (free_bytes (live d))) (λ (d : Directory). shape_text (bytes_in_row d.size) 0 128 (codes "header"))
    c.from_residual.ensures.0
    (tells-text s old new _ (head_text c.size_of.result c.free.result) (λ (d : Directory).
    head_text d.size (free_bytes (live d))) c.in_err-put_head.ensures
    (head-same s c.size_of.result c.free.result c.size_of.ensures.size c.free.ensures))

pub returns : goal.returns
returns g c =
    let s = c.args.segment.now in
    let old = g.W.Sink.history c.args.out.now in
    let mid = g.W.Sink.history c.put_head.new.out in
    let new = g.W.Sink.history c.put_shape.new.out in
    let shape : Directory → List ℕ = λ d. shape_text (bytes_in_row d.size) 0 128 (codes "header") in
    tells-then s old mid new _ c.put_shape.result (λ (d : Directory). head_text d.size (free_bytes (live d))) shape
    (tells-text s old mid _ (head_text c.size_of.result c.free.result) (λ (d : Directory).
    head_text d.size (free_bytes (live d))) c.in_ok-put_head.ensures
    (head-same s c.size_of.result c.free.result c.size_of.ensures.size c.free.ensures))
    (tells-text s mid new c.put_shape.result (shape_text c.args.scale.row 0 128 (codes "header")) shape
    c.put_shape.ensures
    (λ d k. ap (λ per. shape_text per 0 128 (codes "header")) (c.requires.scale.scale d k)))
