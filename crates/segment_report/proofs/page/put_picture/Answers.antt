use Rattle.std.proofs.Common.{refl}
use Rattle.segment_manager.specs.Directory.{Directory}
use Rattle.segment_report.specs.Page.{page_head}
use Rattle.segment_report.specs.Picture.{picture_of}
use Rattle.segment_report.proofs.page.Output.{tells-cut, tells-text, tells-then}
use Rattle.segment_report.proofs.page.put_picture.Goals as goal

pub returns-in_err-put_head : goal.returns-in_err-put_head
returns-in_err-put_head g c =
    let s = c.args.segment.now in
    let old = g.W.Sink.history c.args.out.now in
    let mid = g.W.Sink.history c.put_head.new.out in
    tells-cut s old mid _ c.from_residual.result (λ (d : Directory). page_head) picture_of c.from_residual.ensures.0
    (tells-text s old mid _ page_head (λ (d : Directory). page_head) c.in_err-put_head.ensures (λ d k. refl))

pub returns : goal.returns
returns g c =
    let s = c.args.segment.now in
    let old = g.W.Sink.history c.args.out.now in
    let mid = g.W.Sink.history c.put_head.new.out in
    tells-then s old mid (g.W.Sink.history c.draw.new.out) _ c.draw.result (λ (d : Directory). page_head) picture_of
    (tells-text s old mid _ page_head (λ (d : Directory). page_head) c.in_ok-put_head.ensures (λ d k. refl))
    c.draw.ensures
