use Rattle.std.proofs.Common.{◌++◌}
use Rattle.segment_manager.specs.Directory.{Directory}
use Rattle.segment_report.specs.Picture.{end_text, prefix_text, spans_text}
use Rattle.segment_report.proofs.page.Output.{tells-cut, tells-then}
use Rattle.segment_report.proofs.picture.draw.Goals as goal

pub returns-in_err-put_prefix : goal.returns-in_err-put_prefix
returns-in_err-put_prefix g c =
    tells-cut c.args.segment.now (g.W.Sink.history c.args.out.now) (g.W.Sink.history c.put_prefix.new.out) _
    c.from_residual.result prefix_text (λ (d : Directory). spans_text d ++ end_text d)
    c.from_residual.ensures.0 c.in_err-put_prefix.ensures

pub returns-in_err-put_spans : goal.returns-in_err-put_spans
returns-in_err-put_spans g c =
    let s = c.args.segment.now in
    let begun = g.W.Sink.history c.put_prefix.new.out in
    let ended = g.W.Sink.history c.put_spans.new.out in
    tells-then s (g.W.Sink.history c.args.out.now) begun ended _ c.from_residual-in_err-put_spans.result prefix_text
    (λ (d : Directory). spans_text d ++ end_text d) c.in_ok-put_prefix.ensures
    (tells-cut s begun ended _ c.from_residual-in_err-put_spans.result spans_text end_text
    c.from_residual-in_err-put_spans.ensures.0 c.in_err-put_spans.ensures)

pub returns : goal.returns
returns g c =
    let s = c.args.segment.now in
    let begun = g.W.Sink.history c.put_prefix.new.out in
    let told = g.W.Sink.history c.put_spans.new.out in
    let ended = g.W.Sink.history c.put_end.new.out in
    tells-then s (g.W.Sink.history c.args.out.now) begun ended _ c.put_end.result prefix_text (λ (d : Directory).
    spans_text d ++ end_text d) c.in_ok-put_prefix.ensures
    (tells-then s begun told ended _ c.put_end.result spans_text end_text c.in_ok-put_spans.ensures c.put_end.ensures)
