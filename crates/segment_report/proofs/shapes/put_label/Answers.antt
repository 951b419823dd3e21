use Rattle.std.proofs.Common.{◌++◌}
use Rattle.std.specs.Prelude.{codes}
use Rattle.seg_types.specs.Texts.{kind_text}
use Rattle.raw_region.proofs.Laws.{writes-cut, writes-then}
use Rattle.segment_report.specs.Parts.{xml_text}
use Rattle.segment_report.specs.Picture.{called, frame_text}
use Rattle.segment_report.proofs.shapes.put_label.Goals as goal

pub returns-in_err-put_frame : goal.returns-in_err-put_frame
returns-in_err-put_frame g c =
    let said = c.args.said in
    writes-cut (g.W.Sink.history c.args.out.now) (g.W.Sink.history c.put_frame.new.out) _ c.from_residual.result
    (frame_text c.args.scale.row c.args.from c.args.len)
    (called said.class said.name.now said.handle ++ (xml_text (kind_text said.kind) ++ codes "</text></svg>\n"))
    c.from_residual.ensures.0 c.in_err-put_frame.ensures

pub returns-in_err-put_called : goal.returns-in_err-put_called
returns-in_err-put_called g c =
    let said = c.args.said in
    let name = called said.class said.name.now said.handle in
    let rest = xml_text (kind_text said.kind) ++ codes "</text></svg>\n" in
    let framed = g.W.Sink.history c.put_frame.new.out in
    let ended = g.W.Sink.history c.put_called.new.out in
    writes-then (g.W.Sink.history c.args.out.now) framed ended _ c.from_residual-in_err-put_called.result
    (frame_text c.args.scale.row c.args.from c.args.len) (name ++ rest) c.in_ok-put_frame.ensures
    (writes-cut framed ended _ c.from_residual-in_err-put_called.result name rest
    c.from_residual-in_err-put_called.ensures.0 c.in_err-put_called.ensures)

pub returns : goal.returns
returns g c =
    let said = c.args.said in
    let name = called said.class said.name.now said.handle in
    let rest = xml_text (kind_text said.kind) ++ codes "</text></svg>\n" in
    let framed = g.W.Sink.history c.put_frame.new.out in
    let named = g.W.Sink.history c.put_called.new.out in
    let ended = g.W.Sink.history c.put_parts.new.out in
    writes-then (g.W.Sink.history c.args.out.now) framed ended _ c.put_parts.result
    (frame_text c.args.scale.row c.args.from c.args.len) (name ++ rest) c.in_ok-put_frame.ensures
    (writes-then framed named ended _ c.put_parts.result name rest c.in_ok-put_called.ensures c.put_parts.ensures)
