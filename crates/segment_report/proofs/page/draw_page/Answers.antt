use Rattle.std.proofs.Common.{◌++◌}
use Rattle.segment_manager.specs.Directory.{Directory}
use Rattle.segment_report.specs.Page.{figures_part, objects_part, picture_part}
use Rattle.segment_report.proofs.page.Output.{tells-cut, tells-then}
use Rattle.segment_report.proofs.page.draw_page.Goals as goal

pub returns-in_err-put_picture : goal.returns-in_err-put_picture
returns-in_err-put_picture g c =
    tells-cut c.args.segment.now (g.W.Sink.history c.args.out.now) (g.W.Sink.history c.put_picture.new.out) _
    c.from_residual.result picture_part
    (λ (d : Directory). figures_part d ++ objects_part d) c.from_residual.ensures.0 c.in_err-put_picture.ensures

pub returns-in_err-put_figures : goal.returns-in_err-put_figures
returns-in_err-put_figures g c =
    let s = c.args.segment.now in
    let begun = g.W.Sink.history c.put_picture.new.out in
    let ended = g.W.Sink.history c.put_figures.new.out in
    tells-then s (g.W.Sink.history c.args.out.now) begun ended _ c.from_residual-in_err-put_figures.result picture_part
    (λ (d : Directory). figures_part d ++ objects_part d) c.in_ok-put_picture.ensures
    (tells-cut s begun ended _ c.from_residual-in_err-put_figures.result figures_part objects_part
    c.from_residual-in_err-put_figures.ensures.0 c.in_err-put_figures.ensures)

pub returns : goal.returns
returns g c =
    let s = c.args.segment.now in
    let begun = g.W.Sink.history c.put_picture.new.out in
    let told = g.W.Sink.history c.put_figures.new.out in
    let ended = g.W.Sink.history c.put_objects.new.out in
    tells-then s (g.W.Sink.history c.args.out.now) begun ended _ c.put_objects.result picture_part
    (λ (d : Directory). figures_part d ++ objects_part d) c.in_ok-put_picture.ensures
    (tells-then s begun told ended _ c.put_objects.result figures_part objects_part c.in_ok-put_figures.ensures
    c.put_objects.ensures)
