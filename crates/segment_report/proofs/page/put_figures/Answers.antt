use Rattle.std.proofs.Common.{refl}
use Rattle.segment_manager.specs.Directory.{Directory}
use Rattle.segment_report.specs.Page.{figures_head}
use Rattle.segment_report.specs.Stat.{stat_text}
use Rattle.segment_report.proofs.page.Output.{tells-cut, tells-text, tells-then}
use Rattle.segment_report.proofs.page.put_figures.Goals as goal

pub returns-in_err-put_figures_head : goal.returns-in_err-put_figures_head
returns-in_err-put_figures_head g c =
    let s = c.args.segment.now in
    let old = g.W.Sink.history c.args.out.now in
    let mid = g.W.Sink.history c.put_figures_head.new.out in
    tells-cut s old mid _ c.from_residual.result (λ (d : Directory). figures_head) stat_text c.from_residual.ensures.0
    (tells-text s old mid _ figures_head (λ (d : Directory). figures_head) c.in_err-put_figures_head.ensures (λ d k.
    refl))

pub returns : goal.returns
returns g c =
    let s = c.args.segment.now in
    let old = g.W.Sink.history c.args.out.now in
    let mid = g.W.Sink.history c.put_figures_head.new.out in
    tells-then s old mid (g.W.Sink.history c.stat.new.out) _ c.stat.result (λ (d : Directory). figures_head) stat_text
    (tells-text s old mid _ figures_head (λ (d : Directory). figures_head) c.in_ok-put_figures_head.ensures (λ d k.
    refl)) c.stat.ensures
