use Rattle.std.proofs.Common.{ap, subst}
use Rattle.std.specs.Prelude.{flat_map}
use Rattle.raw_region.specs.Device.{Writes}
use Rattle.seg_types.specs.Kinds.{kinds}
use Rattle.segment_manager.specs.Directory.{Directory}
use Rattle.segment_report.specs.Objects.{count_of_kind, object_tally_of}
use Rattle.segment_report.specs.Stat.{counted_line, figures_text, kinds_text}
use Rattle.segment_report.specs.Usages.{tally_of}
use Rattle.segment_report.proofs.figures.Figures.{kinds-are}
use Rattle.segment_report.proofs.page.Output.{tells-cut, tells-text, tells-then}
use Rattle.segment_report.proofs.figures.stat.Goals as goal

pub returns-in_err-put_figures : goal.returns-in_err-put_figures
returns-in_err-put_figures g c =
    tells-cut c.args.segment.now (g.W.Sink.history c.args.out.now) (g.W.Sink.history c.put_figures.new.out) _
    c.from_residual.result
    (λ (d : Directory). figures_text d.size (tally_of d) (object_tally_of d) d.named.capacity d.unique.capacity)
    (λ (d : Directory). kinds_text (count_of_kind d.objects))
    c.from_residual.ensures.0 c.in_err-put_figures.ensures

pub returns : goal.returns
returns g c =
    let s = c.args.segment.now in
    let mid = g.W.Sink.history c.put_figures.new.out in
    let new = g.W.Sink.history c.put_kind_lines.new.out in
    let objects = c.tally_objects-objects.result in
    tells-then s (g.W.Sink.history c.args.out.now) mid new _ c.put_kind_lines.result
    (λ (d : Directory). figures_text d.size (tally_of d) (object_tally_of d) d.named.capacity d.unique.capacity)
    (λ (d : Directory). kinds_text (count_of_kind d.objects))
    c.in_ok-put_figures.ensures
    (tells-text s mid new c.put_kind_lines.result (flat_map (counted_line objects.kinds) kinds) (λ (d : Directory).
    kinds_text (count_of_kind d.objects))
    (subst (λ t. Writes mid new c.put_kind_lines.result t)
    (ap (flat_map (counted_line objects.kinds)) c.all_kinds.ensures) c.put_kind_lines.ensures)
    (kinds-are s objects c.tally_objects-objects.ensures))
