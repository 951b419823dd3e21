use Rattle.segment_manager.specs.Directory.{Directory}
use Rattle.segment_report.specs.Objects.{object_tally_of}
use Rattle.segment_report.specs.Stat.{figures_text}
use Rattle.segment_report.specs.Usages.{tally_of}
use Rattle.segment_report.proofs.figures.Figures.{figures-are}
use Rattle.segment_report.proofs.page.Output.{tells-text}
use Rattle.segment_report.proofs.figures.put_figures.Goals as goal

pub returns : goal.returns
returns g c =
    let s = c.args.segment.now in
    tells-text s (g.W.Sink.history c.args.out.now) (g.W.Sink.history c.put_entries.new.out) c.put_entries.result
    (figures_text c.size_of.result c.tally_blocks-blocks.result c.args.objects.now c.named_capacity.result
    c.unique_capacity.result)
    (λ (d : Directory). figures_text d.size (tally_of d) (object_tally_of d) d.named.capacity d.unique.capacity)
    c.put_entries.ensures
    (figures-are s c.size_of.result c.tally_blocks-blocks.result c.args.objects.now c.named_capacity.result
    c.unique_capacity.result c.size_of.ensures.size c.tally_blocks-blocks.ensures c.requires.steps_lower
    c.named_capacity.ensures c.unique_capacity.ensures)
