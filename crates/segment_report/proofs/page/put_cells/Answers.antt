use Rattle.std.proofs.Common.{subst}
use Rattle.raw_region.specs.Device.{Writes}
use Rattle.segment_report.specs.Page.{cells_text}
use Rattle.segment_report.proofs.page.put_cells.Goals as goal

-- the number of elements is written as one of 64 bits
pub returns : goal.returns
returns g c =
    subst
    (λ n. Writes (g.W.Sink.history c.args.out.now) (g.W.Sink.history c.put_parts.new.out) c.put_parts.result
    (cells_text c.args.class.now c.args.name.now c.args.kind n c.args.handle))
    c.from.ensures c.put_parts.ensures
