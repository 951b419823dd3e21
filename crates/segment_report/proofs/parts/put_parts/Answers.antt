use Rattle.raw_region.proofs.Laws.{writes-element}
use Rattle.segment_report.specs.Parts.{part_text}
use Rattle.segment_report.proofs.parts.put_parts.Goals as goal

pub returns-in_err-put_part : goal.returns-in_err-put_part
returns-in_err-put_part g c =
    writes-element part_text c.args.parts.now c.parts.part-index _ (g.W.Sink.history c.args.out.now)
    (g.W.Sink.history c.parts.out) (g.W.Sink.history c.put_part.new.out) _ c.from_residual.result c.parts-test.true
    c.parts.invariant.taken c.parts.invariant.failures c.from_residual.ensures.0 c.in_err-put_part.ensures
