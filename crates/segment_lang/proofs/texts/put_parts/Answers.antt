use Rattle.segment_lang.specs.Pieces.{part_text}
use Rattle.raw_region.proofs.Laws.{writes-element}
use Rattle.segment_lang.proofs.texts.put_parts.Goals as goal

pub returns-in_err-write_all : goal.returns-in_err-write_all
returns-in_err-write_all g c =
    writes-element part_text c.args.parts.now c.parts.part-index _ (g.S.Sink.history c.args.out.now)
    (g.S.Sink.history c.parts.out) (g.S.Sink.history c.write_all.new.sink) _ c.from_residual.result
    c.parts-test.true c.parts.invariant.taken c.parts.invariant.failures c.from_residual.ensures.0
    c.in_err-write_all.ensures
