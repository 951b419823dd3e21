use Rattle.segment_lang.specs.Texts.{item_text}
use Rattle.raw_region.proofs.Laws.{writes-element}
use Rattle.segment_lang.proofs.texts.put_items.Goals as goal

pub returns-in_err-put_item : goal.returns-in_err-put_item
returns-in_err-put_item g c =
    writes-element item_text c.args.text.now c.items.byte-index 0 (g.S.Sink.history c.args.out.now)
    (g.S.Sink.history c.items.out) (g.S.Sink.history c.put_item.new.out) _ c.from_residual.result c.items-test.true
    c.items.invariant.taken c.items.invariant.failures c.from_residual.ensures.0 c.in_err-put_item.ensures
