use Rattle.std.proofs.Common.{[], ◌∷◌, ◌++◌}
use Rattle.std.specs.List.{flat_map}
use Rattle.segment_lang.specs.Texts.{item_text}
use Rattle.raw_region.proofs.Laws.{writes-cut, writes-then}
use Rattle.segment_lang.proofs.texts.put_text.Goals as goal

pub returns-in_err-put_items : goal.returns-in_err-put_items
returns-in_err-put_items g c =
    let text = flat_map item_text c.args.text.now in
    let start = g.S.Sink.history c.args.out.now in
    let opened = g.S.Sink.history c.write_all.new.sink in
    let ended = g.S.Sink.history c.put_items.new.out in
    writes-then start opened ended _ c.from_residual-in_err-put_items.result (34 ∷ []) (text ++ 34 ∷ [])
    c.in_ok-write_all.ensures
    (writes-cut opened ended _ c.from_residual-in_err-put_items.result text (34 ∷ [])
    c.from_residual-in_err-put_items.ensures.0 c.in_err-put_items.ensures)

pub returns : goal.returns
returns g c =
    let text = flat_map item_text c.args.text.now in
    let start = g.S.Sink.history c.args.out.now in
    let opened = g.S.Sink.history c.write_all.new.sink in
    let filled = g.S.Sink.history c.put_items.new.out in
    let closed = g.S.Sink.history c.write_all-2.new.sink in
    writes-then start opened closed _ c.write_all-2.result (34 ∷ []) (text ++ 34 ∷ []) c.in_ok-write_all.ensures
    (writes-then opened filled closed _ c.write_all-2.result text (34 ∷ []) c.in_ok-put_items.ensures
    c.write_all-2.ensures)
