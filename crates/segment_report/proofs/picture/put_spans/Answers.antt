use Rattle.std.proofs.Common.{◌++◌, sym, ◌∙◌}
use Rattle.best_fit.specs.Extents.{spans}
use Rattle.best_fit.specs.FreeTree.{span}
use Rattle.segment_manager.specs.Directory.{Directory, live}
use Rattle.segment_report.specs.Picture.{object_in, object_label, shape_text, sort_of, span_text}
use Rattle.segment_report.proofs.figures.Counts.{end_is, ends_by_size, next_is, tile_stands}
use Rattle.segment_report.proofs.picture.Blocks.{has-owner, lies-in, next-text}
use Rattle.segment_report.proofs.page.Output.{told-all, told-cut, told-more}
use Rattle.segment_report.proofs.picture.put_spans.Goals as goal

pub put_tile-requires-clause-non_empty : goal.put_tile-requires-clause-non_empty
put_tile-requires-clause-non_empty g c =
    let s = c.args.segment.now in
    let was = c.tiles.invariant in
    (lies-in s.cut.bytes c.tiles.counter (span c.in-Some.tile) c.size_of-end.ensures.denotation
    (next_is s c.tiles.counter c.in-Some.tile c.tiles.ahead was.next c.in-Some.is)).some

pub put_tile-requires-clause-in_bounds : goal.put_tile-requires-clause-in_bounds
put_tile-requires-clause-in_bounds g c =
    let s = c.args.segment.now in
    let was = c.tiles.invariant in
    (lies-in s.cut.bytes c.tiles.counter (span c.in-Some.tile) c.size_of-end.ensures.denotation
    (next_is s c.tiles.counter c.in-Some.tile c.tiles.ahead was.next c.in-Some.is)).inside

pub put_tile-requires-clause-object : goal.put_tile-requires-clause-object
put_tile-requires-clause-object g c =
    let s = c.args.segment.now in
    has-owner s c.tiles.counter (span c.in-Some.tile)
    (next_is s c.tiles.counter c.in-Some.tile c.tiles.ahead c.tiles.invariant.next c.in-Some.is)

pub next_tile-ahead-requires : goal.next_tile-ahead-requires
next_tile-ahead-requires g c =
    tile_stands c.args.segment.now c.tiles.counter c.in-Some.tile c.tiles.ahead c.tiles.invariant.next c.in-Some.is

pub returns-in_err-put_tile : goal.returns-in_err-put_tile
returns-in_err-put_tile g c =
    let s = c.args.segment.now in
    let was = c.tiles.invariant in
    let t = c.in-Some.tile in
    let next = next-text s c.args.scale.row c.requires.scale c.tiles.counter (span t)
    (next_is s c.tiles.counter t c.tiles.ahead was.next c.in-Some.is) in
    told-cut s (λ (d : Directory). spans (live d)) span_text (g.W.Sink.history c.args.out.now)
    (g.W.Sink.history c.tiles.out) (g.W.Sink.history c.put_tile.new.out) c.tiles.counter was.told
    (λ (d : Directory). shape_text c.args.scale.row t.offset t.len (sort_of t.use_of)
    ++ object_label c.args.scale.row t.offset t.len (object_in d t.use_of t.offset)) next
    _ c.from_residual.result c.from_residual.ensures.0 c.in_err-put_tile.ensures

pub tiles-preserved : goal.tiles-preserved
tiles-preserved g c =
    let s = c.args.segment.now in
    let was = c.tiles.invariant in
    let t = c.in-Some.tile in
    let next = next-text s c.args.scale.row c.requires.scale c.tiles.counter (span t)
    (next_is s c.tiles.counter t c.tiles.ahead was.next c.in-Some.is) in
    record {
      next = c.next_tile-ahead.ensures c.tiles.counter (sym was.next.tile ∙ c.in-Some.is);
      told = told-more s (λ (d : Directory). spans (live d)) span_text (g.W.Sink.history c.args.out.now)
          (g.W.Sink.history c.tiles.out) (g.W.Sink.history c.put_tile.new.out) c.tiles.counter was.told
          (λ (d : Directory). shape_text c.args.scale.row t.offset t.len (sort_of t.use_of)
          ++ object_label c.args.scale.row t.offset t.len (object_in d t.use_of t.offset)) next
          _ c.in_ok-put_tile.ensures;
    }

pub returns-after-tiles : goal.returns-after-tiles
returns-after-tiles g c =
    let s = c.args.segment.now in
    told-all s (λ (d : Directory). spans (live d)) span_text (g.W.Sink.history c.args.out.now)
    (g.W.Sink.history c.tiles.out) c.tiles.counter tt c.tiles.invariant.told
    (ends_by_size s.cut.bytes s.mode c.size_of-end.result c.tiles.counter c.size_of-end.ensures.size.answers
    c.tiles-test.false)

pub returns-in_default : goal.returns-in_default
returns-in_default g c =
    let s = c.args.segment.now in
    told-all s (λ (d : Directory). spans (live d)) span_text (g.W.Sink.history c.args.out.now)
    (g.W.Sink.history c.tiles.out) c.tiles.counter tt c.tiles.invariant.told
    (end_is s c.tiles.counter c.tiles.ahead c.tiles.invariant.next c.in_default.is)
