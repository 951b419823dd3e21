use Rattle.std.proofs.Common.{sym, ◌∙◌}
use Rattle.best_fit.specs.Extents.{spans}
use Rattle.segment_manager.specs.Directory.{live}
use Rattle.segment_scripts.specs.Answer.{block_tokens}
use Rattle.segment_scripts.proofs.listing.Blocks.{IsEnd, end_is, ends_by_size, next_line, next_within, tile_stands}
use Rattle.segment_scripts.proofs.listing.Lines.{listing-cut, listing-done, listing-more, line_part}
use Rattle.segment_scripts.proofs.listing.Output.{of-start}
use Rattle.segment_scripts.proofs.listing.put_blocks.Goals as goal
use Rattle.segment_scripts.proofs.listing.put_blocks.Goals.{else-tiles-test, then-tiles-test+in_default}

pub tiles-init : goal.tiles-init
tiles-init g c = record {
  next = c.first_tile-ahead.ensures;
  told = of-start (λ d. line_part block_tokens (spans (live d)));
}

pub next_tile-ahead-requires : goal.next_tile-ahead-requires
next_tile-ahead-requires g c =
    tile_stands c.args.segment.now c.tiles.counter c.in-Some.tile c.tiles.ahead c.tiles.invariant.next c.in-Some.is

pub returns-in_err-put_tile : goal.returns-in_err-put_tile
returns-in_err-put_tile g c =
    let s = c.args.segment.now in
    let was = c.tiles.invariant in
    listing-cut s block_tokens (λ d.
    spans (live d)) c.tiles.counter was.told
    (next_line s c.tiles.counter c.in-Some.tile c.tiles.ahead was.next c.in-Some.is)
    (next_within s c.tiles.counter c.in-Some.tile c.tiles.ahead was.next c.in-Some.is) c.in_err-put_tile.ensures
    c.from_residual.ensures.0

pub tiles-preserved : goal.tiles-preserved
tiles-preserved g c =
    let s = c.args.segment.now in
    let was = c.tiles.invariant in
    record {
      next = c.next_tile-ahead.ensures c.tiles.counter (sym was.next.tile ∙ c.in-Some.is);
      told = listing-more s block_tokens (λ d. spans (live d)) c.tiles.counter was.told
          (next_line s c.tiles.counter c.in-Some.tile c.tiles.ahead was.next c.in-Some.is) c.in_ok-put_tile.ensures;
    }

pub returns : goal.returns
returns g c =
    let s = c.args.segment.now in
    let was = c.tiles.invariant in
    let all : IsEnd s.cut.bytes c.tiles.counter = elim c.tiles-test.branch [
      | else-tiles-test w ↦ ends_by_size s.cut.bytes s.mode c.size-end.result c.tiles.counter
          c.size-end.ensures.answers w.tiles-test.false
      | then-tiles-test+in_default w ↦ end_is s c.tiles.counter c.tiles.ahead was.next w.in_default.is
    ] in
    listing-done s block_tokens (λ d. spans (live d)) c.tiles.counter was.told all c.put_pieces.ensures
