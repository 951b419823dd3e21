use Rattle.std.proofs.Common.{sym, subst, ◌∙◌, ◌+◌}
use Rattle.best_fit.specs.FreeTree.{span}
use Rattle.segment_report.proofs.figures.Counts.{HasRoom, IsCounted, counted-all, counts-more, end_is, ends_by_size}
use Rattle.segment_report.proofs.figures.Counts.{has_room}
use Rattle.segment_report.proofs.figures.Counts.{next_is, tile_stands}
use Rattle.segment_report.proofs.tallies.tally_blocks.Goals as goal

pub next_tile-ahead-requires : goal.next_tile-ahead-requires
next_tile-ahead-requires c = tile_stands c.args.segment.now c.tiles.counter c.in-Some.tile c.tiles.ahead
    c.tiles.invariant.next c.in-Some.is

pub add-requires : goal.add-requires
add-requires c =
    let s = c.args.segment.now in
    let was = c.tiles.invariant in
    let room : HasRoom c.tiles.tally c.in-Some.tile.len =
    has_room s.cut.bytes c.tiles.tally c.tiles.counter was.counted (span c.in-Some.tile)
    (next_is s c.tiles.counter c.in-Some.tile c.tiles.ahead was.next c.in-Some.is) c.size_of-end.ensures.denotation in
    record { count = room.count; bytes = room.bytes }

pub tiles-preserved : goal.tiles-preserved
tiles-preserved c =
    let s = c.args.segment.now in
    let was = c.tiles.invariant in
    let more = counts-more s.cut.bytes c.tiles.tally c.tiles.counter was.counted (span c.in-Some.tile)
    (next_is s c.tiles.counter c.in-Some.tile c.tiles.ahead was.next c.in-Some.is) in
    record {
      next = c.next_tile-ahead.ensures c.tiles.counter (sym was.next.tile ∙ c.in-Some.is);
      counted = subst (λ t. IsCounted s.cut.bytes t (c.tiles.counter + 1)) (sym c.add.ensures) more;
    }

pub returns-after-tiles : goal.returns-after-tiles
returns-after-tiles c =
    let s = c.args.segment.now in
    record {
      answers = counted-all s.cut.bytes c.tiles.tally c.tiles.counter c.tiles.invariant.counted
          (ends_by_size s.cut.bytes s.mode c.size_of-end.result c.tiles.counter c.size_of-end.ensures.size.answers
          c.tiles-test.false);
    }

pub returns-in_default : goal.returns-in_default
returns-in_default c =
    let s = c.args.segment.now in
    record {
      answers = counted-all s.cut.bytes c.tiles.tally c.tiles.counter c.tiles.invariant.counted
          (end_is s c.tiles.counter c.tiles.ahead c.tiles.invariant.next c.in_default.is);
    }
