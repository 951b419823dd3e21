use Rattle.std.proofs.Common.{◌≡◌, ◌-◌, ◌+◌, Bool, ap, refl, sym, subst, ◌∙◌, length, arith}
use Rattle.raw_region.specs.Memory.{bytes_of}
use Rattle.block_tags.specs.Tiles.{tile_of_word}
use Rattle.block_tags.proofs.tiles.TagWalk.{Walking, starts, stops, goes_on, ends, none_of}
use Rattle.block_tags.proofs.checking.check_tags.Goals as goal

pub tags-init : goal.tags-init
tags-init c = rw c.requires.start
    (starts _ _ _ _ c.requires.size (ap (λ n. n - 16) c.size-end.ensures), omega arith, refl)

pub returns-then-not-is_good-clause-good : goal.returns-then-not-is_good-clause-good
returns-then-not-is_good-clause-good c =
    let said = c.is_good.ensures _ c.read-tag.ensures.previous c.read-tag.ensures.word in
    let stop = stops _ _ _ _ _ _ _ _ c.tags.invariant.0 c.tags-test.true (sym said ∙ c.if-not-is_good.true) in
    rw c.tags.invariant.2 at (sym stop.0)

pub returns-then-not-is_good-clause-read : goal.returns-then-not-is_good-clause-read
returns-then-not-is_good-clause-read c =
    let said = c.is_good.ensures _ c.read-tag.ensures.previous c.read-tag.ensures.word in
    let stop = stops _ _ _ _ _ _ _ _ c.tags.invariant.0 c.tags-test.true (sym said ∙ c.if-not-is_good.true) in
    c.count.ensures ∙ c.read-tag.ensures.tags ∙ (rw c.tags.invariant.2 at stop.1)

pub returns-then-not-is_good-clause-stop : goal.returns-then-not-is_good-clause-stop
returns-then-not-is_good-clause-stop c = λ _.
    let said = c.is_good.ensures _ c.read-tag.ensures.previous c.read-tag.ensures.word in
    let stop = stops _ _ _ _ _ _ _ _ c.tags.invariant.0 c.tags-test.true (sym said ∙ c.if-not-is_good.true) in
    rw c.tags.invariant.2 at stop.2

pub overflow_add-at : goal.overflow_add-at
overflow_add-at c =
    let said = c.is_good.ensures _ c.read-tag.ensures.previous c.read-tag.ensures.word in
    let tile = c.tile_of_word-tile.ensures ∙ ap (tile_of_word c.tags.at) c.read-tag.ensures.word in
    let g = goes_on _ _ _ _ _ _ _ _ c.tags.invariant.0 c.tags-test.true (sym said ∙ c.if-not-is_good.false) _ tile in
    let inside = g.inside in omega arith

pub tags-smaller : goal.tags-smaller
tags-smaller c =
    let said = c.is_good.ensures _ c.read-tag.ensures.previous c.read-tag.ensures.word in
    let tile = c.tile_of_word-tile.ensures ∙ ap (tile_of_word c.tags.at) c.read-tag.ensures.word in
    let g = goes_on _ _ _ _ _ _ _ _ c.tags.invariant.0 c.tags-test.true (sym said ∙ c.if-not-is_good.false) _ tile in
    let inside = g.inside in let long = g.long in omega arith

pub tags-preserved : goal.tags-preserved
tags-preserved c =
    let said = c.is_good.ensures _ c.read-tag.ensures.previous c.read-tag.ensures.word in
    let tile = c.tile_of_word-tile.ensures ∙ ap (tile_of_word c.tags.at) c.read-tag.ensures.word in
    let g = goes_on _ _ _ _ _ _ _ _ c.tags.invariant.0 c.tags-test.true (sym said ∙ c.if-not-is_good.false) _ tile in
    let t = c.tile_of_word-tile.result in
    let b = c.tags.reader.window.now.bytes in
    let long = g.long in
    rw (c.read-tag.ensures.window, c.read-tag.ensures.tags) (
      subst (λ (f : Bool). Walking c.args.format (bytes_of b) (length b) (c.size-end.result - 16)
          (c.tags.at + t.len) t.len f (c.tags.reader.tags + 1 + 1)) (none_of t.use_of _ c.is_none-behind_free.ensures)
          g.next,
      omega arith,
      c.tags.invariant.2,
    )

pub returns-clause-good : goal.returns-clause-good
returns-clause-good c =
    let end = rw (c.read-last.ensures.previous, c.read-last.ensures.word) at c.is_end-are_good.ensures in
    rw c.tags.invariant.2 at (end ∙ sym (ends _ _ _ _ _ _ _ _ c.tags.invariant.0 c.tags-test.false).said)

pub returns-clause-read : goal.returns-clause-read
returns-clause-read c =
    let good = (ends _ _ _ _ _ _ _ _ c.tags.invariant.0 c.tags-test.false).good in
    c.count-2.ensures ∙ c.read-last.ensures.tags ∙ (rw c.tags.invariant.2 at good)

pub returns-clause-tiles : goal.returns-clause-tiles
returns-clause-tiles c = λ _.
    let tiles = (ends _ _ _ _ _ _ _ _ c.tags.invariant.0 c.tags-test.false).tiles in
    c.count-2.ensures ∙ c.read-last.ensures.tags ∙ (rw c.tags.invariant.2 at tiles)

pub returns-clause-stop : goal.returns-clause-stop
returns-clause-stop c = λ f.
    let end = rw (c.read-last.ensures.previous, c.read-last.ensures.word) at c.is_end-are_good.ensures in
    let stop = (ends _ _ _ _ _ _ _ _ c.tags.invariant.0 c.tags-test.false).stops (sym end ∙ f) in
    rw c.tags.invariant.2 at stop
