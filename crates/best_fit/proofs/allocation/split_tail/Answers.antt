-- The tile is the one at its offset in each list of the tags.
use Rattle.best_fit.proofs.Common.{◌≡◌}
use Rattle.best_fit.proofs.tags.TileCuts.{changes_as, cut_list, kept_list, same_tags}
use Rattle.best_fit.proofs.allocation.split_tail.Goals as goal

pub returns-then-tile-len-clause-tags : goal.returns-then-tile-len-clause-tags
returns-then-tile-len-clause-tags c =
    let e : c.tile_at-tile.new.self.gaps.now.window ≡ c.args.touches.now.gaps.now.window = cc in
    changes_as (λ ts said. cut_list ts c.args.at c.args.len c.tile_at-tile.result (c.tile_at-tile.ensures.tile ts said)
    c.if-tile-len.true) (rw e at c.split.ensures.tags)

pub returns-else-tile-len-clause-tags : goal.returns-else-tile-len-clause-tags
returns-else-tile-len-clause-tags c =
    let w = c.args.touches.now.gaps.now.window in let e : c.tile_at-tile.new.self.gaps.now.window ≡ w = cc in
    rw e (changes_as (λ ts said. kept_list ts c.args.at c.args.len c.tile_at-tile.result
    (c.tile_at-tile.ensures.tile ts said) c.if-tile-len.false) (same_tags w))
