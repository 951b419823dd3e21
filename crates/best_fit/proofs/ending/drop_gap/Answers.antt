-- The tile is dropped, and the window is cut.
use Rattle.best_fit.proofs.ending.DroppedGap.{drop_fits, gap_dropped, has_free_last}
use Rattle.best_fit.proofs.ending.drop_gap.Goals as goal

pub drop_last-size-requires-clause-tile : goal.drop_last-size-requires-clause-tile
drop_last-size-requires-clause-tile c = has_free_last c.args.touches.now.gaps.now.window c.requires.tree.0
    c.requires.tree.1 c.requires.tree.2 c.requires.tree.3 c.requires.tree.4

pub resize-requires : goal.resize-requires
resize-requires c = record {
  in_bounds = drop_fits c.args.touches.now.gaps.now.window c.requires.tree.0 c.requires.tree.1 c.requires.tree.2
      c.requires.tree.3 c.requires.tree.4 c.drop_last-size.ensures.tags;
}

pub returns-clause-changes : goal.returns-clause-changes
returns-clause-changes c =
    gap_dropped c.args.touches.now.gaps.now.window c.requires.tree.0 c.requires.tree.1 c.requires.tree.2
    c.requires.tree.3 c.requires.tree.4 c.drop_last-size.ensures.tags c.resize.new.self.gaps.now.window
    c.resize.ensures.cut
