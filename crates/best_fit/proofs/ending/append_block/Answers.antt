-- The window is longer, a free tile is added, and it is allocated.
use Rattle.best_fit.proofs.ending.LastBlock.{LongerWindow, longer_window}
use Rattle.best_fit.proofs.ending.append_block.Goals.{After-resize}
use Rattle.best_fit.proofs.ending.append_block.Goals as goal

-- the window is longer, and its front describes the tiles
longer : (c : After-resize) → LongerWindow c.args.touches.now.gaps.now.window c.args.extra c.size-size.result
    c.resize.new.self.gaps.now.window
longer c = longer_window c.args.touches.now.gaps.now.window c.args.extra c.requires.heap c.requires.min_len
    c.requires.multiple c.requires.max_size c.requires.in_bounds c.size-size.result c.size-size.ensures
    c.resize.new.self.gaps.now.window c.resize.ensures.cut

pub append_free-requires-clause-fits : goal.append_free-requires-clause-fits
append_free-requires-clause-fits c =
    (longer (goal.at.append_free-requires-clause-fits c).After-resize).room

pub set_use-requires-clause-tile : goal.set_use-requires-clause-tile
set_use-requires-clause-tile c =
    (longer (goal.at.set_use-requires-clause-tile c).After-resize).used
    c.append_free.new.self.gaps.now.window c.append_free.ensures.tags

pub returns-clause-block : goal.returns-clause-block
returns-clause-block c =
    ((longer (goal.at.returns-clause-block c).After-resize).block
    c.append_free.new.self.gaps.now.window c.append_free.ensures.tags c.set_use.new.self.gaps.now.window
    c.set_use.ensures.tags).0

pub returns-clause-gaps : goal.returns-clause-gaps
returns-clause-gaps c =
    ((longer (goal.at.returns-clause-gaps c).After-resize).block
    c.append_free.new.self.gaps.now.window c.append_free.ensures.tags c.set_use.new.self.gaps.now.window
    c.set_use.ensures.tags).1
