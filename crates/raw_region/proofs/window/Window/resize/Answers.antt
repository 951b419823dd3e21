use Rattle.raw_region.proofs.words.Windows.{resizes, stays_whole}
use Rattle.raw_region.proofs.window.Window.resize.Goals as goal

pub returns-clause-cut : goal.returns-clause-cut
returns-clause-cut c = resizes _ _ _ _ c.self.view_is c.self.invariant c.args.size

pub returns-clause-region : goal.returns-clause-region
returns-clause-region c = stays_whole _ _ _ _ c.self.view_is c.self.invariant c.args.size
