use Rattle.std.proofs.Common.{◌∙◌}
use Rattle.raw_region.proofs.words.Windows.{is_whole}
use Rattle.raw_region.proofs.window.Window.into_region.Goals as goal

pub returns : goal.returns
returns c = c.from_memory.ensures ∙ is_whole _ _ _ _ c.self.view_is c.self.invariant
