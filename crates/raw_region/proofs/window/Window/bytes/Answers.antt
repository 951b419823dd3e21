use Rattle.std.proofs.Common.{◌∙◌}
use Rattle.raw_region.proofs.words.Windows.{reads}
use Rattle.raw_region.proofs.window.Window.bytes.Goals as goal

pub returns-clause-bytes : goal.returns-clause-bytes
returns-clause-bytes c = c.bytes.ensures.bytes
    ∙ reads _ _ _ _ c.self.view_is c.self.invariant c.args.from c.args.len c.requires
