use Rattle.std.proofs.Common.{ap, ◌∙◌, List, ℕ}
use Rattle.raw_region.specs.Memory.{cut_at}
use Rattle.raw_region.proofs.words.Windows.{all-zeros}
use Rattle.raw_region.proofs.window.Window.zeroed.Goals as goal

pub returns-else-not-clean-clause-cut : goal.returns-else-not-clean-clause-cut
returns-else-not-clean-clause-cut c =
    let taken = c.into_memory-memory.ensures in
    ap (λ (l : List ℕ). cut_at l c.args.base c.args.size) taken.memory
    ∙ all-zeros c.args.region c.args.base c.args.size c.requires.in_bounds (taken.clean.zeros c.if-not-clean.false)
