-- Zero is no handle.
use Rattle.best_fit.proofs.Common.{arith, slot_of}
use Rattle.best_fit.proofs.block_hints.BlockHints.none_in.Goals as goal

pub returns : goal.returns
returns c = λ h n. let none = c.requires (slot_of 11 h) in let pos = n.0 in let is = n.1 in absurd (omega arith)
