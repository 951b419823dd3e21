-- The law is the lemma.
use Rattle.segment_manager.proofs.directory.Unchanged.{step-reads, step_of_kind-reads}
use Rattle.segment_manager.proofs.theorems.reads_change_nothing.Goals as goal

pub returns : goal.returns
returns c = record { any_kind = step-reads; kind_fit = step_of_kind-reads }
