-- The law is the lemma.
use Rattle.segment_manager.proofs.directory.Unchanged.{refused-stays}
use Rattle.segment_manager.proofs.theorems.steps_lead_on.Goals as goal

pub returns-clause-refused : goal.returns-clause-refused
returns-clause-refused c = refused-stays
