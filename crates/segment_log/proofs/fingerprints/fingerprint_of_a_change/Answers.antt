use Rattle.segment_log.proofs.fingerprints.Changes.{of_a_change}
use Rattle.segment_log.proofs.fingerprints.fingerprint_of_a_change.Goals as goal

pub returns : goal.returns
returns c = of_a_change
