-- The law is the lemma.
use Rattle.segment_manager.proofs.theorems.objects_stay.Goals as goal
use Rattle.segment_manager.proofs.objects.ArrayItems.{objects_stay}

pub returns : goal.returns
returns c = objects_stay
