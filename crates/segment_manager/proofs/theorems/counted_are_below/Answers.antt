-- The law is the lemmas.
use Rattle.segment_manager.proofs.theorems.counted_are_below.Goals as goal
use Rattle.segment_manager.proofs.objects.Destroys.{named-below, unique-below}

pub returns : goal.returns
returns c = record { named = named-below; unique = unique-below }
