-- The law, object by object.
use Rattle.segment_manager.proofs.objects.Heads.{entries_say_objects}
use Rattle.segment_manager.proofs.theorems.entries_say_objects.Goals as goal

pub returns : goal.returns
returns c = entries_say_objects
