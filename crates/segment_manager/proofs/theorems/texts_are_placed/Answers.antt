-- The law, text by text.
use Rattle.segment_manager.proofs.theorems.texts_are_placed.Goals as goal
use Rattle.segment_manager.proofs.containers.MapSteps.{texts_are_placed}

pub returns : goal.returns
returns c = texts_are_placed
