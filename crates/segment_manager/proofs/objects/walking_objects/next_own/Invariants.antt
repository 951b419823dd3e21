-- What was passed is no block of an object.
use Rattle.segment_manager.proofs.objects.walking_objects.next_own.Given as goal
use Rattle.segment_manager.proofs.blocks.OwnBlocks.{IsStill}

abbrev pub invariant-spans : goal.invariant-spans
invariant-spans l =
    (goal.iterator-spans).can_next l.tiles × (goal.iterator-spans).is_finite l.tiles × IsStill l.initial.tiles l.tiles
