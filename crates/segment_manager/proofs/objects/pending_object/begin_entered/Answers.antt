-- An object has the key, or one is begun.
use Rattle.segment_manager.proofs.objects.pending_object.begin_entered.Goals as goal
use Rattle.segment_manager.proofs.{indexes.Bridge.denotes-sorted_index, objects.Destroys.segment-index}
use Rattle.segment_manager.proofs.objects.Constructed.{key-short}

pub lookup-requires-clause-index : goal.lookup-requires-clause-index
lookup-requires-clause-index c = denotes-sorted_index c.args.index c.requires.segment.1.denotes

pub begin_at-requires-clause-index : goal.begin_at-requires-clause-index
begin_at-requires-clause-index c = segment-index c.args.index c.requires.segment

pub begin_at-requires-clause-max_len : goal.begin_at-requires-clause-max_len
begin_at-requires-clause-max_len c =
    key-short c.args.index c.args.entry c.requires.key.0 c.args.name.now c.args.shape.kind c.requires.key.1
