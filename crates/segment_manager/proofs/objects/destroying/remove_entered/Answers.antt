-- The entry leads to an object. After its contents are freed the index is unchanged, and its own block is in use.
use Rattle.segment_manager.proofs.objects.Destroys.{block-still, below-still, entry-below, entry-index, entry-object}
use Rattle.segment_manager.proofs.objects.Destroys.{index-still, removes-entry}
use Rattle.segment_manager.proofs.objects.destroying.remove_entered.Goals as goal

pub at-handle-requires-clause-index : goal.at-handle-requires-clause-index
at-handle-requires-clause-index c = entry-index c.requires

pub at-handle-requires-clause-in_range : goal.at-handle-requires-clause-in_range
at-handle-requires-clause-in_range c = entry-below c.args.heap.now c.requires

pub release_contents-requires : goal.release_contents-requires
release_contents-requires c = entry-object c.args.index c.args.place c.at-handle.ensures c.requires

pub remove-requires-clause-index : goal.remove-requires-clause-index
remove-requires-clause-index c = index-still c.at-handle.ensures c.release_contents.ensures c.requires

pub remove-requires-clause-in_range : goal.remove-requires-clause-in_range
remove-requires-clause-in_range c = below-still c.at-handle.ensures c.release_contents.ensures c.requires

pub deallocate-requires : goal.deallocate-requires
deallocate-requires c =
    block-still c.at-handle.ensures c.release_contents.ensures c.requires c.remove.new.heap c.remove.ensures.live

pub returns : goal.returns
returns c = removes-entry c.at-handle.ensures c.release_contents.ensures
    (record { removes = c.remove.ensures.index; live = c.remove.ensures.live; keeps = c.remove.ensures.frame })
    c.deallocate.ensures.released
