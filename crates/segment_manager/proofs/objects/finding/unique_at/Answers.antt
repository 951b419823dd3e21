-- The entry of the index is that of the directory.
use Rattle.segment_manager.proofs.objects.finding.unique_at.Goals as goal
use Rattle.segment_manager.proofs.{Common.Unique, objects.Destroys.at-answers, objects.Destroys.segment-index}

pub at-requires-clause-index : goal.at-requires-clause-index
at-requires-clause-index c = segment-index Unique c.segment.invariant

pub returns : goal.returns
returns c = at-answers c.segment.view_is Unique c.args.i c.at.ensures
