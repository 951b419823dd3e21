-- The entry of the index is that of the directory.
use Rattle.segment_manager.proofs.objects.finding.named_at.Goals as goal
use Rattle.segment_manager.proofs.{Common.Named, objects.Destroys.at-answers, objects.Destroys.segment-index}

pub at-requires-clause-index : goal.at-requires-clause-index
at-requires-clause-index c = segment-index Named c.segment.invariant

pub returns : goal.returns
returns c = at-answers c.segment.view_is Named c.args.i c.at.ensures
