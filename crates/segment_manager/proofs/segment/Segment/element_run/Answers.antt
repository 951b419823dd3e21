-- The run of the object that is found is the key's.
use Rattle.segment_manager.proofs.containers.ElementRuns.{run-by_key}
use Rattle.segment_manager.proofs.segment.Segment.element_run.Goals as goal

pub returns : goal.returns
returns g c = run-by_key _ _ _ c.in_ok-object.ensures c.element_run_of.ensures.run c.element_run_of.ensures.bytes
