-- The run of the located object, and its bytes.
use Rattle.segment_manager.proofs.containers.element_runs.element_run_of.Goals as goal
use Rattle.segment_manager.proofs.{Common.current, containers.ElementRuns.run-answers, containers.ElementRuns.run-bytes}
use Rattle.segment_manager.proofs.directory.AnyDirectory.{denotes-heap}
use Rattle.segment_manager.proofs.objects.{Destroys.seen-object, Locating.handle-located, Locating.located-there}
use Rattle.segment_manager.specs.objects.BoundObjects.{key_of}

pub read_run-requires-clause-heap : goal.read_run-requires-clause-heap
read_run-requires-clause-heap c =
    denotes-heap current c.segment.inside.heap.bytes c.segment.invariant.0 c.segment.invariant.1.denotes

pub read_run-requires-clause-object : goal.read_run-requires-clause-object
read_run-requires-clause-object c = seen-object _ _ c.segment.view_is (key_of c.args.object) _ c.segment.invariant
    (handle-located (key_of c.args.object) c.requires)

pub read_run-requires-clause-text : goal.read_run-requires-clause-text
read_run-requires-clause-text c =
    located-there c.segment.view_is (key_of c.args.object) c.segment.invariant c.requires

pub returns-clause-run : goal.returns-clause-run
returns-clause-run c = run-answers c.segment.view_is (key_of c.args.object)
    (handle-located (key_of c.args.object) c.requires) c.read_run.ensures

pub returns-clause-bytes : goal.returns-clause-bytes
returns-clause-bytes c = run-bytes c.segment.view_is (key_of c.args.object) c.read_run.result c.segment.invariant
    (run-answers c.segment.view_is (key_of c.args.object) (handle-located (key_of c.args.object) c.requires)
    c.read_run.ensures)
