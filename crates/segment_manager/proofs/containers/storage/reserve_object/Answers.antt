-- A segment that is open for reading refuses the call.
use Rattle.seg_types.specs.Commands as asked
use Rattle.segment_manager.proofs.containers.storage.reserve_object.Goals as goal
use Rattle.segment_manager.proofs.{Common.refl, Common.sym, Common.◌∙◌, directory.AnyDirectory.refuses-read_only}
use Rattle.segment_manager.specs.objects.BoundObjects.{key_of}

pub returns-then-is_read_only-clause-step : goal.returns-then-is_read_only-clause-step
returns-then-is_read_only-clause-step c = refuses-read_only c.args.segment.now
    (asked.Reserve (key_of c.args.object) c.args.n) (sym c.is_read_only.ensures ∙ c.if-is_read_only.true) refl
