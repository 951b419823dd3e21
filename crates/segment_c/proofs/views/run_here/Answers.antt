-- The run of the object with the handle, which is located in either way.
use Rattle.seg_types.specs.Names.{ByHandle}
use Rattle.segment_manager.proofs.Laws.{told-by_key}
use Rattle.segment_c.proofs.views.Places.{run-by_key, run_told}
use Rattle.segment_c.proofs.views.run_here.Goals as goal

pub returns-in-Ok-clause-run : goal.returns-in-Ok-clause-run
returns-in-Ok-clause-run c = told-by_key c.args.segment.now (ByHandle c.args.handle) c.in-Ok.object
    c.in-Ok.ensures.location (λ d. run_told) c.element_run_of.result c.element_run_of.ensures.run

pub returns-in-Ok-clause-bytes : goal.returns-in-Ok-clause-bytes
returns-in-Ok-clause-bytes c = run-by_key c.args.segment.now (ByHandle c.args.handle) c.in-Ok.object
    c.in-Ok.ensures.location c.element_run_of.result c.element_run_of.ensures.bytes
