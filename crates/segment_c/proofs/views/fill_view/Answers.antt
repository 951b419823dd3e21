-- What is said of the elements.
use Rattle.std.proofs.Common.{refl, subst}
use Rattle.std.specs.Prelude.{IfOk}
use Rattle.seg_types.specs.Keys.{key_seen}
use Rattle.segment_manager.specs.containers.ElementRuns.{IsRunOf}
use Rattle.segment_c.proofs.views.Places.{has-view}
use Rattle.segment_c.proofs.views.fill_view.Goals as goal

pub returns-in-Ok-clause-bytes : goal.returns-in-Ok-clause-bytes
returns-in-Ok-clause-bytes c = λ done. has-view c.args.segment.now (key_seen c.args._key.now) c.in-Ok.run' _
    (subst (λ r. IfOk r (IsRunOf c.args.segment.now (key_seen c.args._key.now))) c.in-Ok.is c.requires.bytes)
    (refl, refl, c.code.ensures)
