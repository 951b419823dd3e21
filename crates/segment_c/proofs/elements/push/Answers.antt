-- What is not refused by its kind is done.
use Rattle.segment_c.proofs.elements.push.Goals as goal
use Rattle.seg_types.specs.{Keys.key_seen, Values.kind_of_scalar, declared.kinds.Kind.TheVariants.Vector}
use Rattle.segment_manager.specs.Answers.{Done, Refused}
use Rattle.segment_c.proofs.views.OwnKinds.{pushed-step}

pub returns-in-Ok-clause-step : goal.returns-in-Ok-clause-step
returns-in-Ok-clause-step c = pushed-step c.args.segment.now c.push_own.new.segment (key_seen c.args.key.now)
    (Vector (kind_of_scalar c.args.value)) _ Done (λ e. cc) c.in-Ok.ensures.step

pub returns-in_default-clause-step : goal.returns-in_default-clause-step
returns-in_default-clause-step c = pushed-step c.args.segment.now c.push_own.new.segment (key_seen c.args.key.now)
    (Vector (kind_of_scalar c.args.value)) _ (Refused c.in-Err.why) (λ e. c.in_default.not-WrongKind (cc))
    c.in-Err.ensures.step
