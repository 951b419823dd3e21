use Rattle.segment_dump.proofs.building.start_under.Goals as goal
use Rattle.segment_dump.proofs.Common.{sym, ap, subst, ◌∙◌, Ok, IfOk}
use Rattle.segment_manager.specs.State.{IsSegment}
use Rattle.segment_dump.specs.Builders.{HasObjectAt}
use Rattle.segment_dump.proofs.{texts.Options.never-ok, texts.Options.ok-same, building.NewObjects.shape-unread}
use Rattle.segment_dump.proofs.{building.NewObjects.started}

pub returns-in_err-shape-clause-start : goal.returns-in_err-shape-clause-start
returns-in_err-shape-clause-start g c =
    shape-unread c.args.segment.now c.args.segment.now (g.D.ConstructKey.key c.args.under.now) c.args.tokens.now _
    c.from_residual.result c.in_err-shape.ensures

pub returns-in-Ok-clause-start : goal.returns-in-Ok-clause-start
returns-in-Ok-clause-start g c =
    started c.args.segment.now c.construct.new.segment (g.D.ConstructKey.key c.args.under.now) c.args.tokens.now
    c.in_ok-shape.shape c.construct.result _ c.in_ok-shape.ensures c.construct.ensures.step
    (λ h e. ap (λ x. Ok (x, c.in_ok-shape.shape)) (ok-same _ h (sym c.in-Ok.is ∙ e)))

pub returns-in-Err-clause-start : goal.returns-in-Err-clause-start
returns-in-Err-clause-start g c =
    started c.args.segment.now c.construct.new.segment (g.D.ConstructKey.key c.args.under.now) c.args.tokens.now
    c.in_ok-shape.shape c.construct.result _ c.in_ok-shape.ensures c.construct.ensures.step
    (λ h e. absurd (never-ok _ h (sym c.in-Err.is ∙ e)))

pub construct-requires-clause-segment : goal.construct-requires-clause-segment
construct-requires-clause-segment g c = subst IsSegment c.as_bytes.ensures.bytes c.as_bytes.ensures.denotation

pub returns-in-Ok-clause-in_place : goal.returns-in-Ok-clause-in_place
returns-in-Ok-clause-in_place g c =
    subst (λ r. IfOk r (HasObjectAt c.construct.new.segment)) c.in-Ok.is c.construct.ensures.in_place
