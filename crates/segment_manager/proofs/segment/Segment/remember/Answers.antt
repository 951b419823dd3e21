-- The handle is an object's where a block in use has it that is for an object.
use Rattle.segment_manager.proofs.segment.Segment.remember.Goals as goal
use Rattle.segment_manager.proofs.Common.{refl, sym, ◌∙◌}
use Rattle.segment_manager.proofs.objects.Destroys.{dead-answers, role-answers}

pub returns-then-remember-clause-object : goal.returns-then-remember-clause-object
returns-then-remember-clause-object c = role-answers c.args.handle c.role.ensures c.eq.ensures

pub returns-clause-object : goal.returns-clause-object
returns-clause-object c =
    dead-answers c.args.handle (sym c.if-remember.false ∙ c.remember.ensures.live) refl
