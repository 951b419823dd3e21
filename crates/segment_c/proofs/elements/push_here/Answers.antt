-- What is pushed within the capacity is done.
use Rattle.segment_c.proofs.elements.push_here.Goals as goal
use Rattle.std.proofs.{Common.subst, Common.w64, Common.ℤ, lemmas.Int.to_z-of_z}
use Rattle.seg_types.specs.{declared.kinds.Kind.TheVariants.Vector, declared.kinds.ScalarKind.TheVariants.I64}
use Rattle.seg_types.specs.{Commands.Integer, Commands.Push, Names.ByHandle}
use Rattle.segment_manager.specs.{Answers.Done, State.TakesStepOfKind}
use Rattle.segment_c.proofs.views.OwnKinds.{pushed-step}

-- the call passes its own number on
pub returns-then-is_remembered-clause-step : goal.returns-then-is_remembered-clause-step
returns-then-is_remembered-clause-step c = λ done. pushed-step c.args.segment.now c.push_within.new.segment
    (ByHandle c.args.handle) (Vector I64) (Integer c.args.number) Done (λ e. cc)
    (subst (λ (z : ℤ). TakesStepOfKind c.args.segment.now c.push_within.new.segment (ByHandle c.args.handle)
    (Vector I64) (Push (ByHandle c.args.handle) (Integer z)) Done) (to_z-of_z w64 c.args.number c.ranges.number)
    (c.push_within.ensures.step done))
