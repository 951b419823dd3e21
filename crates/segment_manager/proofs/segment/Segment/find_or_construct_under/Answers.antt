-- The call on the heap, under the key that the object gets, as one on the segment.
use Rattle.segment_manager.proofs.segment.Segment.find_or_construct_under.Goals as goal
use Rattle.segment_manager.proofs.{containers.KeptContainers.keeps-cut, directory.AnyDirectory.refuses-read_only}
use Rattle.segment_manager.proofs.{objects.FilledCalls.made-segment, segment.Segment.find_or_construct_under.Given.Over}
use Rattle.segment_manager.proofs.Common.{FindsOrConstructs, IsOfKind, Key, ap, bare, index_key_seen, kind_of, refl}
use Rattle.segment_manager.proofs.Common.{subst, sym, ◌∙◌}
use Rattle.segment_manager.specs.Keeping.{IsBoundKey}
use Rattle.segment_manager.proofs.segment.Segment.find_or_construct_under.Goals.{After-find_or_construct_entered}

-- the effect of the call, under the key of the object's kind
done : (g : Over) (c : After-find_or_construct_entered g)
    → FindsOrConstructs c.self.inside.heap c.find_or_construct_entered.new.heap
    (g.D.ConstructKey.key c.args.key.now (kind_of (bare (g.F.ObjectInit.content c.args.filling.now))))
    (g.F.ObjectInit.content c.args.filling.now) c.find_or_construct_entered.result
done g c = subst (λ (key : Key). FindsOrConstructs c.self.inside.heap c.find_or_construct_entered.new.heap key
    (g.F.ObjectInit.content c.args.filling.now) c.find_or_construct_entered.result)
    (c.entry_for-key.ensures.key ∙ ap (g.D.ConstructKey.key c.args.key.now) c.shape.ensures.kind)
    (c.find_or_construct_entered.ensures (index_key_seen c.entry_for-key.result) (c.entry_of-index.ensures.new _
    (subst (IsOfKind (index_key_seen c.entry_for-key.result)) c.shape.ensures.kind c.entry_for-key.ensures.kind)))

pub returns-then-is_read_only-clause-step : goal.returns-then-is_read_only-clause-step
returns-then-is_read_only-clause-step g c =
    refuses-read_only _ _ (sym c.is_read_only.ensures ∙ c.if-is_read_only.true) refl

pub invariant_of-self : goal.invariant_of-self
invariant_of-self g c =
    made-segment c.self.view_is (done g (goal.at.invariant_of-self g c).After-find_or_construct_entered).constructs
    (sym c.is_read_only.ensures ∙ c.if-is_read_only.false) c.self.invariant

pub returns-clause-search : goal.returns-clause-search
returns-clause-search g c = keeps-cut _ _ c.self.view_is c.find_or_construct_entered.new.heap
    (IsBoundKey (g.D.ConstructKey.key c.args.key.now (kind_of (bare (g.F.ObjectInit.content c.args.filling.now)))))
    (done g (goal.at.returns-clause-search g c).After-find_or_construct_entered).found
