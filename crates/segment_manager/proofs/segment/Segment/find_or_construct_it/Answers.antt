-- The call on the heap, under the key that the object gets, as one on the segment.
use Rattle.segment_manager.proofs.segment.Segment.find_or_construct_it.Goals as goal
use Rattle.segment_manager.proofs.{objects.FilledCalls.found-segment, segment.Segment.find_or_construct_it.Given.Over}
use Rattle.segment_manager.proofs.Common.{IsOfKind, Key, Scalar, ap, index_key_seen, subst, ◌∙◌}
use Rattle.segment_manager.specs.objects.Items.{FindsOrTakesIn}
use Rattle.segment_manager.proofs.segment.Segment.find_or_construct_it.Goals.{After-find_or_take}

-- the effect of the call, under the key of the object's kind
done : (g : Over) (c : After-find_or_take g) → FindsOrTakesIn g.I.Iterator.next_gives g.T.Scalar.whole
    c.self.inside.heap c.find_or_take.new.heap (g.D.ConstructKey.key c.args.key.now (Scalar g.T.Scalar.kind))
    g.T.Scalar.kind c.args.count c.args.items.now c.find_or_take.new.items c.find_or_take.result
done g c = subst (λ (key : Key). FindsOrTakesIn g.I.Iterator.next_gives g.T.Scalar.whole c.self.inside.heap
    c.find_or_take.new.heap key g.T.Scalar.kind c.args.count c.args.items.now c.find_or_take.new.items
    c.find_or_take.result) (c.entry_for-key.ensures.key ∙ ap (λ k. g.D.ConstructKey.key c.args.key.now (Scalar k))
    c.kind.ensures) (c.find_or_take.ensures (index_key_seen c.entry_for-key.result) (c.entry_of-index.ensures.new _
    (subst (λ k. IsOfKind (index_key_seen c.entry_for-key.result) (Scalar k)) c.kind.ensures
    c.entry_for-key.ensures.kind)))

pub invariant_of-self : goal.invariant_of-self
invariant_of-self g c =
    found-segment c.self.invariant (done g (goal.at.invariant_of-self g c).After-find_or_take)
