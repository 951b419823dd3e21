-- The bytes that spell the value are written at the place.
use Rattle.segment_manager.proofs.bound.slices.BoundMut+Slice+T+Fixed.set.Goals as goal
use Rattle.segment_manager.proofs.{blocks.Blocks.spelling-length, bound.ByKey.leaves-bound, bound.ByKey.past-error}
use Rattle.segment_manager.proofs.Common.{Key, List, Set, ap, exit-is, length, literal_of, refl, sym, ℕ, ◌∙◌}
use Rattle.segment_manager.proofs.objects.Stored.{changes-element, place-room, places-bound, stores-nothing}
use Rattle.segment_manager.proofs.objects.Stored.{stores-number}
use Rattle.segment_manager.specs.objects.BoundObjects.{key_of}

pub write-requires-2 : goal.write-requires-2
write-requires-2 g c = place-room (key_of c.args.self.now.object) g.T.Scalar.kind c.args.index c.segment.view_is
    (ap (λ (bs : List ℕ). length bs) (c.write.ensures.bytes ∙ g.met.T.Scalar.spelled c.args.value)
    ∙ spelling-length g.T.Scalar.kind (g.T.Scalar.whole c.args.value))
    (places-bound c.args.self.now.live c.args.index c.kind.ensures c.in_ok-place.ensures)
    c.segment.invariant

pub returns-in_err-place-clause-step : goal.returns-in_err-place-clause-step
returns-in_err-place-clause-step g c = rw (exit-is c.from_residual.result _ c.from_residual.ensures.1) (record {
  step = stores-nothing (key_of c.args.self.now.object) g.T.Scalar.kind c.args.index (g.T.Scalar.whole c.args.value)
      c.args.self.now.writing (sym (g.met.T.Scalar.values c.args.value) ∙ c.write.ensures.value)
      (places-bound c.args.self.now.live c.args.index c.kind.ensures c.in_err-place.ensures);
  refused = refl;
  error = past-error c.args.self.now.object c.args.index c.kind.result c.in_err-place.ensures;
})

pub invariant_of-segment : goal.invariant_of-segment
invariant_of-segment g c = (stores-number c.segment.view_is c.segment.invariant {key = key_of c.args.self.now.object}
    g.T.Scalar.kind c.args.index (g.T.Scalar.whole c.args.value) c.args.self.now.writing (sym
    (g.met.T.Scalar.values c.args.value)
    ∙ c.write.ensures.value) (c.write.ensures.bytes ∙ g.met.T.Scalar.spelled c.args.value)
    (places-bound c.args.self.now.live c.args.index c.kind.ensures c.in_ok-place.ensures) c.write-2.ensures.changes
    c.write-2.ensures.content).segment

pub invariant_of-self : goal.invariant_of-self
invariant_of-self g c = (leaves-bound c.segment.view_is c.args.self.now.live c.args.self.now.writing c.segment.invariant
    _ (λ (key : Key). Set key c.args.index (literal_of g.T.Scalar.kind (g.T.Scalar.whole c.args.value)))
    {reasons = λ why. Unit {0}} {Gaps = Unit {0}} refl tt tt
    (stores-number c.segment.view_is c.segment.invariant {key = key_of c.args.self.now.object}
    g.T.Scalar.kind c.args.index (g.T.Scalar.whole c.args.value) c.args.self.now.writing (sym
    (g.met.T.Scalar.values c.args.value)
    ∙ c.write.ensures.value) (c.write.ensures.bytes ∙ g.met.T.Scalar.spelled c.args.value)
    (places-bound c.args.self.now.live c.args.index c.kind.ensures c.in_ok-place.ensures) c.write-2.ensures.changes
    c.write-2.ensures.content)).kept

pub returns-clause-step : goal.returns-clause-step
returns-clause-step g c = record {
  step = (stores-number c.segment.view_is c.segment.invariant {key = key_of c.args.self.now.object}
      g.T.Scalar.kind c.args.index (g.T.Scalar.whole c.args.value) c.args.self.now.writing (sym
      (g.met.T.Scalar.values c.args.value)
      ∙ c.write.ensures.value) (c.write.ensures.bytes ∙ g.met.T.Scalar.spelled c.args.value)
      (places-bound c.args.self.now.live c.args.index c.kind.ensures c.in_ok-place.ensures) c.write-2.ensures.changes
      c.write-2.ensures.content).step;
  refused = tt;
  error = tt;
}

pub returns-clause-element : goal.returns-clause-element
returns-clause-element g c = changes-element c.segment.view_is (key_of c.args.self.now.object) g.T.Scalar.kind
    c.args.index (ap (λ (bs : List ℕ). length bs) (c.write.ensures.bytes ∙ g.met.T.Scalar.spelled c.args.value)
    ∙ spelling-length g.T.Scalar.kind (g.T.Scalar.whole c.args.value))
    (places-bound c.args.self.now.live c.args.index c.kind.ensures c.in_ok-place.ensures) c.write-2.ensures.changes
