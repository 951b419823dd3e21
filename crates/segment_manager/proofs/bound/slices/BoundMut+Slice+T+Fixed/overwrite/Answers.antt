-- The values are encoded at the elements' place, or there are too few elements.
use Rattle.segment_manager.proofs.bound.slices.BoundMut+Slice+T+Fixed.overwrite.Goals as goal
use Rattle.best_fit.proofs.Laws.{gaps-refl}
use Rattle.segment_manager.proofs.{containers.ScalarTypes.of-vector, directory.AnyDirectory.denotes-heap}
use Rattle.segment_manager.proofs.Common.{Located, Ok, ScalarKind, SegmentState, ap, current, eqb-true, is_read_only}
use Rattle.segment_manager.proofs.Common.{length, length-map, map, size_of, subst, sym, ℕ, ◌*◌, ◌+◌, ◌∙◌, ◌≡◌}
use Rattle.segment_manager.proofs.bound.{ByKey.overwritten, slices.BoundMut+Slice+T+Fixed.overwrite.Given.Over}
use Rattle.segment_manager.proofs.containers.RangeCalls.{RangeWritten, array-empty, array-framed, array-gaps}
use Rattle.segment_manager.proofs.containers.RangeCalls.{array-room, array-short, array-spelled, series-test}
use Rattle.segment_manager.specs.objects.{BoundObjects.key_of, Located.IsObject, Located.value_offset}
use Rattle.segment_manager.proofs.bound.slices.BoundMut+Slice+T+Fixed.overwrite.Goals.{After-spell}

pub returns-then-not-has_range-clause-step : goal.returns-then-not-has_range-clause-step
returns-then-not-has_range-clause-step g c = array-short c.args.self.now.segment.now c.args.self.now.object
    (record { at = c.args.self.now.live.there; here = c.args.self.now.live.there })
    g.T.Scalar.kind c.args.first (map g.T.Scalar.whole c.args.values.now) c.args.self.now.live.of_kind
    c.args.self.now.writing (series-test g.T.Scalar.whole c.args.values.now c.args.first c.from.ensures
    c.has_range.ensures c.if-not-has_range.true)

pub returns-then-is_empty-clause-step : goal.returns-then-is_empty-clause-step
returns-then-is_empty-clause-step g c = array-empty c.args.self.now.segment.now c.args.self.now.object
    (record { at = c.args.self.now.live.there; here = c.args.self.now.live.there })
    g.T.Scalar.kind c.args.first (map g.T.Scalar.whole c.args.values.now) c.args.self.now.live.of_kind
    c.args.self.now.writing (series-test g.T.Scalar.whole c.args.values.now c.args.first c.from.ensures
    c.has_range.ensures c.if-not-has_range.false) (length-map c.args.values.now g.T.Scalar.whole
    ∙ eqb-true (length c.args.values.now) 0 (sym c.is_empty.ensures ∙ c.if-is_empty.true))

pub returns-then-not-has_range-clause-gaps : goal.returns-then-not-has_range-clause-gaps
returns-then-not-has_range-clause-gaps g c = gaps-refl _

pub returns-then-is_empty-clause-gaps : goal.returns-then-is_empty-clause-gaps
returns-then-is_empty-clause-gaps g c = gaps-refl _

-- the offset, for the kind of the type
of-kind : (o : Located) (i : ℕ) {k l : ScalarKind} {at : ℕ} → at ≡ value_offset o + size_of l * i → l ≡ k
    → at ≡ value_offset o + size_of k * i
of-kind o i e f = e ∙ ap (λ k. value_offset o + size_of k * i) f

pub spell-requires-clause-heap : goal.spell-requires-clause-heap
spell-requires-clause-heap g c =
    denotes-heap current c.segment.inside.heap.bytes c.segment.invariant.0 c.segment.invariant.1.denotes

pub spell-requires-clause-room : goal.spell-requires-clause-room
spell-requires-clause-room g c =
    let there = subst (λ (u : SegmentState). IsObject c.args.self.now.object u) (sym c.segment.view_is)
    c.args.self.now.live.there in
    array-room (record { cut = c.segment.inside.heap; mode = c.segment.inside.mode })
    c.segment.invariant c.args.self.now.object (record { at = there; here = there }) g.T.Scalar.kind c.args.first
    (map g.T.Scalar.whole c.args.values.now) c.args.self.now.live.of_kind
    (series-test g.T.Scalar.whole c.args.values.now c.args.first c.from.ensures c.has_range.ensures
    c.if-not-has_range.false) (of-kind c.args.self.now.object c.args.first c.element_at-at.ensures c.kind.ensures)
    (λ i. g.met.T.Scalar.size i * sym (length-map c.args.values.now g.T.Scalar.whole) i)

-- what was written, in each goal after it
written-there : (g : Over) (c : After-spell g) → RangeWritten
    (record { cut = c.segment.inside.heap; mode = c.segment.inside.mode }) c.args.self.now.segment.now
    c.spell.new.heap (key_of c.args.self.now.object) g.T.Scalar.kind c.args.first
    (map g.T.Scalar.whole c.args.values.now) (Ok tt)
written-there g c = array-spelled (of-vector g.met.T.Scalar) _ _ c.segment.view_is c.segment.invariant
    c.args.self.now.object (record { at = c.args.self.now.live.there; here = c.args.self.now.live.there })
    c.args.first c.args.values.now c.args.self.now.live.of_kind c.args.self.now.writing
    (series-test g.T.Scalar.whole c.args.values.now c.args.first c.from.ensures c.has_range.ensures
    c.if-not-has_range.false)
    (of-kind c.args.self.now.object c.args.first
    c.element_at-at.ensures c.kind.ensures) c.spell.ensures.values _ c.spell.ensures.changes c.spell.ensures.content

pub invariant_of-segment : goal.invariant_of-segment
invariant_of-segment g c = (written-there g (goal.at.invariant_of-segment g c).After-spell).segment

pub invariant_of-self : goal.invariant_of-self
invariant_of-self g c = record {
  live = overwritten c.segment.view_is c.args.self.now.live c.segment.invariant _ _ _ _
      (written-there g (goal.at.invariant_of-self g c).After-spell);
  writing = ap (λ u. is_read_only u.mode) c.segment.view_is ∙ c.args.self.now.writing;
}

pub returns-clause-step : goal.returns-clause-step
returns-clause-step g c = (written-there g (goal.at.returns-clause-step g c).After-spell).step

pub returns-clause-frame : goal.returns-clause-frame
returns-clause-frame g c = array-framed (of-vector g.met.T.Scalar) _ _ c.segment.view_is c.segment.invariant
    c.args.self.now.object (record { at = c.args.self.now.live.there; here = c.args.self.now.live.there })
    c.args.first c.args.values.now c.args.self.now.live.of_kind c.args.self.now.writing
    (series-test g.T.Scalar.whole c.args.values.now c.args.first c.from.ensures c.has_range.ensures
    c.if-not-has_range.false) (of-kind c.args.self.now.object c.args.first
    c.element_at-at.ensures c.kind.ensures) c.spell.ensures.values _ c.spell.ensures.changes

pub returns-clause-gaps : goal.returns-clause-gaps
returns-clause-gaps g c = array-gaps (of-vector g.met.T.Scalar) _ _ c.segment.view_is c.segment.invariant
    c.args.self.now.object (record { at = c.args.self.now.live.there; here = c.args.self.now.live.there })
    c.args.first c.args.values.now c.args.self.now.live.of_kind c.args.self.now.writing
    (series-test g.T.Scalar.whole c.args.values.now c.args.first c.from.ensures c.has_range.ensures
    c.if-not-has_range.false) (of-kind c.args.self.now.object c.args.first
    c.element_at-at.ensures c.kind.ensures) c.spell.ensures.values _ c.spell.ensures.changes
