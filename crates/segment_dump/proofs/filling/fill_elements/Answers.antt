use Rattle.raw_region.proofs.Laws.{SameSurroundings-trans}
use Rattle.segment_dump.proofs.Common.{arith, length, refl, ◌∙◌}
use Rattle.segment_dump.proofs.filling.EmptyObjects.{as-room, elements-cut, elements-end, elements-more, elements-start}
use Rattle.segment_dump.proofs.filling.fill_elements.Goals as goal

pub elements-init : goal.elements-init
elements-init c = (
  elements-start c.args.segment.now c.args.object.handle c.args.object.kind c.args.lines.now
      (length c.args.room.now),
  refl,
  c.requires,
  record { before = refl; after = refl },
)

pub returns-in_err-add_element-clause-filling : goal.returns-in_err-add_element-clause-filling
returns-in_err-add_element-clause-filling c =
    elements-cut c.args.segment.now c.elements.segment c.add_element.new.segment c.add_element.new.segment
    c.args.object.handle c.args.object.kind c.args.count c.args.lines.now c.elements.lines
    c.add_element.new.lines c.add_element.new.lines
    (length c.args.room.now) c.elements.index _ c.from_residual.result (omega (arith, c.elements-test.true))
    c.elements.invariant.0
    (as-room c.elements.segment c.add_element.new.segment c.args.object.handle c.args.object.kind c.elements.index
    c.elements.lines c.add_element.new.lines (length c.elements.room) (length c.args.room.now) _ c.elements.invariant.1
    c.in_err-add_element.ensures.visits)

pub elements-preserved : goal.elements-preserved
elements-preserved c = (
  elements-more c.args.segment.now c.elements.segment c.add_element.new.segment c.args.object.handle
      c.args.object.kind c.args.lines.now c.elements.lines c.add_element.new.lines (length c.args.room.now)
      c.elements.index c.in_ok-add_element.field-0 c.elements.invariant.0
      (as-room c.elements.segment c.add_element.new.segment c.args.object.handle c.args.object.kind c.elements.index
      c.elements.lines c.add_element.new.lines (length c.elements.room) (length c.args.room.now) _
      c.elements.invariant.1
      c.in_ok-add_element.ensures.visits),
  c.add_element.auto.room ∙ c.elements.invariant.1,
  c.in_ok-add_element.ensures.in_place,
  SameSurroundings-trans _ _ _ c.elements.invariant.3 c.in_ok-add_element.ensures.place,
)

pub returns-clause-filling : goal.returns-clause-filling
returns-clause-filling c =
    elements-end c.args.segment.now c.elements.segment c.args.object.handle c.args.object.kind c.args.count
    c.args.lines.now c.elements.lines (length c.args.room.now) c.elements.index (omega (
      arith,
      c.elements-test.false,
      c.elements.auto.index-end,
    ))
    c.elements.invariant.0

pub add_element-requires : goal.add_element-requires
add_element-requires c = c.elements.invariant.2

pub returns-in_err-add_element-clause-place : goal.returns-in_err-add_element-clause-place
returns-in_err-add_element-clause-place c =
    SameSurroundings-trans _ _ _ c.elements.invariant.3 c.in_err-add_element.ensures.place

pub returns-clause-place : goal.returns-clause-place
returns-clause-place c = c.elements.invariant.3
