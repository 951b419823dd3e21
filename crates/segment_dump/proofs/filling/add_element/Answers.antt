use Rattle.segment_dump.proofs.filling.add_element.Goals as goal
use Rattle.segment_dump.proofs.{Common.length, Common.sym, Common.subst, Common.AddsElement}
use Rattle.segment_dump.proofs.{filling.EmptyObjects.no-element}

pub returns-in-Scalar-clause-visits : goal.returns-in-Scalar-clause-visits
returns-in-Scalar-clause-visits c =
    subst (λ k. AddsElement c.args.segment.now c.set_next.new.segment c.args.object.handle k c.args.index
    c.args.lines.now c.set_next.new.lines (length c.args.room.now) c.set_next.result) (sym c.in-Scalar.is)
    (c.set_next.ensures.visits (length c.args.room.now))

pub returns-in-Vector-clause-visits : goal.returns-in-Vector-clause-visits
returns-in-Vector-clause-visits c =
    subst (λ k. AddsElement c.args.segment.now c.push_next.new.segment c.args.object.handle k c.args.index
    c.args.lines.now c.push_next.new.lines (length c.args.room.now) c.push_next.result) (sym c.in-Vector.is)
    (c.push_next.ensures.visits c.args.index (length c.args.room.now))

pub returns-in-Map-clause-visits : goal.returns-in-Map-clause-visits
returns-in-Map-clause-visits c =
    subst (λ k. AddsElement c.args.segment.now c.put_next.new.segment c.args.object.handle k c.args.index
    c.args.lines.now c.put_next.new.lines (length c.args.room.now) c.put_next.result) (sym c.in-Map.is)
    (c.put_next.ensures.visits c.args.index (length c.args.room.now))

pub returns-in-Strings-clause-visits : goal.returns-in-Strings-clause-visits
returns-in-Strings-clause-visits c =
    subst (λ k. AddsElement c.args.segment.now c.push_text.new.segment c.args.object.handle k c.args.index
    c.args.lines.now c.push_text.new.lines (length c.args.room.now) c.push_text.result) (sym c.in-Strings.is)
    (c.push_text.ensures.visits c.args.index)

pub returns-in-String-clause-visits : goal.returns-in-String-clause-visits
returns-in-String-clause-visits c =
    no-element c.args.segment.now c.args.segment.now c.args.object.handle c.args.object.kind c.args.index
    c.args.lines.now c.args.lines.now (length c.args.room.now) _ c.in-String.is
