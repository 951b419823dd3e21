-- The object is begun and made of items, or refused before.
use Rattle.segment_manager.proofs.segment.Segment.construct_items.Goals as goal
use Rattle.segment_manager.proofs.Common.{exit-is, new_key_seen, sym, ◌∙◌}
use Rattle.segment_manager.proofs.objects.FilledCalls.{begun-so, items-segment, refused-items, refused-segment}
use Rattle.segment_manager.proofs.objects.FilledCalls.{takes-nothing}

pub returns-then-is_read_only : goal.returns-then-is_read_only
returns-then-is_read_only g c = takes-nothing _ g.I.Iterator.next_gives g.S.Spelling.whole (new_key_seen c.args.key.now)
    c.args.kind c.args.count c.args.items.now (sym c.is_read_only.ensures ∙ c.if-is_read_only.true)

pub invariant_of-self : goal.invariant_of-self
invariant_of-self g c = refused-segment _ g.I.Iterator.next_gives g.S.Spelling.whole c.self.view_is c.self.invariant
    (new_key_seen c.args.key.now) c.args.kind c.args.count c.numbers.ensures
    (sym c.is_read_only.ensures ∙ c.if-is_read_only.false) c.requires.non_empty c.args.items.now
    c.in_err-begun.field-0.0 c.begin_object.new.heap c.in_err-begun.ensures

pub returns-in_err-begun : goal.returns-in_err-begun
returns-in_err-begun g c = refused-items _ g.I.Iterator.next_gives g.S.Spelling.whole c.self.view_is c.self.invariant
    (new_key_seen c.args.key.now) c.args.kind c.args.count c.numbers.ensures
    (sym c.is_read_only.ensures ∙ c.if-is_read_only.false) c.requires.non_empty c.args.items.now c.begin_object.new.heap
    (exit-is c.from_residual.result _ c.from_residual.ensures.1) c.in_err-begun.ensures

pub take_items-requires-clause-start : goal.take_items-requires-clause-start
take_items-requires-clause-start g c = (
  c.self.inside.heap,
  (
    c.self.invariant,
    (
      new_key_seen c.args.key.now,
      begun-so _ g.I.Iterator.next_gives g.S.Spelling.whole c.self.view_is c.self.invariant
          (new_key_seen c.args.key.now) c.args.kind c.args.count c.numbers.ensures
          (sym c.is_read_only.ensures ∙ c.if-is_read_only.false) c.requires.non_empty c.args.items.now
          c.begin_object.new.heap _ _
          c.in_ok-begun.begun.entry c.in_ok-begun.ensures,
    ),
  ),
)

pub invariant_of-self-2 : goal.invariant_of-self-2
invariant_of-self-2 g c = items-segment _ g.I.Iterator.next_gives g.S.Spelling.whole c.self.view_is c.self.invariant
    (new_key_seen c.args.key.now) c.args.kind c.args.count c.numbers.ensures
    (sym c.is_read_only.ensures ∙ c.if-is_read_only.false) c.requires.non_empty c.args.items.now
    c.begin_object.new.heap _ _
    c.in_ok-begun.begun.entry c.in_ok-begun.ensures c.take_items.new.heap c.take_items.result c.take_items.ensures
