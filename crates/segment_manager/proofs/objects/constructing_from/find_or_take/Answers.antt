-- An object is found under the entry, or made of items with one, or a block is refused.
use Rattle.segment_manager.proofs.objects.constructing_from.find_or_take.Goals as goal
use Rattle.segment_manager.proofs.Common.{Err, IsObjectInBlock, Object, Scalar, ScalarKind, SegmentState, Write}
use Rattle.segment_manager.proofs.Common.{exit-is, pair_of_kind, subst, sym, ◌≡◌}
use Rattle.segment_manager.proofs.objects.Destroys.{found-answers, has-object, place-below, segment-index}
use Rattle.segment_manager.proofs.objects.FilledCalls.{begun-numbers, found-items, made-items_or_none, no-objects}
use Rattle.segment_manager.proofs.objects.FilledCalls.{none-items, shaped-key}
use Rattle.segment_manager.proofs.objects.{Constructed.key-short, Slices.always-holds}
use Rattle.segment_manager.proofs.{indexes.Bridge.denotes-sorted_index, objects.Constructed.key-seeks}
use Rattle.segment_manager.specs.objects.Items.{FindsOrTakesIn, TakesItemsIn}

pub lookup-requires-clause-index : goal.lookup-requires-clause-index
lookup-requires-clause-index g c = denotes-sorted_index c.args.index c.requires.segment.1.denotes

pub at-requires-clause-index : goal.at-requires-clause-index
at-requires-clause-index g c = segment-index c.args.index c.requires.segment

pub at-requires-clause-in_range : goal.at-requires-clause-in_range
at-requires-clause-in_range g c =
    place-below c.args.index c.args.entry c.in-Found.place c.requires.segment c.in-Found.ensures.place

pub found_of-requires : goal.found_of-requires
found_of-requires g c =
    let s : SegmentState = record { cut = c.args.heap.now; mode = Write } in let key = c.requires.key in
    has-object key.0 c.requires.segment (found-answers s c.args.index c.args.entry c.in-Found.place
    c.in-Found.ensures.place c.at.ensures key.0
    (key-seeks c.args.index c.args.entry key.0 c.args.name.now (Scalar g.T.Scalar.kind) key.1))

pub returns-in-Found : goal.returns-in-Found
returns-in-Found g c = λ key n.
    found-items _ g.I.Iterator.next_gives g.T.Scalar.whole key g.T.Scalar.kind c.args.count c.args.items.now (λ mode.
    let s : SegmentState = record { cut = c.args.heap.now; mode = mode } in
    found-answers s c.args.index c.args.entry c.in-Found.place c.in-Found.ensures.place c.at.ensures key
    (key-seeks c.args.index c.args.entry key c.args.name.now (Scalar g.T.Scalar.kind) n))
    (subst (λ (k : ScalarKind). (o : Object) → IsObjectInBlock c.args.heap.now.bytes c.at.result o
    → c.found_of.result ≡ pair_of_kind o (Scalar k)) c.kind-kind.ensures c.found_of.ensures)

pub begin_at-requires-clause-index : goal.begin_at-requires-clause-index
begin_at-requires-clause-index g c = segment-index c.args.index c.requires.segment

pub begin_at-requires-clause-max_len : goal.begin_at-requires-clause-max_len
begin_at-requires-clause-max_len g c = key-short c.args.index c.args.entry c.requires.key.0 c.args.name.now
    (Scalar g.T.Scalar.kind) c.requires.key.1

pub returns-in_err-begun : goal.returns-in_err-begun
returns-in_err-begun g c = rw (exit-is c.from_residual.result _ c.from_residual.ensures.1) (λ key n.
    let k = g.T.Scalar.kind in let away = c.in-Absent.ensures.place in
    let shaped = shaped-key c.args.index c.args.entry key c.args.name.now c.numbers.ensures c.kind-kind.ensures n in
    made-items_or_none _ g.I.Iterator.next_gives g.T.Scalar.whole key k c.args.count c.args.items.now
    (Err c.in_err-begun.field-0.0)
    (no-objects c.args.index c.args.entry c.in-Absent.place key c.args.name.now (Scalar k)
    n away) (none-items _ g.I.Iterator.next_gives g.T.Scalar.whole key k c.args.count c.args.items.now
    c.numbers.ensures c.kind-kind.ensures c.requires.non_empty (c.in_err-begun.ensures key c.args.entry shaped away)))

pub returns : goal.returns
returns g c = λ key n.
    let k = g.T.Scalar.kind in let away = c.in-Absent.ensures.place in let old = c.args.heap.now in
    let new = c.take_items.new.heap in let gives = g.I.Iterator.next_gives in let whole = g.T.Scalar.whole in
    let before = c.args.items.now in let after = c.take_items.new.items in let count = c.args.count in
    let shaped = shaped-key c.args.index c.args.entry key c.args.name.now c.numbers.ensures c.kind-kind.ensures n in
    let done = subst (λ (l : ScalarKind). TakesItemsIn gives whole old new key l count before after c.take_items.result)
    c.kind-kind.ensures (c.take_items.ensures old key c.requires.segment
    (begun-numbers old c.begin_at.new.heap key c.in_ok-begun.begun.handle c.in_ok-begun.begun.at
    c.in_ok-begun.begun.entry c.numbers.ensures (c.in_ok-begun.ensures key c.args.entry shaped away))) in
    subst (FindsOrTakesIn gives whole old new key k count before after) (sym c.counted.ensures)
    (made-items_or_none _ gives whole key k count before c.take_items.result
    (no-objects c.args.index c.args.entry c.in-Absent.place key c.args.name.now (Scalar k) n away) done)

pub take_items-requires-clause-kind_fit : goal.take_items-requires-clause-kind_fit
take_items-requires-clause-kind_fit g c =
    always-holds g.I.Iterator.next_gives _ c.args.items.now (λ item. sym c.kind-kind.ensures)
