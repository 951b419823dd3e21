-- An object is found under the entry, or made with one, or a block is refused.
use Rattle.seg_types.specs.Commands as asked
use Rattle.segment_manager.proofs.objects.constructing.find_or_construct_entered.Goals as goal
use Rattle.segment_manager.proofs.Common.{Constructs, Err, FindsOrConstructs, IsNewKeyOf, IsObjectInBlock, Object, Ok}
use Rattle.segment_manager.proofs.Common.{SegmentState, Write, bare, exit-is, found_object_answer, kind_of}
use Rattle.segment_manager.proofs.Common.{pair_of_kind, subst, sym, with_count, ◌≡◌}
use Rattle.segment_manager.proofs.indexes.Bridge.{denotes-sorted_index}
use Rattle.segment_manager.proofs.objects.{Constructed.key-seeks, Constructed.key-short, FilledCalls.no-object}
use Rattle.segment_manager.proofs.objects.Destroys.{found-answers, has-object, place-below, segment-index}
use Rattle.segment_manager.proofs.objects.FilledCalls.{begun-for, found-absent, found-all, found-built, found-not_begun}

pub lookup-requires-clause-index : goal.lookup-requires-clause-index
lookup-requires-clause-index g c = denotes-sorted_index c.args.index c.requires.segment.1.denotes

pub at-requires-clause-index : goal.at-requires-clause-index
at-requires-clause-index g c = segment-index c.args.index c.requires.segment

pub at-requires-clause-in_range : goal.at-requires-clause-in_range
at-requires-clause-in_range g c =
    place-below c.args.index c.args.entry c.in-Found.place c.requires.segment c.in-Found.ensures.place

pub found_of-requires : goal.found_of-requires
found_of-requires g c =
    let s : SegmentState = record { cut = c.args.heap.now; mode = Write } in let key = c.requires.key in
    has-object key.0 c.requires.segment (found-answers s c.args.index c.args.entry c.in-Found.place
    c.in-Found.ensures.place c.at.ensures key.0 (key-seeks c.args.index c.args.entry key.0 c.args.name.now
    (kind_of (bare (g.F.ObjectInit.content c.args.filling.now))) key.1))

pub returns-in-Found : goal.returns-in-Found
returns-in-Found g c = λ key n.
    let content = g.F.ObjectInit.content c.args.filling.now in
    found-all c.requires.segment key content (λ mode.
    let s : SegmentState = record { cut = c.args.heap.now; mode = mode } in
    found-answers s c.args.index c.args.entry c.in-Found.place c.in-Found.ensures.place c.at.ensures key
    (key-seeks c.args.index c.args.entry key c.args.name.now (kind_of (bare content)) n))
    (subst (λ k. (o : Object) → IsObjectInBlock c.args.heap.now.bytes c.at.result o
    → c.found_of.result ≡ pair_of_kind o k) c.shape-shape.ensures.kind c.found_of.ensures)

pub begin_at-requires-clause-index : goal.begin_at-requires-clause-index
begin_at-requires-clause-index g c = segment-index c.args.index c.requires.segment

pub begin_at-requires-clause-max_len : goal.begin_at-requires-clause-max_len
begin_at-requires-clause-max_len g c = key-short c.args.index c.args.entry c.requires.key.0 c.args.name.now
    (kind_of (bare (g.F.ObjectInit.content c.args.filling.now))) c.requires.key.1

pub returns-in_err-begun : goal.returns-in_err-begun
returns-in_err-begun g c = rw (exit-is c.from_residual.result _ c.from_residual.ensures.1) (λ key n.
    let content = g.F.ObjectInit.content c.args.filling.now in let is = c.shape-shape.ensures in
    let away = c.in-Absent.ensures.place in
    found-absent c.args.index c.args.entry c.in-Absent.place c.args.name.now (kind_of (bare content)) n away
    (found-not_begun c.requires.segment key content c.in_err-begun.field-0.0 (no-object c.requires.segment
    c.args.index c.args.entry c.in-Absent.place key c.args.name.now (kind_of (bare content)) n away)
    (begun-for c.args.heap.now c.begin_at.new.heap key (Err c.in_err-begun.field-0.0) is (c.in_err-begun.ensures key
    c.args.entry (subst (IsNewKeyOf c.args.index c.args.entry key c.args.name.now) (sym is.kind) n) away))))

pub returns : goal.returns
returns g c = λ key n.
    let content = g.F.ObjectInit.content c.args.filling.now in let is = c.shape-shape.ensures in
    let away = c.in-Absent.ensures.place in let b = c.in_ok-begun.begun in
    subst (FindsOrConstructs c.args.heap.now c.build.new.heap key content) (sym c.counted.ensures)
    (found-absent c.args.index c.args.entry c.in-Absent.place c.args.name.now (kind_of (bare content)) n away
    (subst (λ m. Constructs c.args.heap.now c.build.new.heap (asked.FindOrConstruct key content) found_object_answer
    (with_count m c.build.result)) (sym is.count)
    (found-built c.requires.segment key content b.entry c.begin_at.new.heap b.handle b.at c.build.result
    (begun-for c.args.heap.now c.begin_at.new.heap key (Ok b) is (c.in_ok-begun.ensures key c.args.entry
    (subst (IsNewKeyOf c.args.index c.args.entry key c.args.name.now) (sym is.kind) n) away)) c.build.ensures)))
