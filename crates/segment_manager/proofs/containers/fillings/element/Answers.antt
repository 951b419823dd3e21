-- The element lies in the payload.
use Rattle.segment_manager.proofs.containers.fillings.element.Goals as goal
use Rattle.segment_manager.proofs.Common.{ap, arith, length, live_of, part, ℕ, ◌+◌, ◌-◌, ◌∙◌, ◌≡◌, ◌≤◌}
use Rattle.segment_manager.proofs.objects.Exchanged.{lent, room-small}
use Rattle.seg_vector.proofs.storage.Storage.{live-if}

pub block-payload-requires : goal.block-payload-requires
block-payload-requires c =
    live-if c.args.handle (c.args.at + c.args.size) (live_of c.args.heap.now.bytes).extents c.requires.room

pub overflow_add-result : goal.overflow_add-result
overflow_add-result c =
    let small = room-small c.args.heap.now c.args.handle (c.args.at + c.args.size) c.requires.heap c.requires.room in
    omega arith

pub slice_bounds-result-end : goal.slice_bounds-result-end
slice_bounds-result-end c =
    let long = (lent c.args.heap.now c.args.handle
    (c.args.at + c.args.size) c.requires.heap c.requires.room c.block-payload.ensures).long in
    let fits : c.args.at + c.args.size ≤ length c.block-payload.result.now = omega arith in omega arith

pub returns-clause-bytes : goal.returns-clause-bytes
returns-clause-bytes c =
    let l = lent c.args.heap.now c.args.handle
    (c.args.at + c.args.size) c.requires.heap c.requires.room c.block-payload.ensures in
    let e : c.args.at + c.args.size - c.args.at ≡ c.args.size = omega arith in
    ap (λ (k : ℕ). part c.block-payload.result.now c.args.at k) e ∙ l.content c.args.at c.args.size (omega arith)
