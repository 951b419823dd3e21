-- The storage is regrown, and then the link and the capacity are written.
use Rattle.seg_vector.proofs.{◌∙◌, arith, come-aligned, given-of, grown-run, grows-more, grows-not, grows-nothing}
use Rattle.seg_vector.proofs.{head-room, not_given-of, storage-read, too-many}
use Rattle.seg_vector.proofs.container_capacity.reserve.Goals as goal

pub regrow-requires-clause-room : goal.regrow-requires-clause-room
regrow-requires-clause-room c = storage-read c.len_of.result c.link_of-storage.result c.requires.container.1.1.1
    c.link_of-storage.ensures c.len_of.ensures

pub set_storage-requires : goal.set_storage-requires
set_storage-requires c =
    let s = c.requires.container.1.1.1 in
    let r = given-of c.args.n c.len_of.result c.link_of-storage.result s c.link_of-storage.ensures c.len_of.ensures
    c.in-Ok.ensures in let run = grown-run s r in
    record { heap = run.heap; aligned = s.aligned; room = head-room run.head; target_aligned = come-aligned r }

pub returns-then-n-capacity_of : goal.returns-then-n-capacity_of
returns-then-n-capacity_of c len t bytes s =
    let capacity = c.capacity_of.ensures ∙ s.words.capacity in
    grows-not c.args.heap.now c.args.n (omega (arith, capacity, c.if-n-capacity_of.true)) s

pub returns-in-Err : goal.returns-in-Err
returns-in-Err c len t bytes s =
    let capacity = c.capacity_of.ensures ∙ s.words.capacity in
    grows-nothing c.args.each c.args.n t (omega (arith, capacity, c.if-n-capacity_of.false))
    (not_given-of c.args.n c.link_of-storage.result s c.link_of-storage.ensures c.in-Err.ensures)

pub returns-in-Ok : goal.returns-in-Ok
returns-in-Ok c len t bytes s =
    let capacity = c.capacity_of.ensures ∙ s.words.capacity in
    grows-more c.args.n (omega (arith, capacity, c.if-n-capacity_of.false)) s (given-of c.args.n c.len_of.result
    c.link_of-storage.result s c.link_of-storage.ensures c.len_of.ensures c.in-Ok.ensures) c.set_storage.ensures

pub returns-then-n-gt-MAX_SEGMENT_LEN : goal.returns-then-n-gt-MAX_SEGMENT_LEN
returns-then-n-gt-MAX_SEGMENT_LEN c len t bytes s =
    too-many c.args.heap.now c.args.n s c.requires.non_empty c.if-n-gt-MAX_SEGMENT_LEN.true
