-- The name lies in the payload.
use Rattle.segment_manager.proofs.objects.head.read_name.Goals as goal
use Rattle.segment_manager.proofs.Common.{Object, ap, arith, length, live_of, part, ℕ, ◌%◌, ◌+◌, ◌-◌, ◌∙◌, ◌≡◌, ◌≤◌}
use Rattle.segment_manager.proofs.objects.Exchanged.{lent}
use Rattle.segment_manager.proofs.objects.Standings.{head-words, standing-name, standing-room}
use Rattle.seg_vector.proofs.storage.Storage.{live-if}

pub word-len-requires : goal.word-len-requires
word-len-requires c =
    standing-room c.args.heap.now.bytes c.args.handle 16 c.requires.object.0 c.requires.object.1 (omega arith)

pub block-payload-requires : goal.block-payload-requires
block-payload-requires c = live-if c.args.handle 16 (live_of c.args.heap.now.bytes).extents
    (standing-room c.args.heap.now.bytes c.args.handle 16 c.requires.object.0 c.requires.object.1 (omega arith))

pub slice_bounds-result-end : goal.slice_bounds-result-end
slice_bounds-result-end c =
    let o : Object = c.requires.object.0 in
    let same : c.word-len.result % 4294967296 ≡ length o.name =
    ap (λ (x : ℕ). x % 4294967296) c.word-len.ensures ∙ (head-words c.requires.object.1).name_len in
    let l = lent c.args.heap.now c.args.handle (16 + length o.name) c.requires.heap (standing-room c.args.heap.now.bytes
    c.args.handle (16 + length o.name) o c.requires.object.1 (omega arith)) c.block-payload.ensures in
    let long = l.long in
    let fits : 16 + c.word-len.result % 4294967296 ≤ length c.block-payload.result.now = omega arith in omega arith

pub returns : goal.returns
returns c = λ o s.
    let same : c.word-len.result % 4294967296 ≡ length o.name =
    ap (λ (x : ℕ). x % 4294967296) c.word-len.ensures ∙ (head-words s).name_len in
    let l = lent c.args.heap.now c.args.handle (16 + length o.name) c.requires.heap (standing-room c.args.heap.now.bytes
    c.args.handle (16 + length o.name) o s (omega arith)) c.block-payload.ensures in
    let e : 16 + c.word-len.result % 4294967296 - 16 ≡ length o.name = omega arith in
    ap (λ (k : ℕ). part c.block-payload.result.now 16 k) e ∙ l.content 16 (length o.name) (omega arith)
    ∙ standing-name s
