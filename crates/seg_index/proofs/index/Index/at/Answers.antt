-- The entry lies in the block.
use Rattle.seg_index.proofs.{arith, bytes_of, entry_found, has_slots}
use Rattle.seg_index.proofs.index.Index.at.Goals as goal

pub returns : goal.returns
returns c = λ t hs i.
    let p = has_slots i (omega arith) c.header_offset.ensures c.header_link.ensures c.unwrap_or-block.ensures in
    entry_found (bytes_of c.args.heap.now.bytes) hs c.unwrap_or-block.result c.args.i c.unwrap_or.result c.link.result
    p.links (omega arith) c.link.ensures c.unwrap_or.ensures
