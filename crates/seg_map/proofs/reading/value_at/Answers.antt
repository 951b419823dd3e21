-- The bytes of the value lie in the block.
use Rattle.seg_map.proofs.{◌+◌, bytes_of, read}
use Rattle.seg_types.proofs.Laws.{read-value}
use Rattle.seg_map.proofs.reading.value_at.Goals as goal

pub returns : goal.returns
returns g c =
    let p = g.T.Plain in
    read-value p.reading p.is_value p.spelling g.met.T.Plain.reads (read (bytes_of c.args.heap.now.bytes) (c.args.handle
    + c.args.at) p.SIZE) c.read.result (rw (c.bytes.ensures, c.SIZE.ensures) at c.read.ensures)
