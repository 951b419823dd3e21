-- The string is empty, with capacity 0.
use Rattle.seg_vector.proofs.{length}
use Rattle.seg_vector.proofs.strings.SegString.release.Goals as goal

pub returns : goal.returns
returns c bytes t v =
    let r = c.free_storage.ensures (length bytes) t bytes v
    in record { change = r.change; gaps = r.gaps; text = r.stands }
