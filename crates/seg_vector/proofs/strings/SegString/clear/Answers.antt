-- No byte is left.
use Rattle.seg_vector.proofs.{length}
use Rattle.seg_vector.proofs.strings.SegString.clear.Goals as goal

pub returns : goal.returns
returns c bytes t v =
    let r = c.truncate.ensures (length bytes) t bytes v in
    record { change = r.change; gaps = λ same. r.gaps; text = r.stands }
