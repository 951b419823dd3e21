-- At most one entry has the key, and none has it if it belongs between two entries.
use Rattle.seg_index.proofs.{bytes_of, one-place}
use Rattle.seg_index.proofs.theorems.keys_have_one_place.Goals as goal

pub returns : goal.returns
returns c = λ w key handles r s sorted p q. one-place (bytes_of w.bytes) key handles r s sorted.rises p q
