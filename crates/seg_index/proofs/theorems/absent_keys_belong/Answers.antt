-- The order of the key to each entry is that of the object.
use Rattle.seg_index.proofs.{refl, belongs-at, stays-itself}
use Rattle.seg_index.proofs.theorems.absent_keys_belong.Goals as goal

pub returns : goal.returns
returns c = λ w key handles place h s p k is. belongs-at key place h refl s stays-itself k is p
