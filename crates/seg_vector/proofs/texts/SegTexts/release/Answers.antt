-- The texts' blocks are freed, and then the array.
use Rattle.seg_vector.proofs.{[], given-up-all, stands-none, text_blocks}
use Rattle.seg_vector.proofs.texts.SegTexts.release.Goals as goal

pub returns : goal.returns
returns c ps t s =
    let x = c.clear.ensures ps t s
    in given-up-all (text_blocks ps) x (c.free_storage.ensures 0 t [] (stands-none x.texts))
