-- The length is written, and the storage stays.
use Rattle.seg_vector.proofs.{arith, truncated}
use Rattle.seg_vector.proofs.elements.truncate.Goals as goal

pub returns : goal.returns
returns c len t bytes s = truncated {old = c.args.heap.now} {new = c.set_word.new.self} c.args.n s
    (omega (arith, c.requires.max_count, s.words.len_word)) c.set_word.ensures.changes c.set_word.ensures.word
