-- The bytes are placed, and then the words are written.
use Rattle.seg_vector.proofs.{err_from_is_err_and, head-still, laid-heap, text-even, text-lacks, made-text}
use Rattle.seg_vector.proofs.strings.SegString.with_bytes.Goals as goal

pub set_words-requires : goal.set_words-requires
set_words-requires c = record {
  heap = laid-heap _ _ c.in_ok-storage.ensures.change.live;
  aligned = c.requires.aligned;
  room = head-still c.args.place c.requires.heap c.requires.room c.in_ok-storage.ensures.change;
  target_aligned = text-even c.in_ok-storage.ensures;
}

pub returns-in_err-storage : goal.returns-in_err-storage
returns-in_err-storage c =
    let p = err_from_is_err_and c.from_residual.result c.from_residual.ensures.1 in
    rw (p.1, p.2) (text-lacks c.args.bytes.now c.in_err-storage.ensures)

pub returns : goal.returns
returns c = made-text c.requires.heap c.requires.aligned c.requires.room c.in_ok-storage.ensures c.set_words.ensures
