-- The words and the block of the index stay.
use Rattle.seg_index.proofs.{in_header, still_released, still_taken, still_written}
use Rattle.seg_index.proofs.theorems.indexes_stay.Goals as goal

pub returns : goal.returns
returns c = record {
  taken = λ i a b n role h t hs index taken. still_taken (in_header i) taken index;
  released = λ i a b h t hs index released other. still_released (in_header i) released other index;
  written = λ i a b h at n t hs index written room other. still_written h at (in_header i) written room other index;
}
