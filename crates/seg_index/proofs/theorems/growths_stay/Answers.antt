-- The words of the index and the block of the growth stay.
use Rattle.seg_index.proofs.{index_at, in_header, place_behind, place_small, prepared, growth-released, taken}
use Rattle.seg_index.proofs.{growth-written}
use Rattle.seg_index.proofs.theorems.growths_stay.Goals as goal

pub returns : goal.returns
returns c = record {
  prepared = λ i a b g t hs index growth.
      prepared a b (index_at i) g t hs index growth (place_behind i) (place_small i);
  taken = λ i a b g n role h can d. taken g can d (in_header i);
  released = λ i a b g h can d other. growth-released g can d other (in_header i);
  written = λ i a b g h at n can d room. growth-written g h at can d room (in_header i);
}
