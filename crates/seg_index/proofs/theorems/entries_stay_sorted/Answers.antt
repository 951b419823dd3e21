-- The blocks of the objects stay.
use Rattle.seg_index.proofs.{kept-stays, keeps-sorted, released-stays, sorted-beside, taken-stays, written-stays}
use Rattle.seg_index.proofs.theorems.entries_stay_sorted.Goals as goal

pub returns : goal.returns
returns c = record {
  taken = λ a b n role h al. keeps-sorted (taken-stays al);
  released = λ i a b h handles s r other. sorted-beside h handles s other (released-stays r);
  written = λ i a b h at n handles s change room other.
      sorted-beside h handles s other (written-stays h at change room);
  restored = λ a b laid keeps. keeps-sorted (kept-stays laid keeps);
}
