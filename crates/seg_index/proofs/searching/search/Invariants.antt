-- The remaining entries, and a bound on the remaining comparisons.
use Rattle.seg_index.proofs.{◌≡◌, ◌-◌, IsLeft}
use Rattle.seg_index.proofs.searching.search.Given as goal

abbrev pub invariant-halves : goal.invariant-halves
invariant-halves l = record {
  same : l.comparisons ≡ record l.fn.comparisons { count = l.comparisons.count };
  left : IsLeft l.fn.comparisons.heap.now l.fn.comparisons.key l.fn.comparisons.block l.count l.low l.high
      l.comparisons.count;
}

abbrev pub decreases-halves : goal.decreases-halves
decreases-halves l = l.high - l.low
