-- What holds of each range of places holds of all.
use Rattle.seg_index.proofs.{◌≡◌, refl, ◌-◌, ◌≤◌, subst, arith, bits, comparisons_among, word_at, few_comparisons}
use Rattle.seg_index.proofs.{same_comparisons}
use Rattle.seg_index.proofs.theorems.searches_halve.Goals as goal

pub returns : goal.returns
unfolding comparisons_among word_at
returns c = record {
  decided = λ n p q same. same_comparisons n p q 0 n same;
  few = λ n stands. let all : n - 0 ≡ n = omega arith in
      subst (λ k. comparisons_among n stands 0 n ≤ bits k) all (few_comparisons n stands 0 n);
  of_none = refl;
  fourth = refl;
  second = refl;
  last = refl;
  between = refl;
  before_all = refl;
}
