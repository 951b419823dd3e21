use Rattle.std.proofs.Common.{◌≡◌, ◌∙◌, ◌+◌, ◌-◌, ℕ, ap, arith, drop, take, List}
use Rattle.byteorder.specs.Numbers.{little_from-take}
use Rattle.segment_log.specs.Records.{number_of}
use Rattle.segment_log.proofs.fingerprints.word_at.Goals as goal

-- eight bytes are a number, whatever stands behind them
of_eight : (xs : List ℕ) (n : ℕ) → n ≡ 8 → number_of (take n xs) ≡ number_of xs
unfolding number_of
of_eight xs n is = ap (λ k. number_of (take k xs)) is ∙ little_from-take 0 8 8 xs (omega arith)

pub returns : goal.returns
returns c =
    let n : ℕ = c.args.at + 8 - c.args.at in
    let is : n ≡ 8 = omega arith in
    c.number_of.ensures ∙ of_eight (drop c.args.at c.args.bytes.now) n is
