use Rattle.segment_dump.proofs.Common.{ap, ◌∙◌, arith, ℕ, List, bytes_of, word_at}
use Rattle.segment_dump.proofs.dumping.Capacities.{header-inside, unique-slots}
use Rattle.segment_dump.proofs.capacities.unique_capacity.Goals as goal

pub word_in-requires : goal.word_in-requires
word_in-requires c = let h = header-inside c.as_bytes.result.now c.as_bytes.ensures.denotation in omega (arith, h)

pub returns : goal.returns
returns c = record {
  answers = λ d k. c.word_in.ensures ∙ ap (λ (b : List ℕ). word_at (bytes_of b) 72) c.as_bytes.ensures.bytes
      ∙ unique-slots c.args.segment.now.cut.bytes d k;
}
