use Rattle.std.proofs.Common.{◌≡◌, ◌≤◌, ◌+◌, length}
use Rattle.std.specs.Option.{option_map}
use Rattle.segment_lang.specs.Arguments.{numbers_at}
use Rattle.segment_lang.proofs.values.count_values.Given as goal

abbrev pub invariant-values : goal.invariant-values
invariant-values l = record {
  counted : option_map (λ zs. l.count + length zs) (numbers_at l.kind l.rest)
      ≡ option_map length (numbers_at l.kind l.bytes);
  room : l.count + length l.rest ≤ length l.bytes;
}

abbrev pub decreases-values : goal.decreases-values
decreases-values l = length l.rest
