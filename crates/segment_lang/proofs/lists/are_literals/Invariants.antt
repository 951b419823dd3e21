use Rattle.std.proofs.Common.{◌≡◌, length}
use Rattle.std.specs.Option.{is_some}
use Rattle.segment_lang.specs.Arguments.{literals_at}
use Rattle.segment_lang.proofs.lists.are_literals.Given as goal

abbrev pub invariant-literals : goal.invariant-literals
invariant-literals l = record {
  same : is_some (literals_at l.rest) ≡ is_some (literals_at l.bytes);
}

abbrev pub decreases-literals : goal.decreases-literals
decreases-literals l = length l.rest
