use Rattle.std.proofs.Common.{◌≡◌, length}
use Rattle.std.specs.Option.{is_some}
use Rattle.segment_lang.specs.Arguments.{texts_at}
use Rattle.segment_lang.proofs.lists.are_texts.Given as goal

abbrev pub invariant-texts : goal.invariant-texts
invariant-texts l = record {
  same : is_some (texts_at l.rest) ≡ is_some (texts_at l.bytes);
}

abbrev pub decreases-texts : goal.decreases-texts
decreases-texts l = length l.rest
