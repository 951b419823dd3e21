use Rattle.std.proofs.Common.{◌≡◌}
use Rattle.segment_log.specs.Fingerprints.{marked_words}
use Rattle.segment_log.proofs.fingerprints.mark_words.Given as goal

abbrev pub invariant-words : goal.invariant-words
invariant-words l = l.mark ≡ marked_words l.at l.page
