use Rattle.std.proofs.Common.{◌≡◌, ◌*◌}
use Rattle.segment_log.specs.Fingerprints.{marked_words}
use Rattle.segment_log.proofs.fingerprints.mark_fours.Given as goal

abbrev pub invariant-fours : goal.invariant-fours
invariant-fours l = l.mark ≡ marked_words (4 * l.index) l.page
