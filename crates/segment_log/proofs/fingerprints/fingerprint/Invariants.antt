use Rattle.std.proofs.Common.{◌≡◌}
use Rattle.segment_log.specs.Fingerprints.{marked_pages}
use Rattle.segment_log.proofs.fingerprints.fingerprint.Given as goal

abbrev pub invariant-pages : goal.invariant-pages
invariant-pages l = l.sum ≡ marked_pages l.index l.image
