use Rattle.std.proofs.Common.{◌≡◌, drop}
use Rattle.segment_log.specs.Fingerprints.{marked_bytes}
use Rattle.segment_log.proofs.fingerprints.mark_bytes.Given as goal

abbrev pub invariant-bytes : goal.invariant-bytes
invariant-bytes l = marked_bytes l.mark (drop l.byte-index l.bytes) ≡ marked_bytes l.start l.bytes
