use Rattle.std.proofs.Common.{◌≤◌, ◌+◌, ◌*◌, ◌-◌, length}
use Rattle.segment_log.specs.Edits.{resized, WritesTo}
use Rattle.segment_log.specs.Fingerprints.{fingerprint}
use Rattle.segment_log.proofs.payloads.Writing.{midway, IsTagged}
use Rattle.segment_log.proofs.payloads.changes.Given as goal

abbrev pub invariant-pages : goal.invariant-pages
invariant-pages l = record {
  within : l.at ≤ length l.new;
  so_far : WritesTo (length l.new) (resized (length l.new) l.old) (midway l.old l.new l.at) l.payload.items;
  tagged : IsTagged (length l.new) l.base (fingerprint l.new) l.payload.items;
  few : length l.payload.items ≤ 17 * l.at + 40;
}

abbrev pub decreases-pages : goal.decreases-pages
decreases-pages l = length l.new - l.at
