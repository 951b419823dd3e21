use Rattle.std.proofs.Common.{◌≡◌, fold, take}
use Rattle.segment_commands.specs.Refusals.{after_byte}
use Rattle.segment_commands.proofs.refusal_watch.after_bytes.Given as goal

abbrev pub invariant-bytes : goal.invariant-bytes
invariant-bytes l = record {
  seen : l.last ≡ fold after_byte l.fn.seen (take l.byte-index l.bytes);
}
