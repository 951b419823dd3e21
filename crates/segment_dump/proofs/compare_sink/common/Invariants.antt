use Rattle.segment_dump.proofs.Common.{◌≡◌, ◌≤◌, length, take}
use Rattle.segment_dump.proofs.compare_sink.common.Given as goal

abbrev pub invariant-bytes : goal.invariant-bytes
invariant-bytes l = (take l.index l.some ≡ take l.index l.other) × (l.index ≤ length l.other)
