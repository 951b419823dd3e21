use Rattle.std.proofs.Common.{◌≡◌, ◌-◌, ◌≤◌, ◌++◌, length, take}
use Rattle.raw_region.proofs.device.write_all.Given as goal

abbrev pub invariant-pieces : goal.invariant-pieces
invariant-pieces g l = record {
  within : l.written ≤ length l.bytes;
  taken : (g.S.Sink.history l.sink).bytes ≡ (g.S.Sink.history l.initial.sink).bytes ++ take l.written l.bytes;
  failures : (g.S.Sink.history l.sink).failures ≡ (g.S.Sink.history l.initial.sink).failures;
}

abbrev pub decreases-pieces : goal.decreases-pieces
decreases-pieces g l = length l.bytes - l.written
