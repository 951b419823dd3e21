use Rattle.std.proofs.Common.{◌≡◌, ◌-◌, ◌<◌, ◌≤◌, false, ◌++◌, length, take}
use Rattle.raw_region.proofs.device.read_full.Given as goal

abbrev pub invariant-pieces : goal.invariant-pieces
invariant-pieces g l = record {
  within : l.filled ≤ length l.into;
  given : (g.S.Source.history l.source).bytes ≡ (g.S.Source.history l.initial.source).bytes ++ take l.filled l.into;
  some_read : 0 < l.filled → (g.S.Source.history l.source).ended ≡ false;
  none_read : l.filled ≡ 0 → (g.S.Source.history l.source).ended ≡ (g.S.Source.history l.initial.source).ended;
  ends : (g.S.Source.history l.source).ends ≡ (g.S.Source.history l.initial.source).ends;
  failures : (g.S.Source.history l.source).failures ≡ (g.S.Source.history l.initial.source).failures;
}

abbrev pub decreases-pieces : goal.decreases-pieces
decreases-pieces g l = length l.initial.into - l.filled
