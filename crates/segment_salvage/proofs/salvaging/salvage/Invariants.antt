-- All objects so far stand in the image, and no more bytes may still be read than at first.
use Rattle.std.proofs.Common.{◌≤◌}
use Rattle.segment_salvage.specs.Standing.{Salvages}
use Rattle.segment_salvage.proofs.salvaging.salvage.Given as goal

abbrev pub invariant-objects : goal.invariant-objects
invariant-objects l = record {
  effect : Salvages l.image l.fn.segment l.segment;
  taken : l.allowance.left ≤ l.most;
}
