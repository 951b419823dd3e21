-- All objects stand in the image so far.
use Rattle.segment_salvage.specs.Standing.{Salvages}
use Rattle.segment_salvage.proofs.map_rebuilding.put_pairs.Given as goal

abbrev pub invariant-pairs : goal.invariant-pairs
invariant-pairs l = Salvages l.image l.fn.segment l.segment
