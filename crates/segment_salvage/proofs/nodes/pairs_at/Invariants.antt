-- All pairs so far stand in the image, and no more bytes may still be read than at first.
use Rattle.std.specs.List.{AllByRecursion}
use Rattle.segment_salvage.specs.Pairs.{IsPairOfImage}
use Rattle.segment_salvage.specs.Work.{ReadsValues}
use Rattle.segment_salvage.proofs.nodes.pairs_at.Given as goal

abbrev pub invariant-nodes : goal.invariant-nodes
invariant-nodes l = record {
  all : AllByRecursion (IsPairOfImage l.image l.keys l.values) l.pairs.items;
  reads : ReadsValues l.fn.allowance l.allowance;
}
