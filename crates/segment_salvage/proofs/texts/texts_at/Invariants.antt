-- All texts so far stand in the image, and no more bytes may still be read than at first.
use Rattle.std.proofs.Common.{map}
use Rattle.std.specs.List.{AllByRecursion}
use Rattle.segment_salvage.specs.Standing.{Stands}
use Rattle.segment_salvage.specs.Work.{ReadsValues}
use Rattle.segment_salvage.proofs.texts.texts_at.Given as goal

abbrev pub invariant-texts : goal.invariant-texts
invariant-texts l = record {
  all : AllByRecursion (Stands l.image) (map (λ text. text.now) l.texts.items);
  reads : ReadsValues l.fn.allowance l.allowance;
}
