use Rattle.std.proofs.Common.{refl}
use Rattle.block_tags.proofs.theorems.worked_tiles.Goals as goal

pub returns : goal.returns
returns c = record {
  legal = refl;
  words = refl;
  read = refl;
  read_red = refl;
  black_alone = refl;
  too_short = refl;
  fill = (refl, refl, (refl, refl, (refl, refl, refl)));
  merged = refl;
  not_merged = refl;
  there = refl;
  nowhere = refl;
  first = refl;
  last = refl;
  next = refl;
  no_next = refl;
  previous = refl;
  no_previous = refl;
  split = refl;
  joined = refl;
  lengthened = refl;
  used = refl;
  coloured = refl;
  shorter = refl;
  longer = refl;
  laid_out = refl;
  laid_none = refl;
}
