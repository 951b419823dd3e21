use Rattle.std.proofs.Common.{arith}
use Rattle.block_tags.proofs.changes.EndOfTiles.{last_at_of, dropped_says_of, dropped_rest_of}
use Rattle.block_tags.proofs.ends.drop_last.Goals as goal

pub overflow_sub-last : goal.overflow_sub-last
overflow_sub-last c = let a = last_at_of _ c.requires _ c.size-end.ensures _ c.read_u64.ensures in let n =
    c.size-end.ensures in let inside = a.inside in omega arith

pub returns-clause-tags : goal.returns-clause-tags
returns-clause-tags c = dropped_says_of _ c.requires _ c.size-end.ensures _ c.read_u64.ensures _ c.put_word.ensures

pub returns-clause-frame : goal.returns-clause-frame
returns-clause-frame c = dropped_rest_of _ c.requires _ c.size-end.ensures _ c.read_u64.ensures _ c.put_word.ensures
