use Rattle.block_tags.proofs.changes.EndOfTiles.{laid_says_of, laid_rest_of}
use Rattle.block_tags.proofs.ends.lay.Goals as goal

pub returns-clause-tags : goal.returns-clause-tags
returns-clause-tags c = laid_says_of _ _ _ _ _ c.requires _ c.size-end.ensures c.put_word.ensures
    c.put_word-2.ensures c.put_word-3.ensures c.put_word-4.ensures

pub returns-clause-frame : goal.returns-clause-frame
returns-clause-frame c = laid_rest_of _ _ _ _ _ c.requires _ c.size-end.ensures c.put_word.ensures
    c.put_word-2.ensures c.put_word-3.ensures c.put_word-4.ensures
