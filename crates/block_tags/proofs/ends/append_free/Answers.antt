use Rattle.block_tags.proofs.changes.EndOfTiles.{appended_says_of, appended_rest_of}
use Rattle.block_tags.proofs.ends.append_free.Goals as goal

pub returns-clause-tags : goal.returns-clause-tags
returns-clause-tags c = appended_says_of _ _ _ _ _ c.requires _ c.size-size.ensures c.put_word.ensures
    c.put_word-2.ensures c.put_word-3.ensures

pub returns-clause-frame : goal.returns-clause-frame
returns-clause-frame c = appended_rest_of _ _ _ _ _ c.requires _ c.size-size.ensures c.put_word.ensures
    c.put_word-2.ensures c.put_word-3.ensures
