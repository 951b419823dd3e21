-- The three words are written.
use Rattle.seg_index.proofs.{refl, [], headed, empty_index, none-sorted}
use Rattle.seg_index.proofs.index.Index.init.Goals as goal

pub returns : goal.returns
returns c =
    let w = headed c.header_offset-place.ensures c.set_header_link.ensures.changes c.set_header_link.ensures.link_target
    c.set_header_word.ensures.changes c.set_header_word.ensures.word c.set_header_word-2.ensures.changes
    c.set_header_word-2.ensures.word in
    record {
      index = record { index = empty_index [] w refl tt; sorted = none-sorted };
      changes = w.change;
    }
