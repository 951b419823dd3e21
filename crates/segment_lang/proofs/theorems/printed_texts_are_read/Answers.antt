use Rattle.segment_lang.proofs.texts.Spelling.{printed_texts_are_read}
use Rattle.segment_lang.proofs.theorems.printed_texts_are_read.Goals as goal

pub returns : goal.returns
returns c = printed_texts_are_read
