use Rattle.segment_lang.proofs.texts.Keys.{printed_names_are_read}
use Rattle.segment_lang.proofs.theorems.printed_names_are_read.Goals as goal

pub returns : goal.returns
returns c = printed_names_are_read
