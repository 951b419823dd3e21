use Rattle.segment_lang.proofs.texts.Keys.{printed_kinds_are_read}
use Rattle.segment_lang.proofs.theorems.printed_kinds_are_read.Goals as goal

pub returns : goal.returns
returns c = printed_kinds_are_read
