use Rattle.segment_lang.proofs.tokens.Lengths.{tokens_room}
use Rattle.segment_lang.proofs.theorems.tokens_fit_line.Goals as goal

pub returns : goal.returns
returns c = tokens_room
