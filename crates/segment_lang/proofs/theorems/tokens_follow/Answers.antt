use Rattle.segment_lang.proofs.tokens.AllTokens.{tokens_next}
use Rattle.segment_lang.proofs.theorems.tokens_follow.Goals as goal

pub returns : goal.returns
returns c = tokens_next
