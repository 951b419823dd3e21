use Rattle.segment_lang.proofs.commands.Lexing.{scalar_read}
use Rattle.segment_lang.proofs.contents.read_scalar.Goals as goal

pub returns : goal.returns
returns c = scalar_read _ _ _ _ _ c.in_ok-token.ensures.value c.in_ok-value.ensures
