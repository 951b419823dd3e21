use Rattle.segment_lang.proofs.texts.Spelling.{texts_are_spelled}
use Rattle.segment_lang.proofs.theorems.texts_are_spelled.Goals as goal

pub returns : goal.returns
returns c = texts_are_spelled
