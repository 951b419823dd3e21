use Rattle.segment_lang.proofs.tokens.LongLines.{long_lines_are_cut}
use Rattle.segment_lang.proofs.theorems.long_lines_are_cut.Goals as goal

pub returns : goal.returns
returns c = long_lines_are_cut
