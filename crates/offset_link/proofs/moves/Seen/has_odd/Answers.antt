use Rattle.offset_link.proofs.moves.ShiftedWords.{even_of}
use Rattle.offset_link.proofs.moves.Seen.has_odd.Goals as goal

pub returns : goal.returns
returns c = even_of c.args.self.first c.args.self.second
