use Rattle.offset_link.proofs.moves.ShiftedWords.{or_even}
use Rattle.offset_link.proofs.moves.look_ahead.Goals as goal

pub returns : goal.returns
returns c = λ even.
    ((or_even c.args.seen.first c.word_in.result even.0).0, (or_even c.args.seen.second c.word_in-2.result even.1).0)
