use Rattle.segment_dump.proofs.prefix_reading.behind.Goals as goal
use Rattle.std.proofs.{lemmas.Bool.Decides.Decides-eqb, lemmas.Slice.Eq.strip_prefix_is}

pub returns : goal.returns
returns c = strip_prefix_is Decides-eqb c.args.text.now c.args.lead.now c.strip_prefix.result
    c.strip_prefix.ensures.cases
