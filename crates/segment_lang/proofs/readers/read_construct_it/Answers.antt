use Rattle.segment_lang.proofs.commands.Lexing.{each_read}
use Rattle.segment_lang.proofs.readers.read_construct_it.Goals as goal

pub returns : goal.returns
returns c = each_read _ _ _ _ _ _ _ _ _ c.in_ok-kind.ensures c.in_ok-kind-2.ensures c.in_ok-key.ensures c.in-Scalar.is
    c.in_ok-values.ensures
