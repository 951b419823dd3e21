use Rattle.std.proofs.Common.{sym}
use Rattle.segment_lang.specs.Arguments.{texts_at}
use Rattle.segment_lang.specs.Reading.{quoted_of}
use Rattle.segment_lang.proofs.tokens.EachToken.{each_first, each_last, each_stays, moves_on, text_back, texts}
use Rattle.segment_lang.proofs.lists.TextLiteralsIterator.next.Goals as goal

pub returns-in_err-token-clause-steps : goal.returns-in_err-token-clause-steps
unfolding texts_at
returns-in_err-token-clause-steps c =
    each_last texts _ _ _ c.self.view_is (sym c.in_err-token.ensures.value) c.from_residual.ensures

pub invariant_of-self : goal.invariant_of-self
unfolding texts_at
invariant_of-self c = each_stays quoted_of _ _ _ (sym c.in_ok-token.ensures.value) c.self.invariant

pub returns-clause-steps : goal.returns-clause-steps
unfolding texts_at
returns-clause-steps c =
    each_first texts _ _ _ _ _ c.self.view_is (sym c.in_ok-token.ensures.value) c.self.invariant
    (text_back _ _ c.quoted_of.ensures)

pub returns-clause-goes : goal.returns-clause-goes
unfolding texts_at
returns-clause-goes c = moves_on _ _ _ _ _ tt
    (each_first texts _ _ _ _ _ c.self.view_is (sym c.in_ok-token.ensures.value) c.self.invariant
    (text_back _ _ c.quoted_of.ensures))
