use Rattle.std.proofs.Common.{sym}
use Rattle.segment_lang.specs.Arguments.{literals_at}
use Rattle.segment_lang.specs.Lexing.{literal_of_token}
use Rattle.segment_lang.proofs.tokens.EachToken.{each_first, each_last, each_stays, literal_back, literals, moves_on}
use Rattle.segment_lang.proofs.lists.LiteralsIterator.next.Goals as goal

pub returns-in_err-token-clause-steps : goal.returns-in_err-token-clause-steps
unfolding literals_at
returns-in_err-token-clause-steps c =
    each_last literals _ _ _ c.self.view_is (sym c.in_err-token.ensures.value) c.from_residual.ensures

pub invariant_of-self : goal.invariant_of-self
unfolding literals_at
invariant_of-self c = each_stays literal_of_token _ _ _ (sym c.in_ok-token.ensures.value) c.self.invariant

pub returns-clause-steps : goal.returns-clause-steps
unfolding literals_at
returns-clause-steps c =
    each_first literals _ _ _ _ _ c.self.view_is (sym c.in_ok-token.ensures.value) c.self.invariant
    (literal_back _ _ c.literal_of.ensures)

pub returns-clause-goes : goal.returns-clause-goes
unfolding literals_at
returns-clause-goes c = moves_on _ _ _ _ _ tt
    (each_first literals _ _ _ _ _ c.self.view_is (sym c.in_ok-token.ensures.value) c.self.invariant
    (literal_back _ _ c.literal_of.ensures))
