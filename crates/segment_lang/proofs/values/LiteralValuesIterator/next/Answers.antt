use Rattle.std.proofs.Common.{sym}
use Rattle.segment_lang.proofs.values.Arrays.{first_left, none_left, stays_good}
use Rattle.segment_lang.proofs.tokens.EachToken.{moves_on}
use Rattle.segment_lang.proofs.values.LiteralValuesIterator.next.Goals as goal

pub returns-in_err-token-clause-steps : goal.returns-in_err-token-clause-steps
returns-in_err-token-clause-steps c = none_left _ _ _ _ c.self.view_is (sym c.in_err-token.ensures.value)
    c.from_residual.ensures

pub invariant_of-self : goal.invariant_of-self
invariant_of-self c = stays_good _ _ _ _ (sym c.in_ok-token.ensures.value) c.self.invariant

pub returns-clause-steps : goal.returns-clause-steps
returns-clause-steps c = first_left _ _ _ _ _ _ c.self.view_is (sym c.in_ok-token.ensures.value) c.self.invariant
    c.scalar_of.ensures

pub returns-clause-goes : goal.returns-clause-goes
returns-clause-goes c = moves_on _ _ _ _ _ tt (first_left _ _ _ _ _ _ c.self.view_is (sym c.in_ok-token.ensures.value)
    c.self.invariant c.scalar_of.ensures)
