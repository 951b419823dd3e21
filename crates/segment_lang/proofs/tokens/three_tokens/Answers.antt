use Rattle.std.proofs.Common.{refl}
use Rattle.segment_lang.specs.Tokens.{three_tokens}
use Rattle.segment_lang.proofs.tokens.three_tokens.Goals as goal

pub returns-in_err-first : goal.returns-in_err-first
unfolding three_tokens
returns-in_err-first c = rw (c.from_residual.ensures, ← c.in_err-first.ensures.value) refl

pub returns-in_err-second : goal.returns-in_err-second
unfolding three_tokens
returns-in_err-second c =
    rw (c.from_residual-in_err-second.ensures, ← c.in_ok-first.ensures.value, ← c.in_err-second.ensures) refl

pub returns : goal.returns
unfolding three_tokens
returns c = rw (← c.in_ok-first.ensures.value, ← c.in_ok-second.ensures) refl
