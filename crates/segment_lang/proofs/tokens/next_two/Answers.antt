use Rattle.std.proofs.Common.{refl}
use Rattle.segment_lang.specs.Tokens.{next_two}
use Rattle.segment_lang.proofs.tokens.next_two.Goals as goal

pub returns-in_err-first : goal.returns-in_err-first
unfolding next_two
returns-in_err-first c = rw (c.from_residual.ensures, ← c.in_err-first.ensures.value) refl

pub returns-in_err-second : goal.returns-in_err-second
unfolding next_two
returns-in_err-second c =
    rw (c.from_residual-in_err-second.ensures, ← c.in_ok-first.ensures.value, ← c.in_err-second.ensures.value) refl

pub returns : goal.returns
unfolding next_two
returns c = rw (← c.in_ok-first.ensures.value, ← c.in_ok-second.ensures.value) refl
