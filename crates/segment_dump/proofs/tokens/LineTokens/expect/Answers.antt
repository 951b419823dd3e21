use Rattle.segment_dump.proofs.tokens.LineTokens.expect.Goals as goal
use Rattle.segment_dump.proofs.{Common.false≢true, reading.Lines.is-this, reading.Lines.not-this}
use Rattle.segment_dump.proofs.{reading.Lines.other-this}
use Rattle.segment_dump.proofs.Common.{Bare, Some, ap, refl, ◌∙◌}

pub returns-in_err-bytes-clause-token : goal.returns-in_err-bytes-clause-token
returns-in_err-bytes-clause-token c = not-this c.args.self.now c.next_bare.new.self c.args.token.now _
    c.from_residual.result
    c.in_err-bytes.ensures.token

pub returns-then-is_same-clause-token : goal.returns-then-is_same-clause-token
returns-then-is_same-clause-token c = is-this c.args.self.now c.next_bare.new.self c.args.token.now
    c.in_ok-bytes.bytes.now
    c.in_ok-bytes.ensures.token

pub returns-else-is_same-clause-token : goal.returns-else-is_same-clause-token
returns-else-is_same-clause-token c = other-this c.args.self.now c.next_bare.new.self c.args.token.now
    c.in_ok-bytes.bytes.now _
    c.in_ok-bytes.ensures.token (λ e. false≢true (c.if-is_same.ensures.1 e))

pub returns-then-is_same-clause-exact : goal.returns-then-is_same-clause-exact
returns-then-is_same-clause-exact c = c.in_ok-bytes.ensures.exact
    ∙ ap (λ b. Some (Bare b, c.next_bare.new.self)) (c.if-is_same.ensures.0 refl)
