use Rattle.segment_dump.proofs.Common.{ap, token_of, quoted_token}
use Rattle.segment_dump.proofs.reading.Lines.{no-token, other-token, this-token}
use Rattle.segment_dump.proofs.tokens.LineTokens.next_text.Goals as goal

pub returns-in_err-next_token-clause-token : goal.returns-in_err-next_token-clause-token
returns-in_err-next_token-clause-token c =
    no-token c.args.self.now c.next_token.new.self quoted_token _ c.from_residual.result
    c.in_err-next_token.ensures.token

pub returns-in-Bare-clause-token : goal.returns-in-Bare-clause-token
returns-in-Bare-clause-token c =
    other-token c.args.self.now c.next_token.new.self quoted_token (token_of c.in_ok-next_token.field-0) _
    c.in_ok-next_token.ensures.token (ap (λ w. quoted_token (token_of w)) c.in-Bare.is)

pub returns-in-Text-clause-token : goal.returns-in-Text-clause-token
returns-in-Text-clause-token c =
    this-token c.args.self.now c.next_token.new.self quoted_token (token_of c.in_ok-next_token.field-0) c.in-Text.text
    c.in_ok-next_token.ensures.token (ap (λ w. quoted_token (token_of w)) c.in-Text.is)
