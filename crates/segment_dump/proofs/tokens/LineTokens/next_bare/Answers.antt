use Rattle.segment_dump.proofs.Common.{ap, ◌∙◌, Some, token_of, bare_token}
use Rattle.segment_dump.specs.Lines.{seen_bytes}
use Rattle.segment_dump.proofs.reading.Lines.{no-token, other-token, this-token}
use Rattle.segment_dump.proofs.tokens.LineTokens.next_bare.Goals as goal

pub returns-in_err-bytes-clause-token : goal.returns-in_err-bytes-clause-token
returns-in_err-bytes-clause-token c = no-token c.args.self.now c.next_token.new.self bare_token _
    (seen_bytes c.from_residual.result) c.in_err-bytes.ensures.token

pub returns-in-Bare-clause-token : goal.returns-in-Bare-clause-token
returns-in-Bare-clause-token c = this-token c.args.self.now c.next_token.new.self bare_token (token_of
    c.in_ok-bytes.field-0)
    c.in-Bare.bytes.now c.in_ok-bytes.ensures.token (ap (λ w. bare_token (token_of w)) c.in-Bare.is)

pub returns-in-Text-clause-token : goal.returns-in-Text-clause-token
returns-in-Text-clause-token c = other-token c.args.self.now c.next_token.new.self bare_token (token_of
    c.in_ok-bytes.field-0) _
    c.in_ok-bytes.ensures.token (ap (λ w. bare_token (token_of w)) c.in-Text.is)

pub returns-in-Bare-clause-exact : goal.returns-in-Bare-clause-exact
returns-in-Bare-clause-exact c = c.in_ok-bytes.ensures.exact
    ∙ ap (λ w. Some (token_of w, c.next_token.new.self)) c.in-Bare.is
