use Rattle.segment_dump.proofs.Common.{token_of, value_token}
use Rattle.segment_dump.proofs.reading.Lines.{no-token, read-token}
use Rattle.segment_dump.proofs.reading.Elements.{value-kind}
use Rattle.segment_dump.proofs.tokens.LineTokens.next_value.Goals as goal

pub returns-in_err-next_token-clause-value : goal.returns-in_err-next_token-clause-value
returns-in_err-next_token-clause-value c = no-token c.args.self.now c.next_token.new.self (value_token c.args.kind) _
    c.from_residual.result c.in_err-next_token.ensures.token

pub returns-clause-value : goal.returns-clause-value
returns-clause-value c = read-token c.args.self.now c.next_token.new.self (value_token c.args.kind) (token_of
    c.in_ok-next_token.field-0)
    c.scalar_of.result _ c.ok_or.result c.in_ok-next_token.ensures.token c.scalar_of.ensures c.ok_or.ensures.value

pub returns-clause-kind : goal.returns-clause-kind
returns-clause-kind c =
    value-kind c.args.kind _ c.scalar_of.result _ c.ok_or.result c.scalar_of.ensures c.ok_or.ensures.value
