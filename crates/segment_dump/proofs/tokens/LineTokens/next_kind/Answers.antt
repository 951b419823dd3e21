use Rattle.segment_dump.proofs.Common.{current, whole_language, kind_of_token, token_of}
use Rattle.segment_dump.proofs.reading.Lines.{no-token, read-token}
use Rattle.segment_dump.proofs.tokens.LineTokens.next_kind.Goals as goal

pub returns-in_err-next_token : goal.returns-in_err-next_token
returns-in_err-next_token c = no-token c.args.self.now c.next_token.new.self (kind_of_token (whole_language current)) _
    c.from_residual.result c.in_err-next_token.ensures.token

pub returns : goal.returns
returns c = read-token c.args.self.now c.next_token.new.self (kind_of_token (whole_language current))
    (token_of c.in_ok-next_token.field-0) c.kind_of_token.result _ c.ok_or.result c.in_ok-next_token.ensures.token
    c.kind_of_token.ensures c.ok_or.ensures.value
