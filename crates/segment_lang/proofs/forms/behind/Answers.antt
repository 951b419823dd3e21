use Rattle.std.proofs.Common.{false, true, rules}
use Rattle.segment_lang.proofs.tokens.FirstTokens.{first_token, in_prefix}
use Rattle.segment_lang.proofs.forms.behind.Goals as goal

pub returns-then-not-ends_token : goal.returns-then-not-ends_token
returns-then-not-ends_token c =
    let cases = c.in_ok-rest.ensures.cases in
    first_token c.args.line.now c.args.token.now c.in_ok-rest.rest.now false (in_prefix _ _ _ cases.0 cases.1)
    c.requires
    (search rules)

pub returns : goal.returns
returns c =
    let cases = c.in_ok-rest.ensures.cases in
    first_token c.args.line.now c.args.token.now c.in_ok-rest.rest.now true (in_prefix _ _ _ cases.0 cases.1) c.requires
    (search rules)
