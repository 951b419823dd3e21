use Rattle.std.proofs.Common.{sym}
use Rattle.segment_lang.proofs.tokens.BareTokens.{prefix_is_none, prefix_is_token, token_and_rest}
use Rattle.segment_lang.proofs.tokens.read_bare.Goals as goal

pub returns-then-not-ends_token-clause-value : goal.returns-then-not-ends_token-clause-value
returns-then-not-ends_token-clause-value c =
    prefix_is_none c.args.bytes.now c.split_bare.result.1.now c.ends_token.result c.split_bare.ensures.rest
    c.ends_token.ensures
    c.if-not-ends_token.true

pub returns-clause-value : goal.returns-clause-value
returns-clause-value c =
    prefix_is_token c.args.bytes.now c.split_bare.result.0.now c.split_bare.result.1.now c.ends_token.result
    c.split_bare.ensures.prefix c.split_bare.ensures.rest c.ends_token.ensures c.if-not-ends_token.false

pub returns-clause-shrinking : goal.returns-clause-shrinking
returns-clause-shrinking c =
    token_and_rest c.args.bytes.now c.split_bare.result.0.now c.split_bare.result.1.now
    (sym (prefix_is_token c.args.bytes.now
    c.split_bare.result.0.now c.split_bare.result.1.now c.ends_token.result c.split_bare.ensures.prefix
    c.split_bare.ensures.rest c.ends_token.ensures c.if-not-ends_token.false))
