use Rattle.segment_lang.proofs.tokens.AllTokens.{behind_prefix}
use Rattle.segment_lang.proofs.tokens.next_token.Goals as goal

pub returns-clause-shrinking : goal.returns-clause-shrinking
returns-clause-shrinking c =
    behind_prefix c.args.bytes.now _ _ c.skip_blanks-bytes.ensures.value c.skip_blanks-bytes.ensures.shrinking
    c.in-len1-up.len_at_least c.in_ok-token.ensures.shrinking
