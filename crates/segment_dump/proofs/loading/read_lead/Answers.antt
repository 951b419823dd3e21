use Rattle.segment_dump.proofs.reading.PrefixSteps.{lead-none, lead-other, lead-some}
use Rattle.segment_dump.proofs.loading.read_lead.Goals as goal

pub returns-in_err-tokens-clause-lead : goal.returns-in_err-tokens-clause-lead
returns-in_err-tokens-clause-lead c = lead-none c.in_err-tokens.ensures.line

pub returns-in_err-expect-clause-lead : goal.returns-in_err-expect-clause-lead
returns-in_err-expect-clause-lead c = lead-other c.in_ok-tokens.ensures.line c.in_err-expect.ensures.token

pub returns-clause-lead : goal.returns-clause-lead
returns-clause-lead c = lead-some c.in_ok-tokens.ensures.line c.in_ok-expect.ensures.token

pub returns-clause-exact : goal.returns-clause-exact
returns-clause-exact c = (c.in_ok-tokens.tokens, c.in_ok-tokens.ensures.exact, c.in_ok-expect.ensures.exact)
