use Rattle.segment_dump.proofs.loading.Dropped.{on-end}
use Rattle.segment_dump.proofs.reading.PrefixSteps.{version-no_dump, version-no_one, version-none, version-some}
use Rattle.segment_dump.proofs.loading.read_version.Goals as goal

pub returns-in_err-tokens-clause-reading : goal.returns-in_err-tokens-clause-reading
returns-in_err-tokens-clause-reading c = version-none c.in_err-tokens.ensures.lead

pub returns-in_err-expect-clause-reading : goal.returns-in_err-expect-clause-reading
returns-in_err-expect-clause-reading c = version-no_dump c.in_ok-tokens.ensures.lead c.in_err-expect.ensures.token

pub returns-in_err-expect-2-clause-reading : goal.returns-in_err-expect-2-clause-reading
returns-in_err-expect-2-clause-reading c = version-no_one c.in_ok-tokens.ensures.lead c.in_ok-expect.ensures.token
    c.in_err-expect-2.ensures.token

pub returns-clause-reading : goal.returns-clause-reading
returns-clause-reading c = version-some c.in_ok-tokens.ensures.lead c.in_ok-expect.ensures.token
    c.in_ok-expect-2.ensures.token c.finish.ensures

pub returns-clause-version : goal.returns-clause-version
returns-clause-version c = on-end c.finish.result c.finish.ensures.exact (λ end. record {
  line = c.in_ok-tokens.ensures.exact.0;
  is = c.in_ok-tokens.ensures.exact.1;
  has = (
    c.in_ok-tokens.tokens,
    c.in_ok-tokens.ensures.exact.2,
    (
      c.expect.new.self,
      c.in_ok-expect.ensures.exact,
      (c.expect-2.new.self, c.in_ok-expect-2.ensures.exact, end),
    ),
  );
})
