use Rattle.segment_dump.proofs.reading.PrefixSteps.{size-more, size-no_number, size-none, size-some}
use Rattle.segment_dump.proofs.loading.read_size.Goals as goal

pub returns-in_err-tokens-clause-reading : goal.returns-in_err-tokens-clause-reading
returns-in_err-tokens-clause-reading c = size-none c.numbers_are_decimals.ensures c.in_err-tokens.ensures.lead

pub returns-in_err-size-clause-reading : goal.returns-in_err-size-clause-reading
returns-in_err-size-clause-reading c = size-no_number c.numbers_are_decimals.ensures c.in_ok-tokens.ensures.lead
    c.in_err-size.ensures.token

pub returns-in_err-finish-clause-reading : goal.returns-in_err-finish-clause-reading
returns-in_err-finish-clause-reading c = size-more c.numbers_are_decimals.ensures c.in_ok-tokens.ensures.lead
    c.in_ok-size.ensures.token
    c.in_err-finish.ensures

pub returns-clause-reading : goal.returns-clause-reading
returns-clause-reading c = size-some c.numbers_are_decimals.ensures c.in_ok-tokens.ensures.lead
    c.in_ok-size.ensures.token

pub returns-clause-size : goal.returns-clause-size
returns-clause-size c = record {
  token = c.in_ok-size.ensures.exact.token;
  is = c.in_ok-size.ensures.exact.is;
  has = record {
    line = c.in_ok-tokens.ensures.exact.0;
    is = c.in_ok-tokens.ensures.exact.1;
    has = (
      c.in_ok-tokens.tokens,
      c.in_ok-tokens.ensures.exact.2,
      (
        c.next_number.new.self,
        c.in_ok-size.ensures.exact.read,
        c.in_ok-finish.ensures.exact,
      ),
    );
  };
}
