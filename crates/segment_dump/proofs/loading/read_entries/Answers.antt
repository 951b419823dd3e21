use Rattle.segment_dump.proofs.reading.PrefixSteps.{entries-more, entries-no_named, entries-no_unique, entries-none}
use Rattle.segment_dump.proofs.reading.PrefixSteps.{entries-some}
use Rattle.segment_dump.proofs.loading.read_entries.Goals as goal

pub returns-in_err-tokens-clause-reading : goal.returns-in_err-tokens-clause-reading
returns-in_err-tokens-clause-reading c = entries-none c.numbers_are_decimals.ensures c.in_err-tokens.ensures.lead

pub returns-in_err-named-clause-reading : goal.returns-in_err-named-clause-reading
returns-in_err-named-clause-reading c = entries-no_named c.numbers_are_decimals.ensures c.in_ok-tokens.ensures.lead
    c.in_err-named.ensures.token

pub returns-in_err-unique-clause-reading : goal.returns-in_err-unique-clause-reading
returns-in_err-unique-clause-reading c = entries-no_unique c.numbers_are_decimals.ensures c.in_ok-tokens.ensures.lead
    c.in_ok-named.ensures.token
    c.in_err-unique.ensures.token

pub returns-in_err-finish-clause-reading : goal.returns-in_err-finish-clause-reading
returns-in_err-finish-clause-reading c = entries-more c.numbers_are_decimals.ensures c.in_ok-tokens.ensures.lead
    c.in_ok-named.ensures.token
    c.in_ok-unique.ensures.token c.in_err-finish.ensures

pub returns-clause-reading : goal.returns-clause-reading
returns-clause-reading c = entries-some c.numbers_are_decimals.ensures c.in_ok-tokens.ensures.lead
    c.in_ok-named.ensures.token
    c.in_ok-unique.ensures.token

pub returns-clause-entries : goal.returns-clause-entries
returns-clause-entries c = record {
  first = c.in_ok-named.ensures.exact.token;
  first_is = c.in_ok-named.ensures.exact.is;
  second = c.in_ok-unique.ensures.exact.token;
  second_is = c.in_ok-unique.ensures.exact.is;
  has = record {
    line = c.in_ok-tokens.ensures.exact.0;
    is = c.in_ok-tokens.ensures.exact.1;
    has = (
      c.in_ok-tokens.tokens,
      c.in_ok-tokens.ensures.exact.2,
      (
        c.next_number.new.self,
        c.in_ok-named.ensures.exact.read,
        (
          c.next_number-2.new.self,
          c.in_ok-unique.ensures.exact.read,
          c.in_ok-finish.ensures.exact,
        ),
      ),
    );
  };
}
