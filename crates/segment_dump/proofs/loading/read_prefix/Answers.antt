use Rattle.segment_dump.proofs.reading.PrefixSteps.{prefix-all, prefix-entries, prefix-size, prefix-version}
use Rattle.segment_dump.proofs.loading.read_prefix.Goals as goal

pub returns-in_err-read_version-clause-reading : goal.returns-in_err-read_version-clause-reading
returns-in_err-read_version-clause-reading c = prefix-version c.in_err-read_version.ensures.reading

pub returns-in_err-size-clause-reading : goal.returns-in_err-size-clause-reading
returns-in_err-size-clause-reading c = prefix-size c.in_ok-read_version.ensures.reading c.in_err-size.ensures.reading

pub returns-in_err-named-clause-reading : goal.returns-in_err-named-clause-reading
returns-in_err-named-clause-reading c = prefix-entries c.in_ok-read_version.ensures.reading c.in_ok-size.ensures.reading
    c.in_err-named.ensures.reading

pub returns-clause-reading : goal.returns-clause-reading
returns-clause-reading c = prefix-all c.in_ok-read_version.ensures.reading c.in_ok-size.ensures.reading
    c.in_ok-named.ensures.reading

pub returns-clause-prefix : goal.returns-clause-prefix
returns-clause-prefix c = record {
  sized = c.read_version.new.lines;
  version = c.in_ok-read_version.ensures.version;
  size = c.in_ok-size.size;
  indexed = c.read_size.new.lines;
  size_is = c.in_ok-size.ensures.size;
  named = c.in_ok-named.named;
  unique = c.in_ok-named.unique;
  rest = c.read_entries.new.lines;
  entries = c.in_ok-named.ensures.entries;
}
