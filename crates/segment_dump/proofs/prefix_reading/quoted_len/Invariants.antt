use Rattle.segment_dump.proofs.reading.Prefixes.{InQuotes}
use Rattle.segment_dump.specs.Asked.{Begins, CanName}
use Rattle.segment_dump.proofs.prefix_reading.quoted_len.Given as goal

abbrev pub invariant-bytes : goal.invariant-bytes
invariant-bytes l = record { quotes : InQuotes l.text l.rest l.len; long : Begins CanName l.text l.len l.rest }
