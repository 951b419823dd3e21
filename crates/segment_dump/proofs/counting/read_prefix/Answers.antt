use Rattle.segment_dump.proofs.Common.{None, sym, IsDumpPrefix, fronted, Any, itself}
use Rattle.segment_dump.proofs.reading.PrefixLines.{prefix-no_entries, prefix-none, prefix-some, prefix-whole}
use Rattle.segment_dump.proofs.reading.Prefixes.{as-seen}
use Rattle.segment_dump.proofs.counting.read_prefix.Goals as goal

pub returns-in_err-behind-clause-value : goal.returns-in_err-behind-clause-value
returns-in_err-behind-clause-value c =
    as-seen fronted IsDumpPrefix Any itself c.args.text.now None c.from_residual.result (sym c.from_residual.ensures)
    (prefix-none c.args.text.now c.in_err-behind.ensures)

pub returns-in_err-named-clause-value : goal.returns-in_err-named-clause-value
returns-in_err-named-clause-value c =
    as-seen fronted IsDumpPrefix Any itself c.args.text.now None c.from_residual-in_err-named.result
    (sym c.from_residual-in_err-named.ensures)
    (prefix-no_entries c.args.text.now c.in_ok-behind.field-0.now c.in_ok-size.size c.in_ok-size.rest.now
    c.in_ok-behind-2.field-0.now c.in_ok-behind.ensures c.in_ok-size.ensures.value c.in_ok-behind-2.ensures
    c.in_err-named.ensures.value)

pub returns-clause-value : goal.returns-clause-value
returns-clause-value c =
    prefix-some c.args.text.now c.in_ok-behind.field-0.now c.in_ok-size.size c.in_ok-size.rest.now
    c.in_ok-behind-2.field-0.now c.in_ok-named.named c.in_ok-named.unique c.in_ok-named.rest.now
    c.in_ok-behind.ensures c.in_ok-size.ensures.value c.in_ok-behind-2.ensures c.in_ok-named.ensures.value

pub returns-clause-spelled : goal.returns-clause-spelled
returns-clause-spelled c =
    prefix-whole c.args.text.now c.in_ok-behind.field-0.now c.in_ok-size.size c.in_ok-size.rest.now
    c.in_ok-behind-2.field-0.now c.in_ok-named.named c.in_ok-named.unique c.in_ok-named.rest.now
    c.in_ok-behind.ensures c.in_ok-size.ensures.spelled c.in_ok-behind-2.ensures c.in_ok-named.ensures.spelled
