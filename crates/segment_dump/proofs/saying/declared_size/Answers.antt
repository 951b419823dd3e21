use Rattle.segment_dump.proofs.Common.{◌++◌, ◌∙◌, ap}
use Rattle.segment_dump.proofs.reading.DumpSize.{no-lead, no-number, said}
use Rattle.segment_dump.proofs.reading.PrefixLines.{before_size}
use Rattle.segment_dump.proofs.saying.declared_size.Goals as goal

pub returns-in_err-behind-clause-size : goal.returns-in_err-behind-clause-size
returns-in_err-behind-clause-size c = no-lead c.args.text.now c.from_residual.result c.in_err-behind.ensures

pub returns-in_err-size-clause-size : goal.returns-in_err-size-clause-size
returns-in_err-size-clause-size c = no-number c.args.text.now c.in_ok-behind.field-0.now c.in_ok-behind.ensures
    c.from_residual-in_err-size.result c.in_err-size.ensures.value

pub returns-clause-size : goal.returns-clause-size
returns-clause-size c = said c.args.text.now c.in_ok-behind.field-0.now c.in_ok-behind.ensures c.in_ok-size.size
    c.in_ok-size._rest.now c.in_ok-size.ensures.value

pub returns-clause-spelled : goal.returns-clause-spelled
returns-clause-spelled c = record {
  rest = c.in_ok-size._rest.now;
  begins = c.in_ok-behind.ensures ∙ ap (λ l. before_size ++ l) c.in_ok-size.ensures.spelled;
}
