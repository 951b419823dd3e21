use Rattle.segment_dump.proofs.Common.{◌^◌, ◌<◌, ◌∙◌, Some, None, sym, number_text, Breaks, itself}
use Rattle.segment_dump.proofs.reading.Prefixes.{as-seen, number-reads, number-whole_language}
use Rattle.segment_dump.proofs.prefix_reading.next_number.Goals as goal

pub returns-in_err-number-clause-value : goal.returns-in_err-number-clause-value
returns-in_err-number-clause-value c =
    let w = c.next_token in
    as-seen number_text (λ n. n < 2 ^ 64) Breaks itself c.args.text.now None c.from_residual.result
    (sym c.from_residual.ensures)
    (number-reads c.numbers_are_decimals.ensures c.args.text.now w.result.0.now w.result.1.now None
    (sym c.in_err-number.was ∙ c.number_of.ensures)
    (record { whole = w.ensures.contents; high = w.ensures.token; breaks = w.ensures.line_breaks }))

pub returns-clause-value : goal.returns-clause-value
returns-clause-value c =
    let w = c.next_token in
    number-reads c.numbers_are_decimals.ensures c.args.text.now w.result.0.now w.result.1.now
    (Some c.in_ok-number.number) (sym c.in_ok-number.was ∙ c.number_of.ensures)
    (record { whole = w.ensures.contents; high = w.ensures.token; breaks = w.ensures.line_breaks })

pub returns-clause-spelled : goal.returns-clause-spelled
returns-clause-spelled c =
    let w = c.next_token in
    number-whole_language c.numbers_are_decimals.ensures c.args.text.now w.result.0.now w.result.1.now
    c.in_ok-number.number
    (sym c.number_of.ensures ∙ c.in_ok-number.was) w.ensures.contents
