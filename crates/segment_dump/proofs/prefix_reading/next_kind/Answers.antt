use Rattle.segment_dump.proofs.Common.{◌∙◌, Some, None, sym, kind_text, Any, Breaks, itself}
use Rattle.segment_dump.proofs.reading.Prefixes.{as-seen, kind-reads}
use Rattle.segment_dump.proofs.prefix_reading.next_kind.Goals as goal

pub returns-in_err-kind-clause-value : goal.returns-in_err-kind-clause-value
returns-in_err-kind-clause-value c =
    let w = c.next_token in
    as-seen kind_text Any Breaks itself c.args.text.now None c.from_residual.result (sym c.from_residual.ensures)
    (kind-reads c.args.text.now w.result.0.now w.result.1.now None (sym c.in_err-kind.was ∙ c.kind_of_token.ensures)
    (record { whole = w.ensures.contents; high = w.ensures.token; breaks = w.ensures.line_breaks }))

pub returns-clause-value : goal.returns-clause-value
returns-clause-value c =
    let w = c.next_token in
    kind-reads c.args.text.now w.result.0.now w.result.1.now (Some c.in_ok-kind.kind) (sym c.in_ok-kind.was
    ∙ c.kind_of_token.ensures)
    (record { whole = w.ensures.contents; high = w.ensures.token; breaks = w.ensures.line_breaks })

pub returns-clause-named : goal.returns-clause-named
returns-clause-named c =
    let w = c.next_token in
    record { bytes = w.result.0.now; is = w.ensures.contents; says = sym c.kind_of_token.ensures ∙ c.in_ok-kind.was }
