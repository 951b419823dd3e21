use Rattle.segment_dump.proofs.prefix_reading.behind_lines.Goals as goal
use Rattle.segment_dump.proofs.Common.{◌≡◌, ℕ, sym, subst, arith, AreLines, Skips, lines_text, seen_rest}
use Rattle.segment_dump.specs.Asked.{Begins, IsLined}
use Rattle.segment_dump.proofs.reading.Sizes.{lined-more, lined-none}
use Rattle.segment_dump.proofs.reading.Prefixes.{lines-cut, lines-end, lines-more, lines-start}

pub lines-init : goal.lines-init
lines-init c = record { skips = lines-start c.args.text.now c.args.count; lined = lined-none c.args.text.now }

pub returns-in_err-rest-clause-skip_count : goal.returns-in_err-rest-clause-skip_count
returns-in_err-rest-clause-skip_count c =
    subst (λ o. Skips lines_text (AreLines c.args.count) c.args.text.now (seen_rest o)) (sym c.from_residual.ensures)
    (lines-cut c.args.text.now c.lines.rest.now c.args.count c.lines.counter c.behind_line.result (omega (
      arith,
      c.lines-test.true,
    )) c.lines.invariant.skips c.behind_line.ensures.skip_count c.in_err-rest.was)

pub lines-preserved : goal.lines-preserved
lines-preserved c = record {
  skips = lines-more c.args.text.now c.lines.rest.now c.args.count c.lines.counter c.behind_line.result _
      (omega (arith, c.lines-test.true)) c.lines.invariant.skips c.behind_line.ensures.skip_count c.in_ok-rest.was;
  lined = lined-more c.args.text.now c.lines.rest.now _ c.lines.counter 1 c.lines.invariant.lined
      c.in_ok-rest.ensures.line;
}

pub returns-clause-skip_count : goal.returns-clause-skip_count
returns-clause-skip_count c = lines-end c.args.text.now c.lines.rest.now c.args.count c.lines.counter (omega (
  arith,
  c.lines-test.false,
)) c.lines.invariant.skips

pub returns-clause-line : goal.returns-clause-line
returns-clause-line c =
    let all : c.lines.counter ≡ c.args.count = omega (arith, c.lines-test.false) in
    subst (λ (n : ℕ). Begins IsLined c.args.text.now n c.lines.rest.now) all c.lines.invariant.lined
