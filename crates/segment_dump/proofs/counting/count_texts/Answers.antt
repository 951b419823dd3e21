use Rattle.segment_dump.proofs.counting.count_texts.Goals as goal
use Rattle.segment_dump.proofs.Common.{◌≡◌, ℕ, ◌+◌, ◌<◌, None, sym, subst, arith, flat_map, AreTexts, Needs, all_needs}
use Rattle.segment_dump.proofs.Common.{both, text_needs, Any, text_lines}
use Rattle.segment_dump.specs.Asked.{AskTogether, AsksText, Begins}
use Rattle.segment_dump.proofs.{reading.Sizes.more-asks, reading.Sizes.none-asks, reading.Prefixes.as-seen}
use Rattle.segment_dump.proofs.counting.Contents.{texts-cut, texts-end, texts-more, texts-start}

pub texts-init : goal.texts-init
texts-init c = record {
  left = texts-start c.args.text.now c.args.count c.only_room-needs.result c.only_room-needs.ensures;
  asks = none-asks AsksText c.args.text.now c.only_room-needs.result c.only_room-needs.ensures;
}

pub returns-in_err-len-clause-value : goal.returns-in_err-len-clause-value
returns-in_err-len-clause-value c =
    as-seen (flat_map text_lines) (AreTexts c.args.count) Any (all_needs text_needs) c.args.text.now None
    c.from_residual.result (sym c.from_residual.ensures)
    (texts-cut c.args.text.now c.texts.rest.now c.texts.needs c.args.count c.texts.counter (omega (
      arith,
      c.texts-test.true,
    )) c.texts.invariant.left c.in_err-len.ensures.value)

pub texts-preserved : goal.texts-preserved
texts-preserved c = record {
  left = texts-more c.args.text.now c.texts.rest.now c.texts.needs c.and-needs.result c.args.count c.texts.counter
      c.in_ok-len.len c.in_ok-len.behind.now (omega (arith, c.texts-test.true)) c.texts.invariant.left
      c.in_ok-len.ensures.value (subst (λ (n : Needs). c.texts.needs.room + n.room < 18446744073709551616
      → c.and-needs.result ≡ both c.texts.needs n) c.text_needs.ensures c.and-needs.ensures.sum);
  asks = let text = c.in_ok-len.ensures.text in
      more-asks AsksText c.args.text.now c.texts.rest.now c.in_ok-len.behind.now c.texts.counter c.texts.needs
      c.text_needs.result c.and-needs.result c.texts.invariant.asks
      (record { bytes = text.bytes; is = text.is; says = (c.in_ok-len.len, text.says, c.text_needs.ensures) })
      c.and-needs.ensures.most;
}

pub returns-clause-value : goal.returns-clause-value
returns-clause-value c = texts-end c.args.text.now c.texts.rest.now c.texts.needs c.args.count c.texts.counter
    (omega (arith, c.texts-test.false)) c.texts.invariant.left

pub returns-clause-questions : goal.returns-clause-questions
returns-clause-questions c =
    let all : c.texts.counter ≡ c.args.count = omega (arith, c.texts-test.false) in
    subst (λ (n : ℕ). Begins (AskTogether AsksText n) c.args.text.now c.texts.needs c.texts.rest.now) all
    c.texts.invariant.asks
