use Rattle.segment_dump.proofs.Common.{◌+◌, [], ◌∷◌, length, None, sym, closed_text, Any, arith}
use Rattle.segment_dump.proofs.reading.Sizes.{can-name-fewer, can-name-here, can-name-more, can-name-none}
use Rattle.segment_dump.proofs.reading.Prefixes.{IsShort, as-seen, quotes-cut, quotes-end, quotes-more, quotes-start}
use Rattle.segment_dump.proofs.prefix_reading.quoted_len.Goals as goal

pub bytes-init : goal.bytes-init
bytes-init c = record { quotes = quotes-start c.args.text.now; long = can-name-none c.args.text.now }

pub returns-in-Some-clause-value : goal.returns-in-Some-clause-value
returns-in-Some-clause-value c =
    quotes-end c.args.text.now c.bytes.rest.now c.in-Some.end.now c.bytes.len c.in-Some.ensures c.bytes.invariant.quotes

pub returns-in-Some-clause-min_len : goal.returns-in-Some-clause-min_len
returns-in-Some-clause-min_len c =
    can-name-fewer c.args.text.now c.in-Some.end.now c.bytes.len (c.bytes.len + 1) (omega arith)
    (can-name-more c.args.text.now c.bytes.rest.now c.in-Some.end.now c.bytes.len 1 c.bytes.invariant.long
    (can-name-here c.bytes.rest.now (0x22 ∷ []) c.in-Some.end.now c.in-Some.ensures))

pub returns-in_err-rest-clause-value : goal.returns-in_err-rest-clause-value
returns-in_err-rest-clause-value c =
    as-seen closed_text IsShort Any length c.args.text.now None c.from_residual.result (sym c.from_residual.ensures)
    (quotes-cut c.args.text.now c.bytes.rest.now c.bytes.len c.behind_byte.result c.in_default.ensures
    c.bytes.invariant.quotes c.behind_byte.ensures.skip_count c.in_err-rest.was)

pub bytes-preserved : goal.bytes-preserved
bytes-preserved c = record {
  quotes = quotes-more c.args.text.now c.bytes.rest.now c.bytes.len c.behind_byte.result _ c.in_default.ensures
      c.bytes.invariant.quotes c.behind_byte.ensures.skip_count c.in_ok-rest.was;
  long = can-name-more c.args.text.now c.bytes.rest.now _ c.bytes.len 1 c.bytes.invariant.long
      c.in_ok-rest.ensures.non_empty;
}
