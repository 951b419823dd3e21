-- The elements are read from their bytes in the run, which lie in the image.
use Rattle.std.proofs.Common.{◌∙◌, ◌*◌, ◌+◌, ◌<◌, ap, arith, length, subst, sym}
use Rattle.segment_manager.specs.State.{IsSegment}
use Rattle.segment_values.proofs.Located.{of-handle}
use Rattle.segment_values.proofs.elements.InPlace.{has-run, range-read, range-refused, range-small}
use Rattle.segment_values.proofs.elements.InPlace.{slice-part}
use Rattle.segment_values.proofs.elements.read_elements.Goals.{then-first-source-via-then-first-source}
use Rattle.segment_values.proofs.elements.read_elements.Goals.{then-first-source-via-else-first-source+then-series-source}
use Rattle.segment_values.proofs.elements.read_elements.Goals as goal

pub returns-in_err-source-clause-read : goal.returns-in_err-source-clause-read
returns-in_err-source-clause-read g c = record {
  answers = λ d st. absurd (has-run c.args.segment.now c.args.object (of-handle c.requires) g.T.Scalar.kind c.args.first
      0 (sym c.if-not-is_slice.ensures) _ c.in_err-source.ensures.run d st);
}

pub returns-then-first-source-clause-read : goal.returns-then-first-source-clause-read
returns-then-first-source-clause-read g c =
    let short : c.in_ok-source.source.count < c.args.first + length c.args.series.now =
    elim c.then-first-source.branch [
      | then-first-source-via-then-first-source w ↦ omega (arith, w.if-first-source.true)
      | then-first-source-via-else-first-source+then-series-source w ↦
          omega (arith, w.if-first-source.false, w.if-series-source.true)
    ] in
    range-refused c.args.segment.now c.args.object (of-handle c.requires) g.T.Scalar.kind c.args.first
    (length c.args.series.now) (sym c.if-not-is_slice.ensures) c.in_ok-source.source c.in_ok-source.ensures.run
    c.in_ok-source.ensures.bytes short

pub overflow_mul-from : goal.overflow_mul-from
overflow_mul-from g c =
    let small = range-small c.args.segment.now c.args.object (of-handle c.requires) g.T.Scalar.kind c.args.first
    (length c.args.series.now) (sym c.if-not-is_slice.ensures) c.in_ok-source.source c.in_ok-source.ensures.run
    c.in_ok-source.ensures.bytes (omega (arith, c.if-first-source.false, c.if-series-source.false))
    (subst IsSegment c.as_bytes-image.ensures.bytes c.as_bytes-image.ensures.denotation) c.SIZE.result
    (c.SIZE.ensures ∙ g.met.T.Scalar.size) in let few = small.0 in omega (arith, few)

pub overflow_add-from : goal.overflow_add-from
overflow_add-from g c =
    let small = range-small c.args.segment.now c.args.object (of-handle c.requires) g.T.Scalar.kind c.args.first
    (length c.args.series.now) (sym c.if-not-is_slice.ensures) c.in_ok-source.source c.in_ok-source.ensures.run
    c.in_ok-source.ensures.bytes (omega (arith, c.if-first-source.false, c.if-series-source.false))
    (subst IsSegment c.as_bytes-image.ensures.bytes c.as_bytes-image.ensures.denotation) c.SIZE.result
    (c.SIZE.ensures ∙ g.met.T.Scalar.size) in let few = small.1 in omega (arith, few)

pub overflow_mul-len : goal.overflow_mul-len
overflow_mul-len g c =
    let small = range-small c.args.segment.now c.args.object (of-handle c.requires) g.T.Scalar.kind c.args.first
    (length c.args.series.now) (sym c.if-not-is_slice.ensures) c.in_ok-source.source c.in_ok-source.ensures.run
    c.in_ok-source.ensures.bytes (omega (arith, c.if-first-source.false, c.if-series-source.false))
    (subst IsSegment c.as_bytes-image.ensures.bytes c.as_bytes-image.ensures.denotation) c.SIZE-2.result
    (c.SIZE-2.ensures ∙ g.met.T.Scalar.size) in let few = small.2 in omega (arith, few)

pub overflow_add-from-2 : goal.overflow_add-from-2
overflow_add-from-2 g c =
    let small = range-small c.args.segment.now c.args.object (of-handle c.requires) g.T.Scalar.kind c.args.first
    (length c.args.series.now) (sym c.if-not-is_slice.ensures) c.in_ok-source.source c.in_ok-source.ensures.run
    c.in_ok-source.ensures.bytes (omega (arith, c.if-first-source.false, c.if-series-source.false))
    (subst IsSegment c.as_bytes-image.ensures.bytes c.as_bytes-image.ensures.denotation) in
    let few = (small c.SIZE.result (c.SIZE.ensures ∙ g.met.T.Scalar.size)).1 in
    let more = (small c.SIZE-2.result (c.SIZE-2.ensures ∙ g.met.T.Scalar.size)).2 in omega (arith, few, more)

pub slice_bounds-read_values-end : goal.slice_bounds-read_values-end
slice_bounds-read_values-end g c =
    let small = range-small c.args.segment.now c.args.object (of-handle c.requires) g.T.Scalar.kind c.args.first
    (length c.args.series.now) (sym c.if-not-is_slice.ensures) c.in_ok-source.source c.in_ok-source.ensures.run
    c.in_ok-source.ensures.bytes (omega (arith, c.if-first-source.false, c.if-series-source.false))
    (subst IsSegment c.as_bytes-image.ensures.bytes c.as_bytes-image.ensures.denotation) g.T.Plain.SIZE
    g.met.T.Scalar.size in
    rw (c.SIZE.ensures, c.SIZE-2.ensures, c.as_bytes-image.ensures.bytes) small.3

pub returns-clause-read : goal.returns-clause-read
returns-clause-read g c =
    let n = length c.args.series.now in
    let size = c.SIZE.ensures ∙ g.met.T.Scalar.size in
    let each = c.SIZE-2.ensures ∙ g.met.T.Scalar.size in
    range-read c.args.segment.now c.args.object (of-handle c.requires) g.T.Scalar.kind c.args.first n
    (sym c.if-not-is_slice.ensures) c.in_ok-source.source c.in_ok-source.ensures.run c.in_ok-source.ensures.bytes
    (omega (arith, c.if-first-source.false, c.if-series-source.false)) _
    (slice-part c.as_bytes-image.ensures.bytes (ap (λ m. c.in_ok-source.source.offset + m * c.args.first) size)
    (ap (λ m. m * n) each)) _ c.read_values.ensures
