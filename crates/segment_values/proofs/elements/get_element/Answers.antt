-- The element is read from its bytes in the run.
use Rattle.std.proofs.Common.{◌≡◌, ◌+◌, ◌*◌, ap, arith, rules, sym, take, ◌∙◌}
use Rattle.std.specs.Prelude.{◌-◌, drop}
use Rattle.std.specs.Option.{ok_or}
use Rattle.raw_region.proofs.Laws.{read-part}
use Rattle.seg_types.specs.{declared.refusals.Refusal.TheVariants.WrongKind, Kinds.size_of, Names.ByHandle}
use Rattle.seg_types.specs.Values.{SpelledBy}
use Rattle.segment_manager.proofs.ElementLaws.{run-past, run-reads}
use Rattle.segment_values.proofs.{elements.InPlace.element-inside, elements.InPlace.slice-part}
use Rattle.segment_values.proofs.elements.get_element.Goals.{in-I64, in_default}
use Rattle.segment_values.proofs.elements.get_element.Goals as goal

pub returns : goal.returns
returns c =
    let s = c.args.segment.now in let key = ByHandle c.args.object.handle in let run = c.in_ok-run.run' in
    let k = run.kind in let i = c.args.index in
    let inside = element-inside s key run i c.in_ok-run.ensures.bytes (omega (arith, c.if-index-run.false)) in
    let from = run.offset + c.size-size.result * i in
    let bytes = take (from + c.size-size.result - from) (drop from c.as_bytes-image.result.now) in
    let value = elim c.match-run.branch as (λ _. SpelledBy k bytes c.match-run.value) [
      | in-I64 w ↦ rw (w.in-I64.is, w.value-is) (search rules)
      | in_default w ↦ rw w.value-is w.read-value.ensures
    ] in
    let gives : c.ok_or.result ≡ ok_or c.match-run.value WrongKind = c.ok_or.ensures.value in
    rw gives (run-reads s key i run c.in_ok-run.ensures.run c.in_ok-run.ensures.bytes
    (omega (arith, c.if-index-run.false)) _
    (slice-part c.as_bytes-image.ensures.bytes (ap (λ n. run.offset + n * i) c.size-size.ensures) c.size-size.ensures
    ∙ sym (read-part s.cut.bytes (run.offset + size_of k * i) (size_of k) inside)) c.match-run.value value)

pub returns-then-index-run : goal.returns-then-index-run
returns-then-index-run c = run-past c.args.segment.now (ByHandle c.args.object.handle) c.args.index
    c.in_ok-run.run' c.in_ok-run.ensures.run (omega (arith, c.if-index-run.true))
