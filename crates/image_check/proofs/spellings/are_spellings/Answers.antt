-- Each turn passes one element.
use Rattle.image_check.proofs.Common.{arith, bytes_of, is_spelling, read, size_of, sym, ℕ, ◌*◌, ◌+◌, ◌∙◌}
use Rattle.std.proofs.Common.{Bool}
use Rattle.image_check.proofs.objects.HeadBytes.{element-spelled}
use Rattle.image_check.proofs.containers.MapPairs.{size-most}
use Rattle.image_check.proofs.bytes.Ranges.{all-broken, all-further}
use Rattle.image_check.proofs.spellings.are_spellings.Goals as goal

pub element-requires-clause-max_len : goal.element-requires-clause-max_len
element-requires-clause-max_len c =
    let most = size-most c.args.kind in
    let size = c.size-size.ensures in
    omega arith

pub returns-then-not-is_spelling-clause-test : goal.returns-then-not-is_spelling-clause-test
returns-then-not-is_spelling-clause-test c =
    let b = c.args.window.now.bytes in
    let p : ℕ → Bool = λ i. is_spelling c.args.kind
    (read (bytes_of b) (c.args.start + size_of c.args.kind * i) (size_of c.args.kind)) in
    let here = element-spelled b c.args.kind c.args.start c.elements.i c.args.count c.size-size.result
    c.element.result.now c.requires.in_bounds c.elements-test.true c.size-size.ensures c.element.ensures.bytes in
    sym (all-broken p 0 c.elements.i c.args.count c.elements.i (omega arith) c.elements-test.true (sym here
    ∙ sym c.is_spelling.ensures ∙ c.if-not-is_spelling.true))

pub elements-preserved : goal.elements-preserved
elements-preserved c =
    let b = c.args.window.now.bytes in
    let p : ℕ → Bool = λ i. is_spelling c.args.kind
    (read (bytes_of b) (c.args.start + size_of c.args.kind * i) (size_of c.args.kind)) in
    let here = element-spelled b c.args.kind c.args.start c.elements.i c.args.count c.size-size.result
    c.element.result.now c.requires.in_bounds c.elements-test.true c.size-size.ensures c.element.ensures.bytes in
    let inv = c.elements.invariant in
    record {
      within = omega arith;
      spelled = all-further p 0 c.elements.i c.elements.i (omega arith) inv.spelled (sym here
          ∙ sym c.is_spelling.ensures ∙ c.if-not-is_spelling.false);
      more = omega arith;
      most = omega arith;
    }
