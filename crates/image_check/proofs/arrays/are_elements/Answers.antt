use Rattle.image_check.proofs.Common.{arith, bytes_of, is_element_at, list_all, range_with_len, subst, sym, true, ℕ}
use Rattle.image_check.proofs.Common.{◌*◌, ◌+◌, ◌∙◌, ◌≡◌}
use Rattle.std.proofs.Common.{Bool}
use Rattle.image_check.proofs.bytes.Ranges.{all-broken, all-further, all-map}
use Rattle.image_check.proofs.arrays.are_elements.Goals as goal

pub returns-then-not-is_element-clause-value : goal.returns-then-not-is_element-clause-value
returns-then-not-is_element-clause-value c ts a =
    let test : ℕ → Bool = is_element_at (bytes_of c.args.window.now.bytes) ts in
    let place : ℕ → ℕ = λ i. c.args.at + 16 * i in
    let here = sym (c.is_element.ensures.value ts a) ∙ c.if-not-is_element.true in
    sym (all-map test place (range_with_len 0 c.args.n)
    ∙ all-broken (λ i. test (place i)) 0 c.elements.i c.args.n c.elements.i (omega arith) (omega arith) here)

pub elements-preserved : goal.elements-preserved
elements-preserved c =
    let inv = c.elements.invariant in
    record {
      lead = λ ts a.
          let test : ℕ → Bool = λ i. is_element_at (bytes_of c.args.window.now.bytes) ts (c.args.at + 16 * i) in
          all-further test 0 c.elements.i c.elements.i (omega arith) (inv.lead ts a)
          (sym (c.is_element.ensures.value ts a) ∙ c.if-not-is_element.false);
      least = omega arith;
      most = omega arith;
    }

pub returns-clause-value : goal.returns-clause-value
returns-clause-value c ts a =
    let test : ℕ → Bool = is_element_at (bytes_of c.args.window.now.bytes) ts in
    let place : ℕ → ℕ = λ i. c.args.at + 16 * i in
    let all : c.elements.i ≡ c.args.n = omega arith in
    sym (all-map test place (range_with_len 0 c.args.n)
    ∙ subst (λ n. list_all (λ i. test (place i)) (range_with_len 0 n) ≡ true) all (c.elements.invariant.lead ts a))
