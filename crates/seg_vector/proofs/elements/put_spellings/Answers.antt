-- One value more is spelled after the others.
use Rattle.seg_vector.proofs.elements.put_spellings.Goals as goal
use Rattle.seg_vector.proofs.{◌≡◌, ◌≤◌, sym, ap, subst, ◌∙◌, suc, ◌+◌, ◌*◌, ◌++◌, ◌∷◌, [], arith, length, IsTrue}
use Rattle.seg_vector.proofs.{all-next, flat_map, length-take, more-times, list_all, patched, spelled-next, take}
use Rattle.seg_vector.proofs.{take-suc}

pub values-preserved : goal.values-preserved
values-preserved g c =
    let size = g.T.Plain.SIZE in let test = g.T.Plain.is_value in let sp = g.T.Plain.spelling in
    let i = c.values.i in let vs = c.args.values.now in let y = c.index-values-i.result in
    let front = take i vs in let good = c.put_spelling.ensures.value in
    let count : i + 1 ≡ suc i = omega arith in
    let next : take (i + 1) vs ≡ front ++ y ∷ [] = ap (λ k. take k vs) count ∙ take-suc vs i y c.values-test.true
    ∙ ap (λ z. front ++ z ∷ []) (sym c.index-values-i.is) in
    let many : length front ≡ i = omega (arith, length-take i vs, c.values-test.true) in
    let step : size * (i + 1) ≡ size * i + size = omega arith in
    let within : size * (i + 1) ≤ size * length vs =
    more-times size (i + 1) (length vs) (omega (arith, c.values-test.true))
    in
    let at : c.args.from + c.SIZE-each.result * i ≡ c.args.from + size * length front =
    λ k. c.args.from + c.SIZE-each.ensures k * sym many k in
    let inside : c.args.from + size * length front + size ≤ length c.args.slice.now =
    subst (λ n. c.args.from + size * n + size ≤ length c.args.slice.now) (sym many)
    (omega (arith, c.requires, within, step)) in
    subst (λ zs. IsTrue (list_all test zs)
    × (c.put_spelling.new.slice ≡ patched c.args.slice.now c.args.from (flat_map sp zs))) (sym next) (
      all-next test front y c.values.invariant.0 good,
      c.put_spelling.ensures.slice ∙ (λ k. patched (c.values.invariant.1 k) (at k) (sp y))
          ∙ spelled-next size test sp g.met.T.Plain.spells c.args.slice.now c.args.from front y
          c.values.invariant.0 good
          inside,
    )
