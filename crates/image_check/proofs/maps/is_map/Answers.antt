use Rattle.image_check.proofs.Common.{both_ways, cases_Bool, eq-eqb, eqb-true, inl, inr, length, nat_eq, ne_eqb}
use Rattle.image_check.proofs.Common.{nodes_of, refl, some_same, sym, ◌∙◌}
use Rattle.image_check.proofs.containers.Maps.{found-map, not-map}
use Rattle.image_check.proofs.maps.is_map.Goals as goal

pub returns-in_default-clause-value : goal.returns-in_default-clause-value
returns-in_default-clause-value c =
    let a = c.args in
    sym (not-map a.window.now a.blocks.now.entries a.key a.value a.map.at c.requires.tiles c.requires.observed
    c.requires.mark
    (λ f. c.in_default.not-Some (length (nodes_of f.tree))
    ((c.check_pairs.ensures.count (length (nodes_of f.tree))).1 (f.root, f.tree, f.search, refl))))

pub returns-then-count-len-clause-value : goal.returns-then-count-len-clause-value
returns-then-count-len-clause-value c =
    let a = c.args in
    let w = a.window.now in
    let es = a.blocks.now.entries in
    let x = (c.check_pairs.ensures.count c.in-Some.count).0 c.in-Some.is in
    let last = c.capacity.result in
    elim (cases_Bool (nat_eq last 0)) [
      | inl e ↦ e ∙ sym (found-map w es a.key a.value a.map.at c.requires.observed.blocks (record {
        tree = x.1;
        root = x.0;
        search = x.2;
        count = x.3 ∙ c.if-count-len.true ∙ c.len.ensures;
        zero = sym c.capacity.ensures ∙ eqb-true last 0 e;
      }))
      | inr e ↦ e ∙ sym (not-map w es a.key a.value a.map.at c.requires.tiles c.requires.observed c.requires.mark
          (λ f. both_ways (nat_eq last 0) e (eq-eqb last 0 (c.capacity.ensures ∙ f.zero))))
    ]

pub returns-else-count-len-clause-value : goal.returns-else-count-len-clause-value
returns-else-count-len-clause-value c =
    let a = c.args in
    ne_eqb c.in-Some.count c.len.result c.if-count-len.false
    ∙ sym (not-map a.window.now a.blocks.now.entries a.key a.value a.map.at c.requires.tiles c.requires.observed
    c.requires.mark
    (λ f.
    let n = some_same c.in-Some.count (length (nodes_of f.tree)) (sym c.in-Some.is
    ∙ (c.check_pairs.ensures.count (length (nodes_of f.tree))).1 (f.root, f.tree, f.search, refl)) in
    c.if-count-len.false (n ∙ f.count ∙ sym c.len.ensures)))
