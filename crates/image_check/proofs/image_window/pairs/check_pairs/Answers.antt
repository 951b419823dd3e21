use Rattle.image_check.proofs.Common.{IsSearchTree, Option, ap, arith, both_ways, bytes_of, leads, subst, sym, ℕ, ◌∙◌}
use Rattle.image_check.specs.MapNodes.{is_pair, key_before, pair_cells}
use Rattle.image_check.proofs.containers.MapWeights.{check-visits}
use Rattle.image_check.proofs.image_window.pairs.check_pairs.Goals as goal

pub returns-then-not-has_at-clause-count : goal.returns-then-not-has_at-clause-count
returns-then-not-has_at-clause-count c n =
    let a = c.args in (
      λ e. absurd (cc),
      λ x. absurd (both_ways c.has_at.result c.if-not-has_at.true (c.has_at.ensures
          ∙ ap (leads (is_pair a.window.now a.blocks.now.entries a.map.at a.key a.value)) c.load-root.ensures ∙ x.0)),
    )

pub overflow_mul-checked : goal.overflow_mul-checked
overflow_mul-checked c =
    let a = c.args in
    let spent = check-visits a.window.now a.blocks.now.entries a.map.at a.key a.value c.load-root.result
    c.check-checked.result.steps (sym c.has_at.ensures ∙ c.if-not-has_at.false) c.check-checked.ensures.steps in
    let few = c.requires.max_count in
    omega arith

pub returns-clause-steps : goal.returns-clause-steps
returns-clause-steps c =
    let a = c.args in
    check-visits a.window.now a.blocks.now.entries a.map.at a.key a.value c.load-root.result
    c.check-checked.result.steps (sym c.has_at.ensures ∙ c.if-not-has_at.false) c.check-checked.ensures.steps

pub returns-clause-count : goal.returns-clause-count
returns-clause-count c n =
    let a = c.args in
    let w = a.window.now in
    let es = a.blocks.now.entries in (
      λ e.
          let x = (c.check-checked.ensures.count n).0 e in (
            sym (c.has_at.ensures ∙ ap (leads (is_pair w es a.map.at a.key a.value)) c.load-root.ensures)
                ∙ c.if-not-has_at.false,
            x.0,
            subst (λ (o : Option ℕ). IsSearchTree (key_before (bytes_of w.bytes) a.key)
                (pair_cells w es a.map.at a.key a.value) o x.0) c.load-root.ensures x.1,
            x.2,
          ),
      λ x. (c.check-checked.ensures.count n).1 (
        x.1,
        subst (λ (o : Option ℕ). IsSearchTree (key_before (bytes_of w.bytes) a.key)
            (pair_cells w es a.map.at a.key a.value) o x.1) (sym c.load-root.ensures) x.2,
        x.3,
      ),
    )
