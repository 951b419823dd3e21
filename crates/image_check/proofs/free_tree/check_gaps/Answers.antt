use Rattle.image_check.proofs.Common.{ap, arith, bytes_of, eq-eqb, has_free_tree, ne_eqb, sym, ℕ, ◌<◌, ◌∙◌, ◌≢◌}
use Rattle.raw_region.specs.Memory.{word_at}
use Rattle.image_check.specs.Passes.{tiles_in}
use Rattle.image_check.proofs.budget.Visits.{treeless-spend}
use Rattle.image_check.proofs.frame.FormatTags.{later-free_tree}
use Rattle.image_check.proofs.free_tree.check_gaps.Goals as goal

-- a format other than 0 is a later one
later-some : (f : ℕ) → f ≢ 0 → 0 < f
later-some f e = omega arith

pub returns-then-format-ne0-clause-value : goal.returns-then-format-ne0-clause-value
returns-then-format-ne0-clause-value c =
    let b = c.args.window.now.bytes in
    c.check_free_tree.ensures.value
    ∙ sym (later-free_tree c.args.format (bytes_of b) (tiles_in b) (later-some c.args.format c.if-format-ne0.true))

pub returns-then-header_word-ne-NULL-clause-value : goal.returns-then-header_word-ne-NULL-clause-value
returns-then-header_word-ne-NULL-clause-value c =
    let b = c.args.window.now.bytes in
    sym (ne_eqb (word_at (bytes_of b) 24) 1 (λ e. c.if-header_word-ne-NULL.true (c.header_word.ensures ∙ e)))
    ∙ ap (λ (f : ℕ). has_free_tree f (bytes_of b) (tiles_in b)) (sym c.if-format-ne0.false)

pub returns-clause-value : goal.returns-clause-value
returns-clause-value c =
    let b = c.args.window.now.bytes in
    sym (eq-eqb (word_at (bytes_of b) 24) 1 (sym c.header_word.ensures ∙ c.if-header_word-ne-NULL.false))
    ∙ ap (λ (f : ℕ). has_free_tree f (bytes_of b) (tiles_in b)) (sym c.if-format-ne0.false)

pub returns-then-header_word-ne-NULL-clause-visits : goal.returns-then-header_word-ne-NULL-clause-visits
returns-then-header_word-ne-NULL-clause-visits c = (omega arith, omega arith)

pub returns-clause-visits : goal.returns-clause-visits
returns-clause-visits c = treeless-spend c.args.window.now _ _ c.count_tiles.ensures.visits
