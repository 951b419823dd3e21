-- The elements are read from the object that is located by the key that the object key is.
use Rattle.std.proofs.Common.{◌≡◌, ◌∙◌, Err, List, None, Option, Result, Some, ap, length, map, refl, subst, sym, ℕ, ℤ}
use Rattle.seg_types.specs.{Keys.key_seen, declared.kinds.ScalarKind.ScalarKind, declared.refusals.Refusal.Refusal}
use Rattle.seg_types.specs.declared.refusals.Refusal.TheVariants.{NotFound}
use Rattle.segment_manager.specs.{Directory.Object, containers.Ranges.numbers_if, containers.Ranges.range_in}
use Rattle.segment_manager.proofs.Laws.{told-by_key}
use Rattle.segment_values.specs.Ranges.{read_into}
use Rattle.segment_c.specs.Reads.{IsCoded}
use Rattle.segment_c.proofs.ranges.read_at_key.Goals as goal

abbrev told : ScalarKind → ℕ → ℕ → Option Object → Result (List ℤ) Refusal
told k first n r = range_in (elim r as (λ _. Result (List ℤ) Refusal) [
  | None ↦ Err NotFound
  | Some o ↦ numbers_if k o.value
]) first n

pub returns-in-Ok-read_elements-clause-read : goal.returns-in-Ok-read_elements-clause-read
returns-in-Ok-read_elements-clause-read g c = λ d st.
    subst (IsCoded (λ zs. map g.T.Scalar.whole c.read_elements.new.series ≡ zs) 0)
    (ap (read_into g.T.Scalar.whole c.read_elements.new.series) (sym c.in-Ok-read_elements.is)
    ∙ (told-by_key c.args.segment.now (key_seen c.args.key.now) c.in-Ok.object c.in-Ok.ensures
    (λ d. told g.T.Scalar.kind c.args.first (length c.args.series.now)) _ c.read_elements.ensures.read).answers d st)
    (refl, refl)

pub returns-in-Err-read_elements-clause-read : goal.returns-in-Err-read_elements-clause-read
returns-in-Err-read_elements-clause-read g c = λ d st.
    subst (IsCoded (λ zs. map g.T.Scalar.whole c.read_elements.new.series ≡ zs) c.code_of.result)
    (ap (read_into g.T.Scalar.whole c.read_elements.new.series) (sym c.in-Err-read_elements.is)
    ∙ (told-by_key c.args.segment.now (key_seen c.args.key.now) c.in-Ok.object c.in-Ok.ensures
    (λ d. told g.T.Scalar.kind c.args.first (length c.args.series.now)) _ c.read_elements.ensures.read).answers d st)
    c.code_of.ensures.number
