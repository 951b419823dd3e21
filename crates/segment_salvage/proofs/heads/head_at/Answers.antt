use Rattle.std.proofs.Common.{◌≡◌, ◌==◌, ℕ, ◌+◌, ◌%◌, ◌^◌, true, Some, subst, sym, ◌∙◌}
use Rattle.std.proofs.lemmas.Bool.{eqb-true}
use Rattle.seg_types.specs.declared.kinds.Kind.{Kind}
use Rattle.seg_types.specs.Kinds.{code_of, kind_of_code, kinds}
use Rattle.seg_types.specs.Keys.{new_key_seen}
use Rattle.segment_manager.specs.{Directory.padded, Plan.name_of}
use Rattle.segment_salvage.specs.Standing.{HasPart}
use Rattle.segment_salvage.proofs.Maps.{HasIf, found-test}
use Rattle.segment_salvage.proofs.heads.head_at.Goals as goal

code_read : (k : Kind) (code : ℕ) → Some k ≡ kind_of_code code → code ≡ code_of k
code_read k code e =
    sym (eqb-true (code_of k) code (subst (HasIf (λ (l : Kind). (code_of l == code) ≡ true)) (sym e)
    (found-test (λ (l : Kind). code_of l == code) kinds)))

pub returns-clause-head : goal.returns-clause-head
returns-clause-head c = let key = c.in_ok-key.ensures.key in record {
  kind_is =
      subst (λ (w : ℕ). w % 2 ^ 32 ≡ code_of c.in_ok-kind.kind) c.in_ok-first.ensures
      (code_read c.in_ok-kind.kind (c.in_ok-first.first % 2 ^ 32) c.in_ok-kind.ensures);
  class = sym c.in_ok-second.ensures ∙ key.class;
  name =
      subst (λ (n : ℕ). HasPart c.args.image.now n (name_of (new_key_seen c.in_ok-key.key)))
      c.in_ok-name_at.ensures.1 key.name;
  value_at = c.in_ok-value.ensures.1 ∙ (λ i. c.in_ok-name_at.ensures.1 i + padded (key.short i));
}
