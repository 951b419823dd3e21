-- Fields of which no two share a target.
use Rattle.std.proofs.Common.{◌≡◌, sym, ap, ◌∙◌, false, not, ◌==◌, List, [], ◌∷◌, refl, Bool, true, map}
use Rattle.std.specs.List.{list_any}
use Rattle.std.proofs.lemmas.Bool.{and_cases, or_parts, eqb-true, eq-eqb, false≢true, not-false, and_left, and_right}
use Rattle.std.proofs.lemmas.Bool.{not_from_true, or_from}
use mathlib.Core.Logic.{inl, inr}
use Rattle.image_check.specs.Fields.{Field, share_target, share_some}
use Rattle.image_check.proofs.bytes.Members.{Mem, list_any_none, mem_map, list_any_false}
use Rattle.image_check.proofs.claims.Fields.{target_in}
use Rattle.image_check.proofs.indexes.Entries.{Distinct}

-- ---- if the test passes

share-not : (f g : Field) → share_target f g ≡ false → f.target ≡ g.target → f.at ≡ g.at
share-not f g h e = elim (and_cases (not (f.at == g.at)) (f.target == g.target) h) [
  | inl a ↦ eqb-true f.at g.at (not-false (f.at == g.at) a)
  | inr b ↦ absurd (false≢true (sym b ∙ eq-eqb f.target g.target e))
]

-- if no target is shared, two fields with one target are equal
pub shared-not : (fs : List Field) (f g : Field) → share_some fs ≡ false → Mem f fs → Mem g fs → f.target ≡ g.target
    → f.at ≡ g.at
shared-not [] f g h k l e = absurd k
shared-not (x ∷ fs) f g h (inl p) (inl q) e = ap (λ (y : Field). y.at) (p ∙ sym q)
shared-not (x ∷ fs) f g h (inl p) (inr l) e =
    let parts = or_parts (list_any (share_target x) fs) (share_some fs) h in
    ap (λ (y : Field). y.at) p ∙ share-not x g (list_any_none (share_target x) fs g parts.0 l) (ap target_in (sym p)
    ∙ e)
shared-not (x ∷ fs) f g h (inr k) (inl q) e =
    let parts = or_parts (list_any (share_target x) fs) (share_some fs) h in
    sym (ap (λ (y : Field). y.at) q
    ∙ share-not x f (list_any_none (share_target x) fs f parts.0 k) (ap target_in (sym q) ∙ sym e))
shared-not (x ∷ fs) f g h (inr k) (inr l) e =
    shared-not fs f g (or_parts (list_any (share_target x) fs) (share_some fs) h).1 k l e

-- ---- conditions under which the test passes

-- one field for each target
pub one_field : (fs : List Field) (f g : Field) → Distinct (map target_in fs) → Mem f fs → Mem g fs
    → f.target ≡ g.target → f ≡ g
one_field [] f g d h k e = absurd h
one_field (x ∷ fs) f g d (inl p) (inl q) e = p ∙ sym q
one_field (x ∷ fs) f g d (inl p) (inr k) e = absurd (d.0 g.target (mem_map target_in g fs k) (ap target_in (sym p) ∙ e))
one_field (x ∷ fs) f g d (inr h) (inl q) e =
    absurd (d.0 f.target (mem_map target_in f fs h) (ap target_in (sym q) ∙ sym e))
one_field (x ∷ fs) f g d (inr h) (inr k) e = one_field fs f g d.1 h k e

share-if : (f g : Field) → (b : Bool) → (f.target == g.target) ≡ b → (f.target ≡ g.target → f.at ≡ g.at)
    → share_target f g ≡ false
share-if f g true e k = and_left (not (f.at == g.at)) (f.target == g.target)
    (not_from_true (f.at == g.at) (eq-eqb f.at g.at (k (eqb-true f.target g.target e))))
share-if f g false e k = and_right (not (f.at == g.at)) (f.target == g.target) e

-- if equal targets mean equal offsets, no target is shared
pub none-shared : (fs : List Field) → ((f g : Field) → Mem f fs → Mem g fs → f.target ≡ g.target → f.at ≡ g.at)
    → share_some fs ≡ false
none-shared [] k = refl
none-shared (f ∷ fs) k =
    or_from (list_any (share_target f) fs) (share_some fs)
    (list_any_false (share_target f) fs (λ g h. share-if f g (f.target == g.target) refl (k f g (inl refl) (inr h))))
    (none-shared fs (λ x y h l. k x y (inr h) (inr l)))
