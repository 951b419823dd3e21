-- An array that is made of the values of a line: the call takes all of them, or none.
use Rattle.std.proofs.Common.{◌≡◌, refl, ap, subst, ◌∙◌, ℕ, suc, ℤ, Result, List, [], ◌∷◌, ◌++◌, length}
use Rattle.std.specs.Prelude.{IsTrue, map}
use Rattle.std.specs.List.{AllByRecursion}
use Rattle.std.specs.Iterator.{Yields, YieldsFirst}
use Rattle.seg_types.specs.declared.kinds.ScalarKind.{ScalarKind}
use Rattle.seg_types.specs.declared.refusals.Refusal.{Refusal}
use Rattle.seg_types.specs.declared.values.ScalarValue.{ScalarValue}
use Rattle.seg_types.specs.Kinds.{is_value}
use Rattle.seg_types.specs.Names.{Key}
use Rattle.seg_types.specs.Values.{kind_of_scalar, scalar_of, value_of_scalar}
use Rattle.seg_types.specs.Commands as asked
use Rattle.seg_types.proofs.Laws.{scalar_of-kind, scalar_of-value}
use Rattle.segment_lang.specs.Arguments.{TypedNumbers, scalars_in}
use Rattle.segment_manager.specs.State.{TakesStep, UnchangedIfRefused, SegmentState, handle_answer}
use Rattle.segment_manager.specs.objects.Items.{ConstructsFromItems}
use Rattle.segment_manager.proofs.CommandLaws.{array-refused, array-step, taken-front}
use Rattle.segment_scripts.specs.Replies.{IsMeant}

of_kind : (k : ScalarKind) (zs : List ℤ) → AllByRecursion (λ v. kind_of_scalar v ≡ k) (map (scalar_of k) zs)
of_kind k [] = tt
of_kind k (z ∷ zs) = (scalar_of-kind k z, of_kind k zs)

all-prefix : (P : ScalarValue → Type 0) (xs ys : List ScalarValue) → AllByRecursion P (xs ++ ys) → AllByRecursion P xs
all-prefix P [] ys h = tt
all-prefix P (x ∷ xs) ys h = (h.0, all-prefix P xs ys h.1)

-- all values that are taken are of the kind
pub taken-kind : (w t : TypedNumbers) (xs : List ScalarValue) → Yields (YieldsFirst scalars_in) w xs t
    → AllByRecursion (λ v. kind_of_scalar v ≡ w.kind) xs
taken-kind w t xs h =
    all-prefix (λ v. kind_of_scalar v
    ≡ w.kind) xs (scalars_in t) (subst (AllByRecursion (λ v. kind_of_scalar v ≡ w.kind))
    (taken-front scalars_in w t xs h) (of_kind w.kind w.numbers))

-- as many scalars as numbers
pub length-scalars : (k : ScalarKind) (zs : List ℤ) → length (map (scalar_of k) zs) ≡ length zs
length-scalars k [] = refl
length-scalars k (z ∷ zs) = ap (λ n. suc n) (length-scalars k zs)

-- the numbers of scalars are those that they were made of
pub numbers-back : (k : ScalarKind) (zs : List ℤ) → AllByRecursion (λ z. IsTrue (is_value k z)) zs
    → map value_of_scalar (map (scalar_of k) zs) ≡ zs
numbers-back k [] h = refl
numbers-back k (z ∷ zs) h = λ j. scalar_of-value k z h.0 j ∷ numbers-back k zs h.1 j

-- ---- the call takes all values of the line, or none

module _ {old new : SegmentState} {key : Key} {w t : TypedNumbers} {n : ℕ} {result : Result ℕ Refusal}
    (takes : ConstructsFromItems (YieldsFirst scalars_in) value_of_scalar old new key w.kind n w t result)
    (meant : IsMeant (asked.ConstructIt key w.kind n w.numbers)) where
  long : length (scalars_in w) ≡ n
  long = length-scalars w.kind w.numbers ∙ meant.2

  -- an array of all values is the step of the directory
  pub all-step : AllByRecursion (λ z. IsTrue (is_value w.kind z)) w.numbers
      → TakesStep old new (asked.ConstructIt key w.kind n w.numbers) (handle_answer result)
  all-step values = array-step scalars_in takes long (numbers-back w.kind w.numbers values) meant.0

  -- a refused array leaves the segment
  pub all-refused : UnchangedIfRefused old new result
  all-refused = array-refused scalars_in takes long
