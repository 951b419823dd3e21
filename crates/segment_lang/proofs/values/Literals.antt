-- Values of a kind that literals are, where they are any.
use Rattle.std.proofs.Common.{◌≡◌, ap, sym, ◌∙◌, refl, ℤ, Some, Result, Ok, Err}
use Rattle.std.specs.Option.{option_map}
use Rattle.std.specs.Result.{result_ok}
use Rattle.seg_types.specs.declared.kinds.ScalarKind.{ScalarKind}
use Rattle.seg_types.specs.declared.refusals.Refusal.{Refusal}
use Rattle.seg_types.specs.declared.values.ScalarValue.{ScalarValue}
use Rattle.seg_types.specs.Literals.{IsValueOf}
use Rattle.seg_types.specs.Values.{kind_of_scalar, scalar_of, value_of_scalar}
use Rattle.seg_types.specs.declared.values.ScalarValue.TheVariants.{Bool, U8, I32, I64, U64}
use Rattle.std.proofs.Common.{true, false}

-- a value is the one of its kind that its number is
own_number : (v : ScalarValue) → scalar_of (kind_of_scalar v) (value_of_scalar v) ≡ v
own_number (Bool true) = refl
own_number (Bool false) = refl
own_number (U8 n) = refl
own_number (I32 z) = refl
own_number (I64 z) = refl
own_number (U64 n) = refl

-- a literal that is a value, as an option
pub ok_value : (k : ScalarKind) (wanted : Result ℤ Refusal) (r : Result ScalarValue Refusal) → IsValueOf k wanted r
    → result_ok r ≡ option_map (scalar_of k) (result_ok wanted)
ok_value k wanted (Ok v) (same, is, good) =
    ap Some (sym (own_number v) ∙ ap (λ j. scalar_of j (value_of_scalar v)) same)
    ∙ ap (λ w. option_map (scalar_of k) (result_ok w)) (sym is)
ok_value k wanted (Err why) is = ap (λ w. option_map (scalar_of k) (result_ok w)) (sym is)
