-- The codes of kinds: each names one.
use Rattle.segment_manager.proofs.Common.{◌≡◌, refl, sym, ℤ, true, List, arith, eqb-true, ScalarKind, BoolKind}
use Rattle.segment_manager.proofs.Common.{U8, Kind, Scalar, code_of, same_kind, scalar_code}
use Rattle.segment_manager.proofs.Common.{Value, Numbers, kind_of, IsTrue, current, is_kind_of}
use Rattle.seg_types.specs.declared.kinds.ScalarKind.TheVariants.{I32, I64, U64}
use Rattle.segment_manager.proofs.objects.Heads.{scalar-small}
-- the kind of a kind's code
pub use Rattle.seg_types.proofs.Laws.{code-read}

-- ---- kinds of numbers

same-scalar : (k l : ScalarKind) → scalar_code k ≡ scalar_code l → k ≡ l
same-scalar BoolKind BoolKind e = refl
same-scalar U8 U8 e = refl
same-scalar I32 I32 e = refl
same-scalar I64 I64 e = refl
same-scalar U64 U64 e = refl
same-scalar k l e = absurd (omega arith)

numbers-if : (k : ScalarKind) (v : Value) → scalar_code k ≡ code_of (kind_of v) → (zs : List ℤ) × (v ≡ Numbers k zs)
numbers-if k (Numbers l zs) e = (zs, λ i. Numbers (same-scalar l k (sym e) i) zs)
numbers-if k v e = let small = scalar-small k in absurd (omega arith)

-- a value of a scalar kind is numbers of this kind
pub numbers-only : (k : ScalarKind) (v : Value) → same_kind (Scalar k) (kind_of v) ≡ true
    → (zs : List ℤ) × (v ≡ Numbers k zs)
numbers-only k v e = numbers-if k v (eqb-true (scalar_code k) (code_of (kind_of v)) e)

-- a format that has vectors of strings is written: it has all kinds
pub known-kind : (kind : Kind) → IsTrue (is_kind_of current kind)
unfolding current
known-kind (Scalar k) = refl
known-kind k = refl
