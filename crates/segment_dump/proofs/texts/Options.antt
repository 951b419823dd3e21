-- What was found is one thing, and is not nothing.
use Rattle.segment_dump.proofs.Common.{◌≡◌, Option, Some, Result, Ok, Err}
pub use Rattle.std.proofs.lemmas.Option.{none-some, same_Some}

-- an error is no success
pub never-ok : {X E : Type 0} (e : E) (x : X) → ◌≡◌ {A = Result X E} (Err e) (Ok x) → ⊥
never-ok e x q = cc

-- equal successes have equal values
pub ok-same : {X E : Type 0} (x y : X) → ◌≡◌ {A = Result X E} (Ok x) (Ok y) → x ≡ y
ok-same x y q = cc

-- an error is no success, where both are known
pub no-ok : {X E : Type 0} {e : E} {x : X} → ◌≡◌ {A = Result X E} (Err e) (Ok x) → ⊥
no-ok q = cc

-- equal successes have equal values, where both are known
pub ok-is : {X E : Type 0} {x y : X} → ◌≡◌ {A = Result X E} (Ok x) (Ok y) → x ≡ y
ok-is q = cc

-- equal pairs that are there have equal parts
pub some-pair : {A B : Type 0} (a b : A) (x y : B) → ◌≡◌ {A = Option (A × B)} (Some (a, x)) (Some (b, y))
    → (a ≡ b) × (x ≡ y)
some-pair a b x y e = let q = same_Some (a, x) (b, y) e in (λ i. (q i).0, λ i. (q i).1)
