-- A call on two runs of bytes, the first for reading and the second for writing.
use Rattle.std.specs.Prelude.{◌≡◌, ℕ, List}
use Rattle.std.specs.Fn.{Once}
use denote.Ref.{Bor, MutBor}

-- the call is allowed with these bytes behind the two references
abbrev pub TakesTwo : {F R : Type 0} → Once F (Bor (List ℕ) × (MutBor (List ℕ) × Unit {0})) R → F → List ℕ → List ℕ
    → Type 0
TakesTwo g f x y = (p : Bor (List ℕ)) (q : MutBor (List ℕ)) → p.now ≡ x → q.now ≡ y → g.pre f (p, (q, tt))

-- the call ran with these bytes, and left other bytes behind the second reference
pub record CallsOnTwo {F : Type 0} (g : Once F (Bor (List ℕ) × (MutBor (List ℕ) × Unit {0})) (Unit {0}
    × (MutBor (List ℕ) × Unit {0}))) (f : F) (x y left : List ℕ) : Type 0 where
  pub read : Bor (List ℕ)
  pub reads : read.now ≡ x
  pub shown : MutBor (List ℕ)
  pub shows : shown.now ≡ y
  pub kept : MutBor (List ℕ)
  pub met : g.post f (read, (shown, tt)) (tt, (kept, tt))
  pub leaves : kept.now ≡ left
