-- A vector stands wherever a call of it ends.
use Rattle.std.proofs.Common.{◌≡◌, sym, subst, ℕ, Bool, List, [], ◌∷◌, ◌++◌, inl, inr}
use Rattle.std.specs.Prelude.{Result, Ok, Err, insert}
use Rattle.raw_region.specs.Memory.{WindowState}
use Rattle.best_fit.specs.Table.{no_backing}
use Rattle.seg_types.specs.declared.refusals.Refusal.{Refusal}
use Rattle.best_fit.specs.declared.places.Place.{Place}
use Rattle.seg_vector.specs.VectorCalls.{InsertsInto, IsSomeVector, Pushes, InitsVector}

pub after_start : {T : Type 0} → (size : ℕ) (v : T → Bool) (s : T → List ℕ) (a b : WindowState) (p : Place)
    → InitsVector size v s a b p → IsSomeVector size v s b.bytes p
after_start size v s a b p k = ([], (no_backing, k.vector))

same : {T : Type 0} → (size : ℕ) (v : T → Bool) (s : T → List ℕ) (a b : WindowState) (p : Place) → b ≡ a
    → IsSomeVector size v s a.bytes p → IsSomeVector size v s b.bytes p
same size v s a b p e q = subst (λ (c : WindowState). IsSomeVector size v s c.bytes p) (sym e) q

-- a vector stands after a push
pub after_push :
    {T : Type 0} → (size : ℕ) (v : T → Bool) (s : T
    → List ℕ) (a b : WindowState) (p : Place) (x : T) (r : Result (Unit {0}) Refusal)
    → IsSomeVector size v s a.bytes p → Pushes size v s a b p x r → IsSomeVector size v s b.bytes p
after_push size v s a b p x (Ok u) q f = let k = f q.0 q.1.0 q.1.1 in (q.0 ++ x ∷ [], (k.table, k.now.vector))
after_push size v s a b p x (Err e) q f = same size v s a b p (f q.0 q.1.0 q.1.1).same q

-- a vector stands after an insertion
pub after_insert :
    {T : Type 0} → (size : ℕ) (v : T → Bool) (s : T
    → List ℕ) (a b : WindowState) (p : Place) (i : ℕ) (x : T) (r : Result (Unit {0}) Refusal)
    → IsSomeVector size v s a.bytes p → InsertsInto size v s a b p i x r → IsSomeVector size v s b.bytes p
after_insert size v s a b p i x (Ok u) q f = let k = f q.0 q.1.0 q.1.1 in (insert q.0 i x, (k.1.table, k.1.now.vector))
after_insert size v s a b p i x (Err e) q f = elim (f q.0 q.1.0 q.1.1) [
  | inl k ↦ same size v s a b p k.same q
  | inr k ↦ same size v s a b p k.1.same q
]
