-- A vector stands after a call that puts a value into it.
use Rattle.std.proofs.Common.{sym, subst, ℕ, Bool, List, [], ◌∷◌, ◌++◌}
use Rattle.std.specs.Prelude.{Result, Ok, Err}
use Rattle.raw_region.specs.Memory.{WindowState}
use Rattle.seg_types.specs.declared.refusals.Refusal.{Refusal}
use Rattle.best_fit.specs.declared.places.Place.{Place}
use Rattle.seg_vector.specs.VectorCalls.{IsSomeVector, Pushes}

-- a vector stands after a push
pub after_push :
    {T : Type 0} → (size : ℕ) (v : T → Bool) (s : T
    → List ℕ) (a b : WindowState) (p : Place) (x : T) (r : Result (Unit {0}) Refusal)
    → IsSomeVector size v s a.bytes p → Pushes size v s a b p x r → IsSomeVector size v s b.bytes p
after_push size v s a b p x (Ok u) q f = let k = f q.0 q.1.0 q.1.1 in (q.0 ++ x ∷ [], (k.table, k.now.vector))
after_push size v s a b p x (Err e) q f =
    subst (λ (c : WindowState). IsSomeVector size v s c.bytes p) (sym (f q.0 q.1.0 q.1.1).same) q
