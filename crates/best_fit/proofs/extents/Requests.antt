-- What a request is given serves it.
use Rattle.best_fit.proofs.Common.{◌≡◌, refl, ℕ, IsTrue, Option, Some, None, IfSome, option_map, and_from, eq-eqb}
use Rattle.best_fit.proofs.Common.{Role, Extent, Gap, LiveSet, holds, fit, place, room, share, same_role, serves}
use Rattle.block_tags.specs.Tiles.{role_bits}
use Rattle.best_fit.proofs.extents.FirstFit.{IfSome_is, place-holds}

role_of_front : (n : ℕ) (role : Role) (o : Option Gap)
    → IfSome (option_map (λ (g : Gap). let x : Extent = record {
      offset = g.offset;
      len = share g.len (room n);
      role = role;
    } in x) o) (λ x. IsTrue (same_role x.role role))
role_of_front n role None = tt
role_of_front n role (Some g) = eq-eqb (role_bits role) (role_bits role) refl

place-role : (live : LiveSet) (n : ℕ) (role : Role) → IfSome (place live n role) (λ x. IsTrue (same_role x.role role))
unfolding place
place-role live n role = role_of_front n role (fit live n)

-- the extent has the requested role, and as many bytes as requested
pub place-serves : (live : LiveSet) (n : ℕ) (role : Role) (x : Extent) → place live n role ≡ Some x
    → IsTrue (serves x role n)
place-serves live n role x e =
    and_from (same_role x.role role) (holds x n) (IfSome_is (λ (y : Extent). IsTrue (same_role y.role role))
    (place live n role) x e (place-role live n role)) (place-holds live n role x e)
