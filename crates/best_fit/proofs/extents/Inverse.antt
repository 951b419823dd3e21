-- A block that was placed and is freed.
use Rattle.best_fit.proofs.Common.{◌≡◌, ◌-◌, IsTrue, ℕ, Some, Role, Extent, LiveSet, is_proper, added, place}
use Rattle.best_fit.specs.Fit.{GivingBackRestores}
use Rattle.best_fit.proofs.extents.Changes.{is_proper-IsProper, is_proper-place}
use Rattle.best_fit.proofs.extents.Order.{others-insert_same}
use Rattle.best_fit.proofs.extents.FirstFit.{IfSome_is}

-- a live set with a block placed in it is proper
pub placed_is_proper : (live : LiveSet) (n : ℕ) (role : Role) (x : Extent) → IsTrue (is_proper live)
    → place live n role ≡ Some x → IsTrue (is_proper (added live x))
placed_is_proper live n role x proper e =
    IfSome_is (λ (y : Extent). IsTrue (is_proper (added live y))) (place live n role) x e
    (is_proper-place live (is_proper-IsProper live proper) n role)

-- law: freeing a block just placed restores the live set
pub giving_back_restores : GivingBackRestores
giving_back_restores live n role x proper e =
    let p = is_proper-IsProper (added live x) (placed_is_proper live n role x proper e) in
    let same = others-insert_same 128 x live.extents (live.size - 16) p.list in
    λ i. record { size = live.size; extents = same i }
