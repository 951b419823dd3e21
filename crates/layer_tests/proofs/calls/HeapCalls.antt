-- What the calls of a heap tell of a block: its room, that it is a node block, and its links.
use Rattle.std.proofs.Common.{◌≡◌, refl, sym, subst, ℕ, ◌+◌, ◌-◌, ◌*◌, ◌%◌, ◌<◌, ◌≤◌, ◌⊎◌, Bool, false, cond, ◌&&◌}
use Rattle.std.proofs.Common.{◌||◌, List, [], ◌∷◌, arith, ◌==◌, IsTrue}
use Rattle.std.specs.Prelude.{Option, Some, None, option_map, IfSome, find}
use Rattle.std.specs.List.{list_any}
use Rattle.std.proofs.lemmas.Bool.{and_from, or_left, or_right, eq-eqb, cases_Bool, cases_lt, le-leb}
use mathlib.Core.Logic.{inl, inr}
use Rattle.raw_region.specs.Memory.{Memory, WindowState, SameBytesExcept}
use Rattle.offset_link.specs.Link.{link_at}
use Rattle.offset_link.specs.Relinked.{IsLink, AreValidLinks}
use Rattle.block_tags.specs.declared.tile.Role.{Role}
use Rattle.block_tags.specs.declared.tile.Role.TheVariants.{Node}
use Rattle.best_fit.specs.Extents.{Extent, LiveSet, Gap, handle, holds}
use Rattle.best_fit.specs.Fit.{room, share, fit, place}
use Rattle.best_fit.specs.Heap.{live_of, is_node_in, is_node_role, AllocatesOk, Recolours}
use Rattle.best_fit.proofs.Laws.{IfSome_is, allocated-live, lay_out_one, list_any-insert}
use Rattle.offset_link.proofs.Laws.{SameBytesExcept-link}

-- ---- room

-- by whether the first extent is the block of the handle
found_step : (h n r : ℕ) (x : Extent) (rest : Bool) (o : Option Extent)
    → (IsTrue (handle x == h) ⊎ (handle x == h ≡ false))
    → option_map (λ (y : Extent). y.len - 16) (cond (handle x == h) (Some x) o) ≡ Some r → n ≤ r → 1 ≤ n
    → (option_map (λ (y : Extent). y.len - 16) o ≡ Some r → IsTrue rest)
    → IsTrue (((handle x == h) && holds x n) || rest)
found_step h n r x rest o (inl t) e l p k =
    let size : Some (x.len - 16) ≡ Some r = simp t at e in let same : x.len - 16 ≡ r = cc in
    or_left ((handle x == h) && holds x n) rest
    (and_from (handle x == h) (holds x n) t (le-leb (n + 16) x.len (omega arith)))
found_step h n r x rest o (inr f) e l p k = or_right ((handle x == h) && holds x n) rest (k (simp f at e))

-- a block that is found by its handle has as much room as it says
pub room_found : (h n r : ℕ) (xs : List Extent)
    → option_map (λ (x : Extent). x.len - 16) (find (λ (x : Extent). handle x == h) xs) ≡ Some r
    → n ≤ r → 1 ≤ n → IsTrue (list_any (λ (x : Extent). (handle x == h) && holds x n) xs)
room_found h n r [] e l p = cc
room_found h n r (x ∷ xs) e l p =
    found_step h n r x (list_any (λ (y : Extent). (handle y == h) && holds y n) xs)
    (find (λ (y : Extent). handle y == h) xs) (cases_Bool (handle x == h)) e l p
    (λ f. room_found h n r xs f l p)

-- ---- a node block

-- by whether there is a fit
role_step : (n : ℕ) (role : Role) (o : Option Gap)
    → IfSome (option_map (λ (g : Gap). let x : Extent = record {
      offset = g.offset;
      len = share g.len (room n);
      role = role;
    } in x) o) (λ (x : Extent). x.role ≡ role)
role_step n role None = tt
role_step n role (Some g) = refl

-- what a request takes has the role that was asked for
place_role : (live : LiveSet) (n : ℕ) (role : Role) → IfSome (place live n role) (λ (x : Extent). x.role ≡ role)
unfolding place
place_role live n role = role_step n role (fit live n)

-- a new block for a node is a node block
pub allocated-is_node : (format : ℕ) (old new : WindowState) (n h : ℕ) → AllocatesOk format old new n Node h
    → IsTrue (is_node_in (live_of new.bytes) h)
allocated-is_node format old new n h a =
    let e = IfSome_is (λ (x : Extent). x.role ≡ Node) (place (live_of old.bytes) n Node) a.extent a.placed
    (place_role (live_of old.bytes) n Node) in
    let node : IsTrue (is_node_role a.extent.role) = subst (λ (r : Role). IsTrue (is_node_role r)) (sym e) refl in
    rw (allocated-live format old new n Node h a)
    (list_any-insert (λ (x : Extent). (handle x == h) && is_node_role x.role) a.extent (live_of old.bytes).extents
    (and_from (handle a.extent == h) (is_node_role a.extent.role) (eq-eqb (handle a.extent) h (sym a.at)) node))

-- and still is in another colour
pub recoloured-is_node : (format : ℕ) (old new : WindowState) (h g : ℕ) (red : Bool)
    → Recolours format old new h red → IsTrue (is_node_in (live_of old.bytes) g)
    → IsTrue (is_node_in (live_of new.bytes) g)
recoloured-is_node format old new h g red r t = rw (lay_out_one format new.bytes (live_of old.bytes) r.live) t

-- ---- two links

each_step : (m : Memory) (at next k : ℕ) → next ≡ at + 8 → k < 2 → IsLink m at → IsLink m next → (k < 1) ⊎ (1 ≤ k)
    → IsLink m (at + 8 * k)
each_step m at next k e l a b (inl first) = subst (λ (j : ℕ). IsLink m j) (omega arith) a
each_step m at next k e l a b (inr second) = subst (λ (j : ℕ). IsLink m j) (omega arith) b

-- a link to a block and, written after it, one that leads nowhere
pub two_links : (m m' : Memory) (at next target : ℕ) → next ≡ at + 8 → target % 16 ≡ 0 → SameBytesExcept m m' next 8
    → link_at m at ≡ Some target → link_at m' next ≡ None → AreValidLinks m' at 2
two_links m m' at next target e whole same leads null =
    let kept = SameBytesExcept-link m m' next 8 at same (inl (omega arith)) in
    let there : IsLink m' at = rw (kept, leads) whole in
    let nowhere : IsLink m' next = rw null tt in
    record { each = λ k l. each_step m' at next k e l there nowhere (cases_lt k 1) }
