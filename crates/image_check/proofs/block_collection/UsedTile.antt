-- The tile of an extent in use, and when two rows of extents are equal.
use Rattle.image_check.proofs.Common.{Extent, Index, IsTrue, List, Node, None, Option, Rising, Role, Row, Some, Storage}
use Rattle.image_check.proofs.Common.{Tile, [], and_from, and_parts, ap, arith, as_extent, cond, eq-eqb, eqb-true}
use Rattle.image_check.proofs.Common.{false, false≢true, filter, handle, is_use, payload, refl, rising-weak, same_role}
use Rattle.image_check.proofs.Common.{sorted, subst, sym, tile_of, true, ℕ, ◌&&◌, ◌+◌, ◌<◌, ◌==◌, ◌∙◌, ◌∷◌, ◌≡◌, ◌≤◌}
use Rattle.std.proofs.Common.{Bool}
use Rattle.block_tags.specs.declared.tile.Role.TheVariants.{Object}
use Rattle.best_fit.proofs.Laws.{extents_of as used}
use Rattle.segment_manager.proofs.Laws.{all-sorted, all_of-sorted}
use Rattle.image_check.proofs.bytes.Members.{Mem, all_mem, find_only, mem_all, mem_of_filter_map}
use mathlib.Core.Logic.{inl, inr}

-- ---- roles

-- roles that pass the test of equality are equal
pub same_role-is : (r s : Role) → IsTrue (same_role r s) → r ≡ s
same_role-is Object Object h = refl
same_role-is Index Index h = refl
same_role-is Storage Storage h = refl
same_role-is Node Node h = refl
same_role-is r s h = absurd (false≢true h)

-- a role is the same as itself
pub same_role-refl : (r : Role) → IsTrue (same_role r r)
same_role-refl Object = refl
same_role-refl other = refl

-- ---- tiles begin at different places

-- a tile of a row begins where the row does or after
pub from-there : (at : ℕ) (ts : List Tile) (end : ℕ) (t : Tile) → Row at ts end → Mem t ts → at ≤ t.offset
from-there at [] end t a h = absurd h
from-there at (u ∷ ts) end t a (inl e) =
    let f = a.0 in
    let g = ap (λ (x : Tile). x.offset) e in
    omega arith
from-there at (u ∷ ts) end t a (inr h) = let l = from-there (at + u.len) ts end t a.3 h in omega arith

-- two tiles of a row that begin at one place are one
pub one_tile : (at : ℕ) (ts : List Tile) (end : ℕ) (t u : Tile) → Row at ts end → Mem t ts → Mem u ts
    → t.offset ≡ u.offset → t ≡ u
one_tile at [] end t u a h k e = absurd h
one_tile at (w ∷ ts) end t u a (inl f) (inl g) e = f ∙ sym g
one_tile at (w ∷ ts) end t u a (inl f) (inr k) e =
    let l = from-there (at + w.len) ts end u a.3 k in
    let s = ap (λ (x : Tile). x.offset) f in
    let here = a.0 in
    let long = a.1 in
    absurd (omega arith)
one_tile at (w ∷ ts) end t u a (inr h) (inl g) e =
    let l = from-there (at + w.len) ts end t a.3 h in
    let s = ap (λ (x : Tile). x.offset) g in
    let here = a.0 in
    let long = a.1 in
    absurd (omega arith)
one_tile at (w ∷ ts) end t u a (inr h) (inr k) e = one_tile (at + w.len) ts end t u a.3 h k e

-- the tile of a role is found at its payload
pub tile_found : (at : ℕ) (ts : List Tile) (end : ℕ) (t : Tile) (role : Role) → Row at ts end → Mem t ts
    → IsTrue (is_use role t) → tile_of ts role (payload t) ≡ Some t
tile_found at ts end t role a h u =
    find_only (λ (x : Tile). is_use role x && (x.offset + 16 == payload t)) t ts h
    (and_from (is_use role t) (t.offset + 16 == payload t) u (eq-eqb (t.offset + 16) (payload t) refl))
    (λ y k p.
    let e = eqb-true (y.offset + 16) (payload t) (and_parts (is_use role y) (y.offset + 16 == payload t) p).1 in
    one_tile at ts end y t a k h (omega arith))

-- ---- the tile of an extent

-- the tile has the extent's place, length and role
pub record IsTileOf (t : Tile) (x : Extent) : Type 0 where
  pub offset : t.offset ≡ x.offset
  pub len : t.len ≡ x.len
  pub use_of : t.use_of ≡ Some x.role

extent-parts : (offset len : ℕ) (use_of : Option Role) (red : Bool) (x : Extent)
    → as_extent (record { offset = offset; len = len; use_of = use_of; red = red }) ≡ Some x
    → IsTileOf (record { offset = offset; len = len; use_of = use_of; red = red }) x
extent-parts offset len None red x e = absurd (cc)
extent-parts offset len (Some r) red x e =
    let y : Extent = record { offset = offset; len = len; role = r } in
    let f : y ≡ x = cc in
    record {
      offset = ap (λ (z : Extent). z.offset) f;
      len = ap (λ (z : Extent). z.len) f;
      use_of = ap (λ (z : Extent). Some z.role) f;
    }

-- a tile in use is the tile of its extent
pub as_extent-IsTileOf : (t : Tile) (x : Extent) → as_extent t ≡ Some x → IsTileOf t x
as_extent-IsTileOf t x e = extent-parts t.offset t.len t.use_of t.red x e

-- an extent in use, and its tile
pub record Stands (ts : List Tile) (role : Role) (x : Extent) : Type 0 where
  pub tile : Tile
  pub mem : Mem tile ts
  pub is : IsTileOf tile x
  pub extent : as_extent tile ≡ Some x
  pub use_of : IsTrue (is_use role tile)
  pub found : tile_of ts role (handle x) ≡ Some tile

-- an extent in use, of this role, is among the tiles
pub used-IsMember : (at : ℕ) (ts : List Tile) (end : ℕ) (role : Role) (x : Extent) → Row at ts end → Mem x (used ts)
    → IsTrue (same_role x.role role) → Stands ts role x
used-IsMember at ts end role x a h s =
    let c = mem_of_filter_map as_extent x ts h in
    let t : Tile = c.one in
    let i = as_extent-IsTileOf t x c.is in
    let r : role ≡ x.role = sym (same_role-is x.role role s) in
    let use_of : IsTrue (is_use role t) =
    ap (λ (o : Option Role). elim o [ None ↦ false | Some q ↦ same_role role q ]) i.use_of
    ∙ ap (λ q. same_role q x.role) r ∙ same_role-refl x.role in
    record {
      tile = t;
      mem = c.mem;
      is = i;
      extent = c.is;
      use_of = use_of;
      found = ap (λ o. tile_of ts role (o + 16)) (sym i.offset) ∙ tile_found at ts end t role a c.mem use_of;
    }

-- ---- rows of extents that rise

-- an extent of a row is after the row's beginning
pub rising-from : (n : ℕ) (xs : List Extent) (x : Extent) → Rising n xs → Mem x xs → n ≤ x.offset
rising-from n [] x r h = absurd h
rising-from n (y ∷ ys) x r (inl e) = let f = ap (λ (z : Extent). z.offset) e in let l = r.0 in omega arith
rising-from n (y ∷ ys) x r (inr h) = let l = rising-from (y.offset + 1) ys x r.1 h in let k = r.0 in omega arith

-- a member of the rest is a member of the other rest
rest-mem : (x y : Extent) (ys : List Extent) → x.offset < y.offset → (z : Extent) → z ≡ x → Mem y (z ∷ ys) → Mem y ys
rest-mem x y ys l z e (inl f) = let g = ap (λ (w : Extent). w.offset) f in let k = ap (λ (w : Extent). w.offset) e
    in absurd (omega arith)
rest-mem x y ys l z e (inr h) = h

first-same : (n : ℕ) (x : Extent) (xs : List Extent) (y : Extent) (ys : List Extent) → Rising n (x ∷ xs)
    → Rising n (y ∷ ys) → Mem x (y ∷ ys) → Mem y (x ∷ xs) → x ≡ y
first-same n x xs y ys r s (inl e) k = e
first-same n x xs y ys r s (inr h) (inl e) = sym e
first-same n x xs y ys r s (inr h) (inr k) =
    let a = rising-from (y.offset + 1) ys x s.1 h in
    let b = rising-from (x.offset + 1) xs y r.1 k in
    absurd (omega arith)

-- two rows with the same members are one
pub rising-same : (n : ℕ) (xs ys : List Extent) → Rising n xs → Rising n ys → ((x : Extent) → Mem x xs → Mem x ys)
    → ((x : Extent) → Mem x ys → Mem x xs) → xs ≡ ys
rising-same n [] [] r s f g = refl
rising-same n [] (y ∷ ys) r s f g = absurd (g y (inl refl))
rising-same n (x ∷ xs) [] r s f g = absurd (f x (inl refl))
rising-same n (x ∷ xs) (y ∷ ys) r s f g =
    let e : x ≡ y = first-same n x xs y ys r s (f x (inl refl)) (g y (inl refl)) in
    let o = ap (λ (w : Extent). w.offset) e in
    let s' : Rising (x.offset + 1) ys = subst (λ k. Rising (k + 1) ys) (sym o) s.1 in
    let rest : xs ≡ ys = rising-same (x.offset + 1) xs ys r.1 s'
    (λ z h. let l = rising-from (x.offset + 1) xs z r.1 h in rest-mem x z ys (omega arith) y (sym e) (f z (inr h)))
    (λ z h. let l = rising-from (x.offset + 1) ys z s' h in rest-mem x z xs (omega arith) x refl (g z (inr h))) in
    λ i. e i ∷ rest i

kept-if : (n : ℕ) (b : Bool) (x : Extent) (xs : List Extent) → n ≤ x.offset → Rising (x.offset + 1) xs
    → Rising n (cond b (x ∷ xs) xs)
kept-if n true x xs l h = (l, h)
kept-if n false x xs l h = rising-weak n (x.offset + 1) xs (omega arith) h

-- a part of a row that rises rises
pub rising-filter : (p : Extent → Bool) (n : ℕ) (xs : List Extent) → Rising n xs → Rising n (filter p xs)
rising-filter p n [] r = tt
rising-filter p n (x ∷ xs) r = kept-if n (p x) x (filter p xs) r.0 (rising-filter p (x.offset + 1) xs r.1)

-- ---- sorting sorted extents changes nothing

-- each extent is among the sorted ones
pub mem-sorted : (x : Extent) (xs : List Extent) → Mem x xs → Mem x (sorted xs)
mem-sorted x xs h = mem_all (λ y.
    Mem y (sorted xs)) xs x (all_of-sorted (λ y.
    Mem y (sorted xs)) xs (all_mem (λ y. Mem y (sorted xs)) (sorted xs) (λ y k. k))) h

-- and each sorted extent is one of the extents
pub mem-of-sorted : (x : Extent) (xs : List Extent) → Mem x (sorted xs) → Mem x xs
mem-of-sorted x xs h = mem_all (λ y.
    Mem y xs) (sorted xs) x (all-sorted (λ y. Mem y xs) xs (all_mem (λ y. Mem y xs) xs (λ y k. k))) h
