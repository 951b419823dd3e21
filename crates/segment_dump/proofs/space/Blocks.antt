-- The bytes of blocks: each is as long as what stands in it needs, and all of them fit between the ends of a segment.
use Rattle.segment_dump.proofs.Common.{◌≡◌, ℕ, ◌+◌, ◌*◌, ◌/◌, ◌%◌, ◌≤◌, Bool, true, false, ◌&&◌, ◌==◌, nat_le, nat_lt}
use Rattle.segment_dump.proofs.Common.{List, [], ◌∷◌, ◌++◌, if◌then◌else◌, refl, arith, AllByRecursion, and_parts}
use Rattle.segment_dump.proofs.Common.{eqb-true, leb-true, nat_tests, Extent, end_of, holds, is_block, is_hole}
use Rattle.segment_dump.proofs.Common.{proper_from, room, sorted}
use Rattle.std.proofs.Math.Nat.{max-le}
use Rattle.best_fit.specs.Fit.{insert}
unfoldable pub use Rattle.segment_dump.specs.Building.{total}

-- all bytes of some blocks

-- ---- one block

rounded : (n len : ℕ) → n + 16 ≤ len → len % 16 ≡ 0 → (n + 31) / 16 * 16 ≤ len
rounded n len h e = omega arith

pub room-fits : (n len : ℕ) → n + 16 ≤ len → 32 ≤ len → len % 16 ≡ 0 → room n ≤ len
room-fits n len h l e = max-le l (rounded n len h e)

-- a block of 32 bytes or more, of which 16 are a whole number of
pub record IsLong (x : Extent) : Type 0 where
  pub least : 32 ≤ x.len
  pub even : x.len % 16 ≡ 0

block-long : (x : Extent) → is_block x ≡ true → IsLong x
block-long x e =
    let p = and_parts ((x.offset % 16 == 0) && nat_le 32 x.len) (x.len % 16 == 0) e in
    let q = and_parts (x.offset % 16 == 0) (nat_le 32 x.len) p.0 in
    record { least = leb-true 32 x.len q.1; even = eqb-true (x.len % 16) 0 p.1 }

-- what it holds has room in it
pub held-fits : (x : Extent) (n : ℕ) → IsLong x → holds x n ≡ true → room n ≤ x.len
held-fits x n l e = room-fits n x.len (leb-true (n + 16) x.len e) l.least l.even

-- ---- all blocks

-- the total of two lists is that of both
pub total-append : (xs ys : List Extent) → total (xs ++ ys) ≡ total xs + total ys
unfolding total
total-append [] ys = omega arith
total-append (x ∷ xs) ys = omega (arith, total-append xs ys)

insert-if : (b : Bool) (x y : Extent) (ys zs : List Extent) → total zs ≡ x.len + total ys
    → total (if b then x ∷ y ∷ ys else y ∷ zs) ≡ x.len + total (y ∷ ys)
unfolding total
insert-if true x y ys zs e = refl
insert-if false x y ys zs e = omega arith

total-insert : (x : Extent) (ys : List Extent) → total (insert x ys) ≡ x.len + total ys
unfolding total
total-insert x [] = refl
total-insert x (y ∷ ys) = insert-if (nat_lt x.offset y.offset) x y ys (insert x ys) (total-insert x ys)

-- sorting keeps the total
pub total-sorted : (xs : List Extent) → total (sorted xs) ≡ total xs
unfolding total
total-sorted [] = refl
total-sorted (x ∷ xs) = omega (arith, total-insert x (sorted xs), total-sorted xs)

-- a hole ends no earlier than it begins
pub hole-rises : (a b : ℕ) → is_hole a b ≡ true → a ≤ b
hole-rises a b e = grind (arith, nat_tests)

-- they fit between the ends
pub proper-total : (from : ℕ) (xs : List Extent) (to : ℕ) → proper_from from xs to ≡ true → from + total xs ≤ to
unfolding total
proper-total from [] to e = omega (arith, hole-rises from to e)
proper-total from (x ∷ xs) to e =
    let p = and_parts (is_hole from x.offset && is_block x) (proper_from (end_of x) xs to) e in
    let q = and_parts (is_hole from x.offset) (is_block x) p.0 in
    omega (arith, hole-rises from x.offset q.0, proper-total (end_of x) xs to p.1)

-- each block of a proper list is long enough
pub proper-long : (from : ℕ) (xs : List Extent) (to : ℕ) → proper_from from xs to ≡ true → AllByRecursion IsLong xs
proper-long from [] to e = tt
proper-long from (x ∷ xs) to e =
    let p = and_parts (is_hole from x.offset && is_block x) (proper_from (end_of x) xs to) e in
    let q = and_parts (is_hole from x.offset) (is_block x) p.0 in
    (block-long x q.1, proper-long (end_of x) xs to p.1)
