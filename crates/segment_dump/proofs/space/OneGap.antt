-- There is no gap but the one after all blocks, and each request takes the front of that gap.
use Rattle.segment_dump.proofs.Common.{◌≡◌, inl, inr, ℕ, ◌+◌, ◌-◌, ◌<◌, ◌≤◌, ◌==◌, ◌&&◌, Bool, true, false, nat_le}
use Rattle.segment_dump.proofs.Common.{nat_lt, List, [], ◌∷◌, ◌++◌, Option, Some, if◌then◌else◌, refl, sym, ap, subst}
use Rattle.segment_dump.proofs.Common.{◌∙◌, arith, IsTrue, filter, option_map, and_parts, ltb-true, ne_eqb, nat_tests}
use Rattle.segment_dump.proofs.Common.{Role, is_legal_size, Extent, Gap, end_of, gap_between, is_block, is_hole}
use Rattle.segment_dump.proofs.Common.{is_proper, proper_from, place, room, Directory, live, all-sorted, live-extents}
use Rattle.segment_dump.proofs.Common.{live-size, EndBy, HasExactRoom, all_extents, total, block_room, all_needs}
use Rattle.segment_dump.proofs.{Common.last_end, Common.Needs, space.Blocks.hole-rises, space.Blocks.total-sorted}
use Rattle.segment_dump.proofs.{texts.AllElements.all-by}
use Rattle.best_fit.specs.{Extents.LiveSet, Extents.gaps, Extents.gaps_from, Fit.fit, Fit.least, Fit.share}
pub use Rattle.segment_dump.specs.Building.{IsRest}

-- ---- no gap but the one after all blocks

-- the end of the last block is at least the start plus the lengths of all blocks
pub last-long : (from : ℕ) (xs : List Extent) (to : ℕ) → proper_from from xs to ≡ true
    → from + total xs ≤ last_end from xs
unfolding total
last-long from [] to p = omega arith
last-long from (x ∷ xs) to p =
    let q = and_parts (is_hole from x.offset && is_block x) (proper_from (end_of x) xs to) p in
    let r = and_parts (is_hole from x.offset) (is_block x) q.0 in
    omega (arith, hole-rises from x.offset r.0, last-long (end_of x) xs to q.1)

-- if all blocks end by e, the last block does
pub last-most : (from e : ℕ) (xs : List Extent) → EndBy e xs → from ≤ e → last_end from xs ≤ e
last-most from e [] a l = l
last-most from e (x ∷ xs) a l = last-most (end_of x) e xs a.1 a.0

-- blocks between from and e have at most e - from bytes
ended-total : (from : ℕ) (xs : List Extent) (to e : ℕ) → proper_from from xs to ≡ true → EndBy e xs → from ≤ e
    → from + total xs ≤ e
ended-total from xs to e p a l = omega (arith, last-long from xs to p, last-most from e xs a l)

gap-none : (a b : ℕ) → a ≡ b → gap_between a b ≡ []
gap-none a b e = grind (arith, nat_tests)

-- if blocks between from and e have e - from bytes, there is no gap but the one after e
filled-gaps : (from : ℕ) (xs : List Extent) (to e : ℕ) → proper_from from xs to ≡ true → EndBy e xs → from ≤ e
    → e ≤ from + total xs → gaps_from from xs to ≡ gap_between e to
unfolding total
filled-gaps from [] to e p a l h = let same : from ≡ e = omega arith in ap (λ n. gap_between n to) same
filled-gaps from (x ∷ xs) to e p a l h =
    let q = and_parts (is_hole from x.offset && is_block x) (proper_from (end_of x) xs to) p in
    let r = and_parts (is_hole from x.offset) (is_block x) q.0 in
    let rises = hole-rises from x.offset r.0 in
    let fits = ended-total (end_of x) xs to e q.1 a.1 a.0 in
    let same : from ≡ x.offset = omega (arith, fits, rises) in
    ap (λ l. l ++ gaps_from (end_of x) xs to) (gap-none from x.offset same)
    ∙ filled-gaps (end_of x) xs to e q.1 a.1 a.0 (omega (arith, same))

-- ---- a block at the front of the gap

share-if : (b : Bool) (available wanted rest : ℕ) → nat_lt available (wanted + 32) ≡ b → wanted + rest ≤ available
    → IsRest rest → (if b then available else wanted) + rest ≤ available
share-if true available wanted rest e h (inl z) = omega (arith, z)
share-if true available wanted rest e h (inr l) = absurd (omega (arith, ltb-true available (wanted + 32) e, l))
share-if false available wanted rest e h r = h

share-fits : (available wanted rest : ℕ) → wanted + rest ≤ available → IsRest rest
    → share available wanted + rest ≤ available
share-fits available wanted rest h r = share-if (nat_lt available (wanted + 32)) available wanted rest refl h r

one-fit : (g : Gap) (n : ℕ) → room n ≤ g.len → least (filter (λ (g : Gap). nat_le (room n) g.len) (g ∷ [])) ≡ Some g
one-fit g n h = let e : nat_le (room n) g.len ≡ true = grind (arith, nat_tests)
    in ap (λ b. least (if b then g ∷ [] else [])) e

-- the gap after all blocks
abbrev last_gap : ℕ → ℕ → Gap
last_gap e to = record { offset = e; len = to - e }

gap-some : (e to : ℕ) → e < to → gap_between e to ≡ last_gap e to ∷ []
gap-some e to h = let t : nat_lt e to ≡ true = grind (arith, nat_tests)
    in ap (λ b. if b then last_gap e to ∷ [] else []) t

-- the new block begins at e, at the front of the gap, and there is still room for the rest
pub record IsTaken (o : Option Extent) (e rest size : ℕ) : Type 0 where
  pub extent : Extent
  pub is : o ≡ Some extent
  pub prefix : extent.offset ≡ e
  pub fits : end_of extent + 16 + rest ≤ size

place-prefix : (l : LiveSet) (n : ℕ) (role : Role) (e rest : ℕ) → gaps l ≡ gap_between e (l.size - 16)
    → e + 16 + (room n + rest) ≤ l.size → IsRest rest → 0 < room n → IsTaken (place l n role) e rest l.size
unfolding place fit gaps
place-prefix l n role e rest g h r p =
    let to = l.size - 16 in
    let one : gaps l ≡ last_gap e to ∷ [] = g ∙ gap-some e to (omega arith) in
    let found : fit l n ≡ Some (last_gap e to) =
    ap (λ gs. least (filter (λ (g : Gap). nat_le (room n) g.len) gs)) one ∙ one-fit (last_gap e to) n (omega arith) in
    let len = share (to - e) (room n) in
    let fits : len + rest ≤ to - e = share-fits (to - e) (room n) rest (omega arith) r in
    record {
      extent = record { offset = e; len = len; role = role };
      is = ap (λ o. option_map (λ (g : Gap). record { offset = g.offset; len = share g.len (room n); role = role })
          o) found;
      prefix = refl;
      fits = omega (arith, fits);
    }

-- ---- a directory

proper-tiles : (d : Directory) → IsTrue (is_proper (live d))
    → proper_from 128 (live d).extents ((live d).size - 16) ≡ true
unfolding is_proper
proper-tiles d h = (and_parts (is_legal_size (live d).size) (proper_from 128 (live d).extents ((live d).size - 16)) h).1

-- a directory with exact room has no gap but the one after all its blocks
pub room-gaps : (d : Directory) (rest : ℕ) → IsTrue (is_proper (live d))
    → (h : HasExactRoom (all_extents d) d.size rest) → gaps (live d) ≡ gap_between h.end ((live d).size - 16)
unfolding gaps
room-gaps d rest p h =
    filled-gaps 128 (live d).extents ((live d).size - 16) h.end (proper-tiles d p)
    (subst (EndBy h.end) (sym (live-extents d)) (all-sorted (λ x. end_of x ≤ h.end) (all_extents d) h.below)) h.start
    (omega (arith, h.full, ap total (live-extents d), total-sorted (all_extents d)))

room-long : (n : ℕ) → 0 < room n
room-long n = omega arith

-- a request gets the front of this gap
pub room-taken : (d : Directory) (n : ℕ) (role : Role) (rest : ℕ) → IsTrue (is_proper (live d))
    → (h : HasExactRoom (all_extents d) d.size (room n + rest)) → IsRest rest
    → IsTaken (place (live d) n role) h.end rest d.size
room-taken d n role rest p h r =
    let gap = room-gaps d (room n + rest) p h in
    subst (IsTaken (place (live d) n role) h.end rest) (live-size d)
    (place-prefix (live d) n role h.end rest gap (omega (arith, h.room, live-size d)) r (room-long n))

-- ---- one block more

all-between : (e : ℕ) (xs ys : List Extent) (x : Extent) → EndBy e (xs ++ ys) → end_of x ≤ e → EndBy e (xs ++ x ∷ ys)
all-between e [] ys x h l = (l, h)
all-between e (y ∷ xs) ys x h l = (h.0, all-between e xs ys x h.1 l)

total-between : (xs ys : List Extent) (x : Extent) → total (xs ++ x ∷ ys) ≡ x.len + total (xs ++ ys)
unfolding total
total-between [] ys x = refl
total-between (y ∷ xs) ys x = omega (arith, total-between xs ys x)

-- with one more block at the front of the gap, there is still no other gap
pub room-with : (xs ys : List Extent) (x : Extent) (size more rest : ℕ) → (h : HasExactRoom (xs ++ ys) size more)
    → x.offset ≡ h.end → end_of x + 16 + rest ≤ size → HasExactRoom (xs ++ x ∷ ys) size rest
room-with xs ys x size more rest h e f = record {
  end = end_of x;
  start = omega (arith, h.start, e);
  below = all-between (end_of x) xs ys x (all-by (λ (y : Extent). end_of y ≤ h.end)
      (λ (y : Extent). end_of y ≤ end_of x) (xs ++ ys) h.below (λ y l. omega (arith, e, l))) (omega arith);
  full = omega (arith, total-between xs ys x, h.full, e);
  room = f;
}

-- if there is room for more bytes, there is room for fewer
pub room-less : (xs : List Extent) (size more rest : ℕ) → rest ≤ more → HasExactRoom xs size more
    → HasExactRoom xs size rest
room-less xs size more rest l h =
    record { end = h.end; start = h.start; below = h.below; full = h.full; room = omega (arith, h.room, l) }

-- ---- what blocks need

block-if : (b : Bool) (n : ℕ) → IsRest (if b then 0 else room n)
block-if true n = inl refl
block-if false n = inr (omega arith)

-- the room of a block is 0, or at least 32
pub block-rest : (n : ℕ) → IsRest (block_room n)
unfolding block_room
block-rest n = block-if (n == 0) n

-- if two numbers are each 0 or at least 32, so is their sum
pub rest-both : (m n : ℕ) → IsRest m → IsRest n → IsRest (m + n)
rest-both m n (inl p) (inl q) = inl (omega (arith, p, q))
rest-both m n (inl p) (inr q) = inr (omega (arith, p, q))
rest-both m n (inr p) q = inr (omega (arith, p))

-- a block for at least one byte needs `room n` bytes
pub block-some : (n : ℕ) → 0 < n → block_room n ≡ room n
unfolding block_room
block-some n h = ap (λ b. if b then 0 else room n) (ne_eqb n 0 (λ e. omega (arith, h, e)))

-- the room of a list is 0, or at least 32, if that holds for each item
pub needs-rest : {X : Type 0} (needs : X → Needs) → ((x : X) → IsRest (needs x).room) → (xs : List X)
    → IsRest (all_needs needs xs).room
needs-rest needs r [] = inl refl
needs-rest needs r (x ∷ xs) = rest-both (needs x).room (all_needs needs xs).room (r x) (needs-rest needs r xs)
