-- The blocks of a directory in its live set: each is found by its handle, has the room of its extent, and is at a
-- multiple of 16.
use Rattle.raw_region.proofs.Facts.{AllByRecursion-behind, no_more}
use Rattle.best_fit.proofs.Laws.{IsSound, found-room, live-sound}
use Rattle.segment_manager.proofs.Common.{AllByRecursion, Directory, Extent, IfSome, IsTrue, List, LiveSet, None}
use Rattle.segment_manager.proofs.Common.{Object, Option, Some, [], arith, extent_at, extents_of, flat_map, handle}
use Rattle.segment_manager.proofs.Common.{has_room, holds, is_proper, live, option_to_list, value_extents, ℕ, ◌%◌, ◌+◌}
use Rattle.segment_manager.proofs.Common.{◌∷◌, ◌≡◌}
use Rattle.segment_manager.proofs.directory.LiveSet.{IsFoundIn, found-each, live-rises, of_each}

-- ---- properties of each extent of a rising list

-- two facts of each give a third
pub all-both : {X : Type 0} (P Q R : X → Type 0) → ((x : X) → P x → Q x → R x) → (xs : List X) → AllByRecursion P xs
    → AllByRecursion Q xs → AllByRecursion R xs
all-both P Q R f [] p q = tt
all-both P Q R f (x ∷ xs) p q = (f x p.0 q.0, all-both P Q R f xs p.1 q.1)

-- a property of each element implies another
pub all-each : {X : Type 0} (P Q : X → Type 0) → ((x : X) → P x → Q x) → (xs : List X) → AllByRecursion P xs
    → AllByRecursion Q xs
all-each P Q f [] p = tt
all-each P Q f (x ∷ xs) p = (f x p.0, all-each P Q f xs p.1)

-- ---- the blocks of a directory

-- a block of a live set
pub record IsInUse (l : LiveSet) (x : Extent) : Type 0 where
  pub found : extent_at l (handle x) ≡ Some x
  pub room : (n : ℕ) → IsTrue (holds x n) → IsTrue (has_room l (handle x) n)
  pub whole : handle x % 16 ≡ 0

all-in_use : (l : LiveSet) → IsTrue (is_proper l) → AllByRecursion (IsInUse l) l.extents
all-in_use l h = all-both (IsFoundIn l.extents) IsSound (IsInUse l) (λ x f s. record {
  found = f;
  room = λ n k. found-room l (handle x) n x f (no_more (n + 16) x.len k);
  whole = omega (arith, s.aligned);
}) l.extents (found-each 128 l.extents (live-rises l h)) (live-sound l h)

-- the block of each object itself
own-extents : (P : Extent → Type 0) (os : List Object) → AllByRecursion P (flat_map extents_of os)
    → AllByRecursion (λ (o : Object). P o.extent) os
own-extents P [] h = tt
own-extents P (o ∷ os) h =
    (h.0, own-extents P os (AllByRecursion-behind P (value_extents o.value) (flat_map extents_of os) h.1))

-- each object's own block is in use
pub objects-in_use : (d : Directory) → IsTrue (is_proper (live d))
    → AllByRecursion (λ (o : Object). IsInUse (live d) o.extent) d.objects
objects-in_use d h =
    own-extents (IsInUse (live d)) d.objects (of_each (IsInUse (live d)) (all-in_use (live d) h)).objects

table-some : (l : LiveSet) (e : Option Extent) → AllByRecursion (IsInUse l) (option_to_list e)
    → IfSome e (λ x. extent_at l (handle x) ≡ Some x)
table-some l None h = tt
table-some l (Some x) h = h.0.found

-- and the block of each index is in use
pub named-in_use : (d : Directory) → IsTrue (is_proper (live d))
    → IfSome d.named.extent (λ x. extent_at (live d) (handle x) ≡ Some x)
named-in_use d h = table-some (live d) d.named.extent (of_each (IsInUse (live d)) (all-in_use (live d) h)).named

-- the block of the index of kinds is in use
pub unique-in_use : (d : Directory) → IsTrue (is_proper (live d))
    → IfSome d.unique.extent (λ x. extent_at (live d) (handle x) ≡ Some x)
unique-in_use d h = table-some (live d) d.unique.extent (of_each (IsInUse (live d)) (all-in_use (live d) h)).unique
