-- A new block: it has room for the request, it stays new when it is written, and a write to a block keeps the others.
use Rattle.best_fit.proofs.Common.{◌≡◌, sym, ap, ◌∙◌, ℕ, ◌+◌, ◌-◌, ◌/◌, ◌%◌, ◌≤◌, ◌⊎◌, Bool, true, ◌&&◌, List, [], ◌∷◌}
use Rattle.best_fit.proofs.Common.{arith, ◌==◌, IsTrue, list_any, AllByRecursion, and_parts, and_from, or_cases}
use Rattle.best_fit.proofs.Common.{or_left, or_right, eq-eqb, eqb-true, leb-true, le-leb, cases_eq, inl, inr, Memory}
use Rattle.best_fit.proofs.Common.{WindowState, SameBytesExcept, bytes_of, SameBytesExcept-SameBytes}
use Rattle.best_fit.proofs.Common.{SameBytesExcept-word, Role, Extent, handle, end_of, holds, proper_from, others}
use Rattle.best_fit.proofs.Common.{added, released, resized, is_red, live_of, is_live_in, has_room, SameBlock}
use Rattle.best_fit.proofs.Common.{KeepsBlocks, AllocatesOk, Deallocates, ResizesBlock, ChangesBytes}
use Rattle.best_fit.proofs.extents.Proper.{IsFirst, proper_from-IsFirst, names, proper_from-names, others-here}
use Rattle.best_fit.proofs.extents.Proper.{others-past}
use Rattle.best_fit.proofs.extents.Order.{list_any-insert, list_any-insert_others, others-insert_same}
use Rattle.best_fit.proofs.extents.FirstFit.{place-holds}
use Rattle.best_fit.proofs.extents.Changes.{is_proper-IsProper}
use Rattle.best_fit.proofs.tags.OneLiveSet.{lay_out_one}
use Rattle.best_fit.proofs.tags.Frames.{IsBeside, AllByRecursion-beside, keeps-trans}

-- ---- the live set afterwards

-- the old live set with the new extent
pub allocated-live : (format : ℕ) (old new : WindowState) (n : ℕ) (role : Role) (h : ℕ)
    → (a : AllocatesOk format old new n role h) → live_of new.bytes ≡ added (live_of old.bytes) a.extent
allocated-live format old new n role h a = lay_out_one format new.bytes (added (live_of old.bytes) a.extent) a.live

-- the old live set without the extent of a handle
pub released-live : (format : ℕ) (old new : WindowState) (h : ℕ) → Deallocates format old new h
    → live_of new.bytes ≡ released (live_of old.bytes) h
released-live format old new h r = lay_out_one format new.bytes (released (live_of old.bytes) h) r.live

-- the old live set with another length of one extent
pub resized-live : (format : ℕ) (old new : WindowState) (x y : Extent) → ResizesBlock format old new x y
    → live_of new.bytes ≡ resized (live_of old.bytes) y
resized-live format old new x y r = lay_out_one format new.bytes (resized (live_of old.bytes) y) r.live

-- the old live set
pub changed-live : (format : ℕ) (old new : WindowState) (from n : ℕ) → ChangesBytes format old new from n
    → live_of new.bytes ≡ live_of old.bytes
changed-live format old new from n c = lay_out_one format new.bytes (live_of old.bytes) c.live

-- ---- room

-- the test of `has_room` at one extent
abbrev roomy : ℕ → ℕ → Extent → Bool
roomy h n x = (handle x == h) && holds x n

-- an extent that holds n bytes holds fewer
pub holds-fewer : (x : Extent) (n k : ℕ) → k ≤ n → IsTrue (holds x n) → IsTrue (holds x k)
holds-fewer x n k l t = let long = leb-true (n + 16) x.len t in le-leb (k + 16) x.len (omega arith)

-- a new block has room for the requested bytes
pub allocated-room : (format : ℕ) (old new : WindowState) (n : ℕ) (role : Role) (h k : ℕ)
    → AllocatesOk format old new n role h → k ≤ n → IsTrue (has_room (live_of new.bytes) h k)
allocated-room format old new n role h k a l =
    let room = holds-fewer a.extent n k l (place-holds (live_of old.bytes) n role a.extent a.placed) in
    rw (allocated-live format old new n role h a)
    (list_any-insert (roomy h k) a.extent (live_of old.bytes).extents
    (and_from (handle a.extent == h) (holds a.extent k) (eq-eqb (handle a.extent) h (sym a.at)) room))

-- the new handle is in the live set
pub allocated-is_live : (format : ℕ) (old new : WindowState) (n : ℕ) (role : Role) (h : ℕ)
    → AllocatesOk format old new n role h → IsTrue (is_live_in (live_of new.bytes) h)
allocated-is_live format old new n role h a =
    rw (allocated-live format old new n role h a)
    (list_any-insert (λ (x : Extent). handle x == h) a.extent (live_of old.bytes).extents
    (eq-eqb (handle a.extent) h (sym a.at)))

-- a block that had room before still has it
pub allocated-room_before : (format : ℕ) (old new : WindowState) (n : ℕ) (role : Role) (h g k : ℕ)
    → AllocatesOk format old new n role h
    → IsTrue (has_room (live_of old.bytes) g k) → IsTrue (has_room (live_of new.bytes) g k)
allocated-room_before format old new n role h g k a t =
    rw (allocated-live format old new n role h a)
    (list_any-insert_others (roomy g k) a.extent (live_of old.bytes).extents t)

-- and where bytes change
pub changed-room : (format : ℕ) (old new : WindowState) (from n g k : ℕ) → ChangesBytes format old new from n
    → IsTrue (has_room (live_of old.bytes) g k) → IsTrue (has_room (live_of new.bytes) g k)
changed-room format old new from n g k c t = rw (changed-live format old new from n c) t

-- by whether the first extent is the one with room
names_step : (h n : ℕ) (x : Extent) (xs : List Extent) → (IsTrue (list_any (roomy h n) xs) → IsTrue (names h xs))
    → (roomy h n x ≡ true) ⊎ (list_any (roomy h n) xs ≡ true) → IsTrue (names h (x ∷ xs))
names_step h n x xs rest (inl t) = or_left (handle x == h) (names h xs) (and_parts (handle x == h) (holds x n) t).0
names_step h n x xs rest (inr t) = or_right (handle x == h) (names h xs) (rest t)

-- a block with room is live
pub has_room-names : (h n : ℕ) (xs : List Extent) → IsTrue (list_any (roomy h n) xs) → IsTrue (names h xs)
has_room-names h n [] t = t
has_room-names h n (x ∷ xs) t = names_step h n x xs (has_room-names h n xs)
    (or_cases (roomy h n x) (list_any (roomy h n) xs) t)

-- ---- the other blocks

-- the extents of a proper list are after its beginning
behind_beside : (from : ℕ) (xs : List Extent) (to h n : ℕ) → IsTrue (proper_from from xs to) → h + n ≤ from
    → AllByRecursion (IsBeside h n) xs
behind_beside from [] to h n p l = tt
behind_beside from (x ∷ xs) to h n p l =
    let f = proper_from-IsFirst from x xs to p in
    let hole = f.hole in
    let long = f.block.long in
    (record { long = omega arith; apart = inr (omega arith) }, behind_beside (end_of x) xs to h n f.rest (omega arith))

-- the first extent has the handle and the room
here_room : (x : Extent) (xs : List Extent) (to h n : ℕ) → 32 ≤ x.len → IsTrue (proper_from (end_of x) xs to)
    → handle x ≡ h → (roomy h n x ≡ true) ⊎ (list_any (roomy h n) xs ≡ true) → h + n ≤ end_of x
here_room x xs to h n long p e (inl t) = let enough = leb-true (n + 16) x.len
    (and_parts (handle x == h) (holds x n) t).1 in omega arith
here_room x xs to h n long p e (inr t) =
    let later = proper_from-names (end_of x) xs to h p (has_room-names h n xs t) in absurd (omega arith)

-- the first extent does not have the handle
past_room : (x : Extent) (xs : List Extent) (h n : ℕ) → (handle x ≡ h → ⊥)
    → (roomy h n x ≡ true) ⊎ (list_any (roomy h n) xs ≡ true) → IsTrue (list_any (roomy h n) xs)
past_room x xs h n other (inl t) = absurd (other (eqb-true (handle x) h (and_parts (handle x == h) (holds x n) t).0))
past_room x xs h n other (inr t) = t

-- by whether the first extent has the handle
others_beside_step : (from : ℕ) (x : Extent) (xs : List Extent) (to h at n : ℕ) → at + 16 ≡ h → IsFirst from x xs to
    → (roomy h n x ≡ true) ⊎ (list_any (roomy h n) xs ≡ true)
    → (IsTrue (list_any (roomy h n) xs) → AllByRecursion (IsBeside at (16 + n)) (others h xs))
    → (handle x ≡ h) ⊎ (handle x ≡ h → ⊥) → AllByRecursion (IsBeside at (16 + n)) (others h (x ∷ xs))
others_beside_step from x xs to h at n e f room rest (inl same) =
    let within = here_room x xs to h n f.block.long f.rest same room in
    rw (others-here h x xs same) (behind_beside (end_of x) xs to at (16 + n) f.rest (omega arith))
others_beside_step from x xs to h at n e f room rest (inr other) =
    let later = past_room x xs h n other room in
    let beyond = proper_from-names (end_of x) xs to h f.rest (has_room-names h n xs later) in
    let long = f.block.long in
    rw (others-past h x xs other) (record { long = omega arith; apart = inl (omega arith) }, rest later)

-- all other blocks lie outside the tags and outside the first n bytes of a block that has room for them
pub others-IsBeside : (from : ℕ) (xs : List Extent) (to h at n : ℕ) → at + 16 ≡ h → IsTrue (proper_from from xs to)
    → IsTrue (list_any (roomy h n) xs)
    → AllByRecursion (IsBeside at (16 + n)) (others h xs)
others-IsBeside from [] to h at n e p t = tt
others-IsBeside from (x ∷ xs) to h at n e p t =
    let f = proper_from-IsFirst from x xs to p in
    others_beside_step from x xs to h at n e f (or_cases (roomy h n x) (list_any (roomy h n) xs) t)
    (others-IsBeside (end_of x) xs to h at n e f.rest) (cases_eq (handle x) h)

-- a block outside a range is outside each part of the range
part_step : (low n at k : ℕ) (x : Extent) → low ≤ at → at + k ≤ low + n → (end_of x ≤ low) ⊎ (low + n ≤ x.offset)
    → (end_of x ≤ at) ⊎ (at + k ≤ x.offset)
part_step low n at k x begins ends (inl l) = inl (omega arith)
part_step low n at k x begins ends (inr l) = inr (omega arith)

-- and all extents of a list stay outside
pub IsBeside-part : (low n at k : ℕ) (xs : List Extent) → low ≤ at → at + k ≤ low + n
    → AllByRecursion (IsBeside low n) xs → AllByRecursion (IsBeside at k) xs
IsBeside-part low n at k [] begins ends all = tt
IsBeside-part low n at k (x ∷ xs) begins ends all = (
  record { long = all.0.long; apart = part_step low n at k x begins ends all.0.apart },
  IsBeside-part low n
      at k xs begins ends all.1,
)

-- a change within one block, its tags or the first n bytes of its payload, keeps all others
pub changed-keeps_block : (format : ℕ) (old new : WindowState) (from k h n : ℕ) → ChangesBytes format old new from k
    → IsTrue (has_room (live_of old.bytes) h n) → h ≤ from + 16 → from + k ≤ h + n
    → KeepsBlocks old new (others h (live_of old.bytes).extents)
changed-keeps_block format old new from k h n c room begins ends =
    let live = live_of old.bytes in
    let p = is_proper-IsProper live c.live.proper in
    let low = proper_from-names 128 live.extents (live.size - 16) h p.list (has_room-names h n live.extents room) in
    let block : h - 16 + 16 ≡ h = omega arith in
    record {
      place = c.place;
      front = SameBytesExcept-SameBytes (bytes_of old.bytes) (bytes_of new.bytes) from k 0 24 c.rest
          (inl (omega arith));
      behind = SameBytesExcept-SameBytes (bytes_of old.bytes) (bytes_of new.bytes) from k 32 128 c.rest
          (inl (omega arith));
      blocks = AllByRecursion-beside (bytes_of old.bytes) (bytes_of new.bytes) from k (others h live.extents) c.rest
          (IsBeside-part (h - 16) (16 + n) from k (others h live.extents) (omega arith) (omega arith)
          (others-IsBeside 128 live.extents (live.size - 16) h (h - 16) n block p.list room));
    }

-- a change in the payload of one block keeps all others
pub changed-keeps : (format : ℕ) (old new : WindowState) (h at k : ℕ) → ChangesBytes format old new (h + at) k
    → IsTrue (has_room (live_of old.bytes) h (at + k))
    → KeepsBlocks old new (others h (live_of old.bytes).extents)
changed-keeps format old new h at k c room = changed-keeps_block format old new (h + at) k h (at + k) c room
    (omega arith) (omega arith)

-- a change of header words keeps all blocks
pub changed-header_blocks : (format : ℕ) (old new : WindowState) (from n : ℕ) → ChangesBytes format old new from n
    → from + n ≤ 128
    → AllByRecursion (SameBlock (bytes_of old.bytes) (bytes_of new.bytes)) (live_of old.bytes).extents
changed-header_blocks format old new from n c l =
    let live = live_of old.bytes in
    let p = is_proper-IsProper live c.live.proper in
    AllByRecursion-beside (bytes_of old.bytes) (bytes_of new.bytes) from n live.extents c.rest
    (behind_beside 128 live.extents (live.size - 16) from n p.list l)

-- ---- a new block that is written

-- without the new block the live set is as before
pub allocated-others : (format : ℕ) (old new : WindowState) (n : ℕ) (role : Role) (h : ℕ)
    → AllocatesOk format old new n role h → others h (live_of new.bytes).extents ≡ (live_of old.bytes).extents
allocated-others format old new n role h a =
    let live = live_of old.bytes in
    let x = a.extent in
    let p = is_proper-IsProper (added live x) a.live.proper in
    rw (allocated-live format old new n role h a, a.at) (others-insert_same 128 x live.extents (live.size - 16) p.list)

-- a block whose payload is written has the colour that it had
pub is_red-payload : (m m' : Memory) (h from k : ℕ) → SameBytesExcept m m' from k → 8 ≤ h → h ≤ from
    → is_red m' h ≡ is_red m h
is_red-payload m m' h from k same tag l = ap (λ w. w / 2 % 2 == 1)
    (SameBytesExcept-word m m' from k (h - 8) same (inl (omega arith)))

-- a new block whose payload is written is still new
pub still_allocated-block : (format : ℕ) (old mid new : WindowState) (n : ℕ) (role : Role) (h from k room : ℕ)
    → AllocatesOk format old mid n role h → ChangesBytes format mid new from k
    → IsTrue (has_room (live_of mid.bytes) h room) → h ≤ from → from + k ≤ h + room
    → AllocatesOk format old new n role h
still_allocated-block format old mid new n role h from k room a c has begins ends =
    let at = a.at in
    record {
      extent = a.extent;
      placed = a.placed;
      at = a.at;
      live = rw (allocated-live format old mid n role h a) at c.live;
      black = is_red-payload (bytes_of mid.bytes) (bytes_of new.bytes) h from k c.rest (omega arith) begins ∙ a.black;
      keeps = keeps-trans old mid new (live_of old.bytes).extents a.keeps
          (rw (allocated-others format old mid n role h a) at
          (changed-keeps_block format mid new from k h room c has (omega arith) ends));
    }

-- the same for an offset that counts from the block's handle
pub still_allocated : (format : ℕ) (old mid new : WindowState) (n : ℕ) (role : Role) (h at k : ℕ)
    → AllocatesOk format old mid n role h → ChangesBytes format mid new (h + at) k
    → IsTrue (has_room (live_of mid.bytes) h (at + k)) → AllocatesOk format old new n role h
still_allocated format old mid new n role h at k a c has = still_allocated-block format old mid new n role h (h + at)
    k (at + k) a c has (omega arith) (omega arith)

-- ---- a new block in the place of an old one

-- ---- a resized block that is written
