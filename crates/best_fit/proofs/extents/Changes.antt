-- The four changes of a live set keep it proper.
use Rattle.best_fit.proofs.Common.{◌≡◌, refl, sym, subst, ℕ, ◌+◌, ◌-◌, ◌%◌, ◌<◌, ◌≤◌, ◌⊎◌, Bool, true, false, ◌&&◌}
use Rattle.best_fit.proofs.Common.{◌||◌, List, [], ◌∷◌, arith, nat_lt, nat_le, ◌==◌, IsTrue, Option, Some, None, find}
use Rattle.best_fit.proofs.Common.{IfSome, false≢true, and_parts, and_from, or_cases, eq-eqb, eqb-true, leb-true}
use Rattle.best_fit.proofs.Common.{ltb-true, cond_both, cases_eq, ne_eqb, cond-true, cond-false, or_left, or_right}
use Rattle.best_fit.proofs.Common.{inl, inr, Role, is_legal_size, Extent, LiveSet, Gap, gaps, handle, end_of}
use Rattle.best_fit.proofs.Common.{is_proper, proper_from, room, share, insert, others, added, released, resized}
use Rattle.best_fit.proofs.Common.{place, gap_after, longer, shorter, is_extent}
use Rattle.std.proofs.lemmas.Option.{IfSome_then}
use Rattle.best_fit.specs.Fit.{AllKeepProper}
use Rattle.best_fit.proofs.extents.Proper.{IsBlock, IsHole, proper_from-IsFirst, next_of, proper_from-hole}
use Rattle.best_fit.proofs.extents.Proper.{proper_from-others, proper_from-resized, names, behind, behind-here}
use Rattle.best_fit.proofs.extents.Proper.{behind-past}
use Rattle.best_fit.proofs.extents.Gaps.{IsFree, LiesIn-IsFree, proper_from-insert, HasExtent, gap_at-behind}
use Rattle.best_fit.proofs.extents.FirstFit.{IsRoom, room-IsRoom, IsShare, share-IsShare, IsPlaced, place-IsPlaced}

-- ---- the size of a proper live set

-- the tiles of a segment of a legal size lie between 128 and a multiple of 16
pub record IsProper (live : LiveSet) : Type 0 where
  pub size : IsTrue (is_legal_size live.size)
  pub whole : (live.size - 16) % 16 ≡ 0
  pub list : IsTrue (proper_from 128 live.extents (live.size - 16))

-- the end tag of a segment of a legal size lies at a multiple of 16
size_cases : (size : ℕ) → ((size == 144) ≡ true) ⊎ (((size % 16 == 0) && nat_le 176 size && nat_le size 1073741824)
    ≡ true) → (size - 16) % 16 ≡ 0
size_cases size (inl e) = let is = eqb-true size 144 e in omega arith
size_cases size (inr h) =
    let two = and_parts ((size % 16 == 0) && nat_le 176 size) (nat_le size 1073741824) h in
    let one = and_parts (size % 16 == 0) (nat_le 176 size) two.0 in
    let whole = eqb-true (size % 16) 0 one.0 in omega arith

-- a proper live set passes the test
pub is_proper-IsProper : (live : LiveSet) → IsTrue (is_proper live) → IsProper live
unfolding is_proper
is_proper-IsProper live h =
    let parts = and_parts (is_legal_size live.size) (proper_from 128 live.extents (live.size - 16)) h in
    record {
      size = parts.0;
      whole = size_cases live.size
          (or_cases (live.size == 144)
          ((live.size % 16 == 0) && nat_le 176 live.size && nat_le live.size 1073741824) parts.0);
      list = parts.1;
    }

-- other extents in the same segment, if they are proper
pub is_proper-extents : (live : LiveSet) (xs : List Extent) → IsProper live
    → IsTrue (proper_from 128 xs (live.size - 16)) → IsTrue (is_proper (record live { extents = xs }))
unfolding is_proper
is_proper-extents live xs p list = and_from (is_legal_size live.size) (proper_from 128 xs (live.size - 16)) p.size list

-- ---- place and release

-- the part of a gap that is allocated is a block
placed_block : (n : ℕ) (g : Gap) (x : Extent) → IsFree g → x.offset ≡ g.offset → IsShare g.len (room n) x.len
    → IsRoom n (room n) → IsBlock x
placed_block n g x free at share room =
    let enough = share.enough in
    let left = share.left in
    let whole = free.len in
    let place = free.offset in
    let long = room.long in
    let len = room.len in record { offset = omega arith; long = omega arith; len = omega arith }

-- nothing is left of the bytes at hand, or enough for a free block
left_cases : (at available wanted s : ℕ) → (s ≡ available) ⊎ ((s ≡ wanted) × (wanted + 32 ≤ available))
    → IsHole (at + s) (at + available)
left_cases at available wanted s (inl e) = inl (omega arith)
left_cases at available wanted s (inr e) = inr (let is = e.0 in let more = e.1 in omega arith)

-- the same for a gap
placed_left : (n : ℕ) (g : Gap) (x : Extent) → x.offset ≡ g.offset → IsShare g.len (room n) x.len
    → IsHole (end_of x) (g.offset + g.len)
placed_left n g x at share = rw at (left_cases g.offset g.len (room n) x.len share.left)

-- a proper live set stays proper with an extent at the front of a fit
pub is_proper-added : (live : LiveSet) → IsProper live → (n : ℕ) (x : Extent) → IsPlaced live n x
    → IsTrue (is_proper (added live x))
is_proper-added live p n x placed =
    let g = placed.gap in
    let free = LiesIn-IsFree 128 live.extents (live.size - 16) g refl p.whole p.list placed.fits.lies in
    let at = placed.offset in
    let share = placed.len in
    let room = room-IsRoom n in
    let block : IsBlock x = placed_block n g x free at share room in
    is_proper-extents live (insert x live.extents) p
    (proper_from-insert 128 live.extents (live.size - 16) g x p.list placed.fits.lies (inl (sym at)) block
    (placed_left n g x at share))

-- the live set with the extent of an allocation is proper
pub is_proper-place : (live : LiveSet) → IsProper live → (n : ℕ) (role : Role)
    → IfSome (place live n role) (λ x. IsTrue (is_proper (added live x)))
is_proper-place live p n role =
    IfSome_then (place live n role) (place-IsPlaced live n role) (is_proper-added live p n)

-- without an extent
pub is_proper-released : (live : LiveSet) → IsProper live → (h : ℕ) → IsTrue (is_proper (released live h))
is_proper-released live p h = is_proper-extents live (others h live.extents) p
    (proper_from-others 128 live.extents (live.size - 16) h p.list)

-- ---- another length in place

-- the extent that was found has the length of x
abbrev same_len : Extent → Option Extent → Bool
same_len x o = elim o [ None ↦ false | Some y ↦ y.len == x.len ]

-- the first extent with the handle of x
abbrev found : Extent → List Extent → Option Extent
found x xs = find (λ (y : Extent). handle y == handle x) xs

-- by whether the first extent has the handle
found_step : (x y : Extent) (ys : List Extent) → (IsTrue (same_len x (found x ys)) → HasExtent x ys)
    → IsTrue (same_len x (found x (y ∷ ys)))
    → (handle y ≡ handle x) ⊎ (handle y ≡ handle x → ⊥) → HasExtent x (y ∷ ys)
found_step x y ys rest h (inl e) =
    inl (
      e,
      eqb-true y.len x.len
          (subst (λ o. IsTrue (same_len x o))
          (cond-true (handle y == handle x) (Some y) (found x ys) (eq-eqb (handle y) (handle x) e)) h),
    )
found_step x y ys rest h (inr n) =
    inr (
      n,
      rest (subst (λ o. IsTrue (same_len x o))
          (cond-false (handle y == handle x) (Some y) (found x ys) (ne_eqb (handle y) (handle x) n)) h),
    )

-- the list has an extent that is found with its length
found_has : (x : Extent) (xs : List Extent) → IsTrue (same_len x (found x xs)) → HasExtent x xs
found_has x [] h = absurd (false≢true h)
found_has x (y ∷ ys) h = found_step x y ys (found_has x ys) h (cases_eq (handle y) (handle x))

-- an extent of the live set is in its list
pub is_extent-HasExtent : (live : LiveSet) (x : Extent) → IsTrue (is_extent live x) → HasExtent x live.extents
is_extent-HasExtent live x h = found_has x live.extents h

-- its handle is in the list
pub HasExtent-names : (x : Extent) (xs : List Extent) → HasExtent x xs → IsTrue (names (handle x) xs)
HasExtent-names x [] has = absurd has
HasExtent-names x (y ∷ ys) (inl has) = or_left (handle y == handle x) (names (handle x) ys)
    (eq-eqb (handle y) (handle x) has.0)
HasExtent-names x (y ∷ ys) (inr has) = or_right (handle y == handle x) (names (handle x) ys)
    (HasExtent-names x ys has.1)

-- an extent with the handle and length of a block is a block
same_block : (y x : Extent) → IsBlock y → handle y ≡ handle x → y.len ≡ x.len → IsBlock x
same_block y x b at len =
    let offset = b.offset in
    let long = b.long in
    let whole = b.len in record { offset = omega arith; long = omega arith; len = omega arith }

-- the extent is a block, and a hole follows it up to a multiple of 16
pub record IsAmong (x : Extent) (next : ℕ) : Type 0 where
  pub block : IsBlock x
  pub hole : IsHole (end_of x) next
  pub whole : next % 16 ≡ 0

-- the next extent begins at a multiple of 16, and so does the end tag
next_whole : (from : ℕ) (xs : List Extent) (to : ℕ) → to % 16 ≡ 0 → IsTrue (proper_from from xs to)
    → next_of xs to % 16 ≡ 0
next_whole from [] to e p = e
next_whole from (y ∷ ys) to e p = (proper_from-IsFirst from y ys to p).block.offset

-- the same for each extent of a proper list
pub HasExtent-IsAmong : (from : ℕ) (xs : List Extent) (to : ℕ) (x : Extent) → to % 16 ≡ 0
    → IsTrue (proper_from from xs to) → HasExtent x xs → IsAmong x (next_of (behind (handle x) xs) to)
HasExtent-IsAmong from [] to x e p has = absurd has
HasExtent-IsAmong from (y ∷ ys) to x e p (inl has) =
    let f = proper_from-IsFirst from y ys to p in
    let at = has.0 in
    let len = has.1 in
    let offset = f.block.offset in
    let long = f.block.long in
    let whole = f.block.len in
    let same : end_of y ≡ end_of x = omega arith in
    let hole = proper_from-hole (end_of y) ys to f.rest in
    rw (behind-here (handle x) y ys at) (record {
      block = same_block y x f.block at len;
      hole = rw same at hole;
      whole = next_whole (end_of y) ys to e f.rest;
    })
HasExtent-IsAmong from (y ∷ ys) to x e p (inr has) =
    let f = proper_from-IsFirst from y ys to p in
    rw (behind-past (handle x) y ys has.0) (HasExtent-IsAmong (end_of y) ys to x e f.rest has.1)

-- an extent of a proper live set, and the offset of the next one
pub record IsNeighbour (live : LiveSet) (x : Extent) (next : ℕ) : Type 0 where
  pub block : IsBlock x
  pub hole : IsHole (end_of x) next
  pub whole : next % 16 ≡ 0
  pub gap : end_of x + gap_after live x ≡ next

-- the offset of the extent after x, or the end
unfoldable pub next_to : LiveSet → Extent → ℕ
next_to live x = next_of (behind (handle x) live.extents) (live.size - 16)

-- the same for each extent of a proper live set
pub is_extent-IsNeighbour : (live : LiveSet) (x : Extent) → IsProper live → IsTrue (is_extent live x)
    → IsNeighbour live x (next_to live x)
unfolding gap_after gaps next_to
is_extent-IsNeighbour live x p h =
    let has = is_extent-HasExtent live x h in
    let among = HasExtent-IsAmong 128 live.extents (live.size - 16) x p.whole p.list has in
    record {
      block = among.block;
      hole = among.hole;
      whole = among.whole;
      gap = gap_at-behind 128 live.extents (live.size - 16) x p.list has;
    }

-- a proper live set stays proper with x in another length, up to a hole before the next
pub is_proper-resized : (live : LiveSet) (x : Extent) (len : ℕ) → IsProper live → IsTrue (is_extent live x)
    → 32 ≤ len → len % 16 ≡ 0
    → IsHole (x.offset + len) (next_to live x) → IsTrue (is_proper (resized live (record x { len = len })))
unfolding next_to
is_proper-resized live x len p h long whole hole =
    let n = is_extent-IsNeighbour live x p h in
    let y : Extent = record x { len = len } in
    is_proper-extents live (insert y (others (handle x) live.extents)) p
    (proper_from-resized 128 live.extents (live.size - 16) y p.list
    (record { offset = n.block.offset; long = long; len = whole })
    (HasExtent-names x live.extents (is_extent-HasExtent live x h)) hole)

-- ---- longer and shorter

-- a share of whole blocks is whole
share_whole : (available wanted len : ℕ) → available % 16 ≡ 0 → wanted % 16 ≡ 0
    → IsShare available wanted len → len % 16 ≡ 0
share_whole available wanted len a w share = let left = share.left in omega arith

-- a share is long enough if the request is
long_share : (available wanted len : ℕ) → 32 ≤ wanted → IsShare available wanted len → 32 ≤ len
long_share available wanted len w share = let enough = share.enough in omega arith

-- the length between two multiples of 16 is one too
whole_sum : (at len gap next : ℕ) → at % 16 ≡ 0 → next % 16 ≡ 0 → at + len + gap ≡ next → (len + gap) % 16 ≡ 0
whole_sum at len gap next a n e = omega arith

-- a hole follows a share
longer_hole : (at len gap next wanted s : ℕ) → at + len + gap ≡ next
    → IsShare (len + gap) wanted s → IsHole (at + s) next
longer_hole at len gap next wanted s joins share =
    let to_end : at + (len + gap) ≡ next = omega arith in
    rw to_end at (left_cases at (len + gap) wanted s share.left)

-- with x in the length of its share
longer_here : (live : LiveSet) (x : Extent) (n : ℕ) → IsProper live → IsTrue (is_extent live x)
    → room n ≤ x.len + gap_after live x
    → IsTrue (is_proper (resized live (record x { len = share (x.len + gap_after live x) (room n) })))
longer_here live x n p h fits =
    let among = is_extent-IsNeighbour live x p h in
    let available = x.len + gap_after live x in
    let taken = share-IsShare available (room n) fits in
    let wanted = room-IsRoom n in
    let offset = among.block.offset in
    let len = among.block.len in
    let whole = among.whole in
    let joins = among.gap in
    is_proper-resized live x (share available (room n)) p h
    (long_share available (room n) (share available (room n)) wanted.long taken)
    (share_whole available (room n) (share available (room n))
    (whole_sum x.offset x.len (gap_after live x) (next_to live x) offset whole joins) wanted.len taken)
    (longer_hole x.offset x.len (gap_after live x) (next_to live x) (room n) (share available (room n)) joins taken)

-- with x lengthened
pub is_proper-longer : (live : LiveSet) (x : Extent) (n : ℕ) → IsProper live → IsTrue (is_extent live x)
    → IfSome (longer live x n) (λ y. IsTrue (is_proper (resized live y)))
unfolding longer
is_proper-longer live x n p h =
    let available = x.len + gap_after live x in
    let y : Extent = record x { len = share available (room n) } in
    cond_both (nat_lt x.len (room n) && nat_le (room n) available) (Some y) None
    (λ o. IfSome o (λ z. IsTrue (is_proper (resized live z))))
    (λ t. longer_here live x n p h
    (leb-true (room n) available (and_parts (nat_lt x.len (room n)) (nat_le (room n) available) t).1)) (λ _. tt)

-- the part cut off joins a gap, or is enough for a free block
shorter_hole : (at len gap next wanted : ℕ) → IsHole (at + len) next → at + len + gap ≡ next → wanted < len
    → ((nat_lt 0 gap) ≡ true) ⊎ ((nat_le (wanted + 32) len) ≡ true) → IsHole (at + wanted) next
shorter_hole at len gap next wanted hole joins less (inl some) = inr (let more = ltb-true 0 gap some in omega arith)
shorter_hole at len gap next wanted hole joins less (inr cut) =
    inr (let more = leb-true (wanted + 32) len cut in omega arith)

-- the live set with x cut to the requested length
shorter_here : (live : LiveSet) (x : Extent) (n : ℕ) → IsProper live → IsTrue (is_extent live x)
    → (nat_lt (room n) x.len && (nat_lt 0 (gap_after live x) || nat_le (room n + 32) x.len)) ≡ true
    → IsTrue (is_proper (resized live (record x { len = room n })))
shorter_here live x n p h t =
    let among = is_extent-IsNeighbour live x p h in
    let parts = and_parts (nat_lt (room n) x.len) (nat_lt 0 (gap_after live x) || nat_le (room n + 32) x.len) t in
    let wanted = room-IsRoom n in
    is_proper-resized live x (room n) p h wanted.long wanted.len
    (shorter_hole x.offset x.len (gap_after live x) (next_to live x) (room n) among.hole among.gap
    (ltb-true (room n) x.len parts.0)
    (or_cases (nat_lt 0 (gap_after live x)) (nat_le (room n + 32) x.len) parts.1))

-- with x as it is
as_it_is : (live : LiveSet) (x : Extent) → IsProper live → IsTrue (is_extent live x)
    → IsTrue (is_proper (resized live x))
as_it_is live x p h =
    let among = is_extent-IsNeighbour live x p h in
    is_proper-resized live x x.len p h among.block.long among.block.len among.hole

-- with x shortened
pub is_proper-shorter : (live : LiveSet) (x : Extent) (n : ℕ) → IsProper live → IsTrue (is_extent live x)
    → IsTrue (is_proper (resized live (shorter live x n)))
unfolding shorter
is_proper-shorter live x n p h =
    let y : Extent = record x { len = room n } in
    cond_both (nat_lt (room n) x.len && (nat_lt 0 (gap_after live x) || nat_le (room n + 32) x.len)) y x
    (λ z. IsTrue (is_proper (resized live z)))
    (λ t. shorter_here live x n p h t) (λ _. as_it_is live x p h)

-- ---- the law

-- all four changes keep a proper live set proper
pub all_keep_proper : AllKeepProper
all_keep_proper live h =
    let p = is_proper-IsProper live h in
    record {
      place = is_proper-place live p;
      release = is_proper-released live p;
      longer = λ x n e. is_proper-longer live x n p e;
      shorter = λ x n e. is_proper-shorter live x n p e;
    }
