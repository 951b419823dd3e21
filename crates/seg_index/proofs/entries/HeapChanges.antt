-- Changes of a heap, one after another, and the words outside an index, which stay.
use Rattle.seg_index.proofs.Common.{IsTrue, has_room, heap_touches, is_live_in, ◌≡◌, ap, subst, ◌∙◌, ℕ, ◌+◌, ◌-◌, ◌≤◌}
use Rattle.seg_index.proofs.Common.{current, WindowState, bytes_of, SameSurroundings-trans, Role, LiveSet, added}
use Rattle.seg_index.proofs.Common.{others, AllocatesOk, ChangesBytes, IsHeap, EncodesLiveSet, live_of, allocated-live}
use Rattle.seg_index.proofs.Common.{laid-heap, inl, inr, List, arith, Option, Some, None, SameBytes-part, Extent}
use Rattle.seg_index.proofs.Common.{KeepsBlocks, SameBlock, changed-keeps, KeepsOutsideIndex, without_link}
use Rattle.raw_region.proofs.Laws.{SameBytesExcept-trans, SameBytesExcept-wider, SameBytes-trans}
use Rattle.raw_region.proofs.Laws.{SameBytesExcept-SameBytes}
use Rattle.best_fit.specs.Fit.{insert}
use Rattle.best_fit.proofs.Laws.{changed-live, is_proper-IsProper, others-insert_same, AllByRecursion-others}
use Rattle.best_fit.proofs.Laws.{blocks-trans, changed-header_blocks, others-comm}

-- after a change of bytes the live set is the same
pub same_live : {a b : WindowState} {from n : ℕ} → ChangesBytes current a b from n → live_of b.bytes ≡ live_of a.bytes
same_live c = changed-live current _ _ _ _ c

-- a block in use is in use after bytes change
pub changed_used : (a b : WindowState) (from n h : ℕ) → ChangesBytes current a b from n
    → IsTrue (is_live_in (live_of a.bytes) h) → IsTrue (is_live_in (live_of b.bytes) h)
changed_used a b from n h c used = rw (same_live c) used

-- a change of bytes keeps the bound of a call's touches
pub changed_touches : (a b : WindowState) (from n : ℕ) → ChangesBytes current a b from n
    → heap_touches (live_of b.bytes) ≡ heap_touches (live_of a.bytes)
changed_touches a b from n c = ap heap_touches (same_live c)

-- a heap with bytes changed is a heap
pub changed_heap : {a b : WindowState} {from n : ℕ} → ChangesBytes current a b from n → IsHeap current b.bytes
changed_heap {a} {b} c = laid-heap b.bytes (live_of a.bytes) c.live

-- two changes within a range are a change within it
pub changed_trans : {a b c : WindowState} {f n g k : ℕ} (from m : ℕ) → ChangesBytes current a b f n
    → ChangesBytes current b c g k
    → from ≤ f → f + n ≤ from + m → from ≤ g → g + k ≤ from + m → ChangesBytes current a c from m
changed_trans {a} {b} {c} {f} {n} {g} {k} from m i j low high low2 high2 =
    let A = bytes_of a.bytes in let B = bytes_of b.bytes in let C = bytes_of c.bytes in
    record {
      place = SameSurroundings-trans a b c i.place j.place;
      live = subst (λ (l : LiveSet). EncodesLiveSet current c.bytes l) (same_live i) j.live;
      rest = SameBytesExcept-trans A B C from m (SameBytesExcept-wider A B f n from m i.rest low high)
          (SameBytesExcept-wider B C g k from m j.rest low2 high2);
    }

-- without the block that was allocated the blocks are the old ones
pub taken_others : {a b : WindowState} {n h : ℕ} {role : Role} → AllocatesOk current a b n role h
    → others h (live_of b.bytes).extents ≡ (live_of a.bytes).extents
taken_others {a} {b} {n} {h} {role} i =
    let l = live_of a.bytes in let proper = (is_proper-IsProper (added l i.extent) i.live.proper).list in
    ap (λ (s : LiveSet). others h s.extents) (allocated-live current a b n role h i)
    ∙ ap (λ k. others k (insert i.extent l.extents)) i.at ∙ others-insert_same 128 i.extent l.extents (l.size - 16)
    proper

-- ---- the parts outside the words of an index

-- the three words of an index lie in the header
pub record InHeader (at : ℕ) : Type 0 where
  pub behind : 32 ≤ at
  pub small : at + 24 ≤ 128

-- if the header stays, the words outside an index stay
pub rest_of : {a b : WindowState} {at : ℕ} {xs : List Extent} → KeepsBlocks a b xs → InHeader at
    → KeepsOutsideIndex a b at xs
rest_of {a} {b} {at} k h =
    let A = bytes_of a.bytes in let B = bytes_of b.bytes in
    record {
      place = k.place;
      front = k.front;
      before = SameBytes-part A B 32 128 32 at k.behind (omega arith) (omega arith);
      behind = SameBytes-part A B 32 128 (at + 24) 128 k.behind (omega arith) (omega arith);
      blocks = k.blocks;
    }

-- two steps that keep all outside an index keep it together
pub rest_trans : {a b c : WindowState} {at : ℕ} {xs : List Extent}
    → KeepsOutsideIndex a b at xs → KeepsOutsideIndex b c at xs → KeepsOutsideIndex a c at xs
rest_trans {a} {b} {c} {at} {xs} p q =
    let A = bytes_of a.bytes in let B = bytes_of b.bytes in let C = bytes_of c.bytes in
    record {
      place = SameSurroundings-trans a b c p.place q.place;
      front = SameBytes-trans A B C 0 24 p.front q.front;
      before = SameBytes-trans A B C 32 at p.before q.before;
      behind = SameBytes-trans A B C (at + 24) 128 p.behind q.behind;
      blocks = blocks-trans A B C xs p.blocks q.blocks;
    }

-- if all outside an index stays, it stays without one block
pub rest_others : {a b : WindowState} {at : ℕ} {xs : List Extent} (h : ℕ) → KeepsOutsideIndex a b at xs
    → KeepsOutsideIndex a b at (others h xs)
rest_others {a} {b} {xs = xs} h k = record {
  place = k.place;
  front = k.front;
  before = k.before;
  behind = k.behind;
  blocks = AllByRecursion-others (SameBlock (bytes_of a.bytes) (bytes_of b.bytes)) h xs k.blocks;
}

-- if all outside an index stays, it stays without the index's own block
pub rest_without : {a b : WindowState} {at : ℕ} (l : LiveSet) (o : Option ℕ) → KeepsOutsideIndex a b at l.extents
    → KeepsOutsideIndex a b at (without_link l o).extents
rest_without l None k = k
rest_without l (Some h) k = rest_others h k

-- a change of the three words
pub keeps_words : {a b : WindowState} {f n : ℕ} (at : ℕ) → ChangesBytes current a b f n
    → InHeader at → at ≤ f → f + n ≤ at + 24 → KeepsOutsideIndex a b at (live_of a.bytes).extents
keeps_words {a} {b} {f} {n} at c h low high =
    let A = bytes_of a.bytes in let B = bytes_of b.bytes in
    record {
      place = c.place;
      front = SameBytesExcept-SameBytes A B f n 0 24 c.rest (inl (omega arith));
      before = SameBytesExcept-SameBytes A B f n 32 at c.rest (inl (omega arith));
      behind = SameBytesExcept-SameBytes A B f n (at + 24) 128 c.rest (inr (omega arith));
      blocks = changed-header_blocks current a b f n c (omega arith);
    }

-- a change within a block
pub keeps_written : {a b : WindowState} {n at : ℕ} (block k : ℕ) → ChangesBytes current a b (block + k) n
    → IsTrue (has_room (live_of a.bytes) block (k + n)) → InHeader at
    → KeepsOutsideIndex a b at (others block (live_of a.bytes).extents)
keeps_written {a} {b} {n} block k c room h = rest_of (changed-keeps current a b block k n c room) h

-- and then of the words
pub keeps_both : {a b c : WindowState} {n f m at : ℕ} (block k : ℕ) → ChangesBytes current a b (block + k) n
    → IsTrue (has_room (live_of a.bytes) block (k + n)) → ChangesBytes current b c f m → InHeader at → at ≤ f
    → f + m ≤ at + 24 → KeepsOutsideIndex a c at (others block (live_of a.bytes).extents)
keeps_both {a} {b} {c} {at = at} block k one room two h low high = rest_trans (keeps_written block k one room h)
    (subst (λ (l : LiveSet). KeepsOutsideIndex b c at (others block l.extents)) (same_live one)
    (rest_others block (keeps_words at two h low high)))

-- ---- two blocks less

-- the other blocks, without the block of a link
pub others_without : (h : ℕ) (l less : LiveSet) (o : Option ℕ) → others h l.extents ≡ less.extents
    → others h (without_link l o).extents ≡ (without_link less o).extents
others_without h l less None e = e
others_without h l less (Some g) e = others-comm h g l.extents ∙ ap (others g) e
