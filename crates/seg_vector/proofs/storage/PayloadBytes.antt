-- Bytes that are written into a block by way of its whole payload.
use Rattle.seg_vector.proofs.Common as W
use W.{◌≡◌, sym, ap, subst, ◌∙◌, inl, inr, ℕ, ◌+◌, ◌-◌, ◌<◌, ◌≤◌, ◌⊎◌, List, Some, None, length, arith, IsTrue}
use W.{WindowState, HasBytesAt, ChangesBytes, IsHeap, block_payload, bytes_of, current, has_room, live_of, part}
use W.{patched, payload_at, read-part, room_block}
use Rattle.std.specs.Prelude.{slice_index}
use Rattle.std.proofs.lemmas.Bool.{cases_lt}
use Rattle.raw_region.proofs.Laws.{length-part, length-patched, part-at, part-part, patched-HasBytesAt, patched-outside}
use Rattle.best_fit.specs.Heap.{LoansWriteOneBlock, payload_len, with_payload}
use Rattle.seg_vector.proofs.storage.Storage.{live-if}

-- a part of a window's bytes is replaced, and no other byte changes
module _ (c d : WindowState) (h at n : ℕ) (bs : List ℕ) (inside : h + n ≤ length c.bytes)
    (long : length d.bytes ≡ length c.bytes) (within : at + length bs ≤ n) (w : ChangesBytes current c d h n)
    (s : part d.bytes h n ≡ patched (part c.bytes h n) at bs) where
  fits : at + length bs ≤ length (part c.bytes h n)
  fits = omega (arith, length-part c.bytes h n inside, within)

  inner : (j : ℕ) → j < n → (j < at) ⊎ (at + length bs ≤ j) → slice_index d.bytes (h + j) ≡ slice_index c.bytes (h + j)
  inner j f o = sym (part-at d.bytes h n j f) ∙ ap (λ (l : List ℕ). slice_index l j) s
      ∙ patched-outside (part c.bytes h n) at bs fits j o ∙ part-at c.bytes h n j f

  away : (k : ℕ) → h ≤ k → (k < h + at) ⊎ (h + at + length bs ≤ k) → (k - h < at) ⊎ (at + length bs ≤ k - h)
  away k a (inl o) = inl (omega arith)
  away k a (inr o) = inr (omega arith)

  by : (k : ℕ) → (k < h) ⊎ (h ≤ k) → (k < h + n) ⊎ (h + n ≤ k) → (k < h + at) ⊎ (h + at + length bs ≤ k)
      → bytes_of d.bytes k ≡ bytes_of c.bytes k
  by k (inl a) b o = w.rest.at k (inl a)
  by k (inr a) (inr b) o = w.rest.at k (inr b)
  by k (inr a) (inl b) o =
      let e : k ≡ h + (k - h) = omega arith in
      ap (bytes_of d.bytes) e ∙ inner (k - h) (omega arith) (away k a o) ∙ sym (ap (bytes_of c.bytes) e)

  pub narrowed : ChangesBytes current c d (h + at) (length bs)
  narrowed = record {
    place = w.place;
    live = w.live;
    rest = record { at = λ k o. by k (cases_lt k h) (cases_lt k (h + n)) o };
  }

  pub written-there : HasBytesAt (bytes_of d.bytes) (h + at) bs
  written-there =
      let all = patched (part c.bytes h n) at bs in
      read-part d.bytes (h + at) (length bs) (omega (arith, inside, long, within))
      ∙ sym (part-part d.bytes h n at (length bs) within) ∙ ap (λ (l : List ℕ). part l at (length bs)) s
      ∙ sym (read-part all at (length bs) (omega (arith, length-patched (part c.bytes h n) at bs fits, fits)))
      ∙ patched-HasBytesAt (part c.bytes h n) at bs fits

-- the payload of a block is as long as the room that it has
pub payload-room : (c : WindowState) (h n : ℕ) → IsHeap current c.bytes → IsTrue (has_room (live_of c.bytes) h n)
    → n ≤ length (payload_at c.bytes (live_of c.bytes) h)
payload-room c h n heap room =
    let r = room_block c h n heap room in let b = r.block in
    let o = b.at in let long = b.long in let ends = b.inside in let enough = r.enough in
    let whole : h + (b.tile.len - 16) ≤ length c.bytes = omega arith in
    omega (arith, ap length (block_payload c h b), length-part c.bytes h (b.tile.len - 16) whole)

-- a loan of the payload, after bytes were written to it from an offset on
module _ (law : LoansWriteOneBlock) (c : WindowState) (h at : ℕ) (bs : List ℕ) (heap : IsHeap current c.bytes)
    (room : IsTrue (has_room (live_of c.bytes) h (at + length bs))) where
  abbrev payload : List ℕ
  payload = payload_at c.bytes (live_of c.bytes) h

  -- bytes written through the whole payload change only their range
  pub payload-spelled : (ws : List ℕ) → ws ≡ patched payload at bs
      → ChangesBytes current c (with_payload c h ws) (h + at) (length bs)
      × HasBytesAt (bytes_of (with_payload c h ws).bytes) (h + at) bs
  payload-spelled ws e =
      let r = room_block c h (at + length bs) heap room in let b = r.block in
      let o = b.at in let long = b.long in let ends = b.inside in let enough = r.enough in
      let n : ℕ = b.tile.len - 16 in let inside : h + n ≤ length c.bytes = omega arith in
      let is : payload ≡ part c.bytes h n = block_payload c h b in
      let whole : length payload ≡ n = ap length is ∙ length-part c.bytes h n inside in
      let count : length ws ≡ n = ap length e
      ∙ length-patched payload at bs (payload-room c h (at + length bs) heap room) ∙ whole in
      let len : payload_len (live_of c.bytes) h ≡ n =
      ap (λ o. elim o as (λ _. ℕ) [ None ↦ 0 | Some x ↦ x.len - 16 ]) b.extent in
      let now = law c h ws heap (live-if h (at + length bs) (live_of c.bytes).extents room) (count ∙ sym len) in
      let d : WindowState = with_payload c h ws in
      let w : ChangesBytes current c d h n = subst (λ k. ChangesBytes current c d h k) count now.0 in
      let size : length d.bytes ≡ length c.bytes = w.live.size ∙ sym heap.size in
      let s : part d.bytes h n ≡ patched (part c.bytes h n) at bs =
      sym (read-part d.bytes h n (omega (arith, inside, size))) ∙ subst (λ k. W.read (bytes_of d.bytes) h k ≡ ws) count
      now.1 ∙ e ∙ ap (λ (l : List ℕ). patched l at bs) is in
      let within : at + length bs ≤ n = omega arith in
      (narrowed c d h at n bs inside size within w s, written-there c d h at n bs inside size within w s)
