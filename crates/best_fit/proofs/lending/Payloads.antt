-- A block's payload is lent for writing: any write keeps the heap.
use Rattle.best_fit.proofs.Common.{◌≡◌, refl, sym, ap, subst, ◌∙◌, ℕ, ◌+◌, ◌-◌, ◌≤◌, List, length, arith, IsTrue, Some}
use Rattle.best_fit.proofs.Common.{None, length_refill, refill, WindowState, HasBytesAt, SameBytesExcept, bytes_of}
use Rattle.best_fit.proofs.Common.{part, patched, with_bytes, length-part, length-patched, patched-HasBytesAt}
use Rattle.best_fit.proofs.Common.{patched-SameBytesExcept, refill-all, with_bytes-SameSurroundings, current, HasTileAt}
use Rattle.best_fit.proofs.Common.{ChangesBytes, Extent, IsHeap, extent_at, is_live_in, live_of, option_map, same_Some}
use Rattle.best_fit.specs.Heap.{LoansWriteOneBlock, payload_len, with_payload}
use Rattle.best_fit.proofs.tags.Writes.{Block, Room, block_tile, live_block, payload_changed}

-- a live block of the window that a heap is seen as
pub record LiveAt (c : WindowState) (h : ℕ) : Type 0 where
  pub block : Block c h
  pub low : 144 ≤ h
  pub tile : HasTileAt c (h - 16)
  pub inside : h + (block.tile.len - 16) ≤ length c.bytes
  pub long : 32 ≤ block.tile.len

-- a block in use: it stands in the window
pub live_at : (v c : WindowState) (h : ℕ) → v ≡ c → IsHeap current c.bytes
    → IsTrue (is_live_in (live_of v.bytes) h) → LiveAt c h
live_at v c h e heap live =
    let b = live_block c h heap (subst (λ (u : WindowState). IsTrue (is_live_in (live_of u.bytes) h)) e live) in
    let o = b.at in let low = b.low in let long = b.long in let ends = b.inside in
    record {
      block = b;
      low = omega arith;
      tile = block_tile c h (h - 16) b (omega arith);
      inside = omega arith;
      long = long;
    }

-- the tag of a block in use lies 16 bytes before its handle, also as an equal window has the block
pub live_tag : (v c d : WindowState) (h : ℕ) → v ≡ c → d ≡ c → IsHeap current c.bytes
    → IsTrue (is_live_in (live_of v.bytes) h)
    → (h - 16 + 16 ≡ h) × IsTrue (is_live_in (live_of d.bytes) (h - 16 + 16))
live_tag v c d h e f heap live =
    let low = (live_at v c h e heap live).low in
    let same : h - 16 + 16 ≡ h = omega arith in (
      same,
      subst (λ (u : WindowState). IsTrue (is_live_in (live_of u.bytes) (h - 16 + 16))) (e ∙ sym f)
          (subst (λ k. IsTrue (is_live_in (live_of v.bytes) k)) (sym same) live),
    )

-- such a block, with n bytes of payload
pub record ReadAt (c : WindowState) (h n : ℕ) : Type 0 where
  pub block : Block c h
  pub payload : n ≡ block.tile.len - 16
  pub inside : h + n ≤ length c.bytes

-- a block in use with the length of its payload
pub read_at : (v c : WindowState) (h : ℕ) → v ≡ c → IsHeap current c.bytes → IsTrue (is_live_in (live_of v.bytes) h)
    → (n : ℕ) → option_map (λ (x : Extent). x.len - 16) (extent_at (live_of v.bytes) h) ≡ Some n → ReadAt c h n
read_at v c h e heap live n is =
    let s = live_at v c h e heap live in let inside = s.inside in
    let len = same_Some n (s.block.tile.len - 16) (sym is
    ∙ ap (λ (u : WindowState). option_map (λ (x : Extent). x.len - 16) (extent_at (live_of u.bytes) h)) e
    ∙ ap (option_map (λ (x : Extent). x.len - 16)) s.block.extent) in
    record { block = s.block; payload = len; inside = omega arith }

-- bytes written in a payload change that block alone
pub payload_written : (c : WindowState) (h n : ℕ) (ws : List ℕ) → IsHeap current c.bytes → (b : Block c h)
    → n ≡ b.tile.len - 16
    → ChangesBytes current c (with_bytes c (patched c.bytes h (refill n (part c.bytes h n) ws))) h n
payload_written c h n ws heap b e =
    let o = b.at in let long = b.long in let ends = b.inside in
    let us = refill n (part c.bytes h n) ws in
    let len : length us ≡ n =
    sym (length_refill n (part c.bytes h n) ws (sym (length-part c.bytes h n (omega arith)))) in
    let inside : h + length us ≤ length c.bytes = omega arith in
    let room : Room c h n = record { block = b; enough = omega arith } in
    payload_changed c (with_bytes c (patched c.bytes h us)) h n h n heap
    (with_bytes-SameSurroundings c (patched c.bytes h us)) (length-patched c.bytes h us inside) room
    (omega arith) (omega arith)
    (subst (λ (k : ℕ). SameBytesExcept (bytes_of c.bytes) (bytes_of (patched c.bytes h us)) h k) len
    (patched-SameBytesExcept c.bytes h us inside))

pub payload_len-tile : (c : WindowState) (h : ℕ) → (b : Block c h) → payload_len (live_of c.bytes) h ≡ b.tile.len - 16
payload_len-tile c h b = ap (λ o. elim o as (λ _. ℕ) [ None ↦ 0 | Some x ↦ x.len - 16 ]) b.extent

-- a payload that was lent is the window with the bytes written
pub with_payload-lent : (v c : WindowState) (h n : ℕ) (ws : List ℕ) → v ≡ c → (b : Block c h) → n ≡ b.tile.len - 16
    → with_bytes c (patched c.bytes h (refill n (part c.bytes h n) ws)) ≡ with_payload v h ws
unfolding with_payload
with_payload-lent v c h n ws e b len =
    ap (λ k. with_bytes c (patched c.bytes h (refill k (part c.bytes h k) ws))) (len ∙ sym (payload_len-tile c h b))
    ∙ ap (λ (u : WindowState). with_payload u h ws) (sym e)

-- law: a payload that is lent changes one block
pub loans_write_one_block : LoansWriteOneBlock
loans_write_one_block c h ws heap live size =
    let b = live_block c h heap live in
    let len = payload_len-tile c h b in
    let n : length ws ≡ b.tile.len - 16 = size ∙ len in
    let o = b.at in let long = b.long in let ends = b.inside in
    let inside : h + length ws ≤ length c.bytes = omega arith in
    let is : with_bytes c (patched c.bytes h ws) ≡ with_payload c h ws =
    ap (λ (us : List ℕ). with_bytes c (patched c.bytes h us))
    (sym (refill-all (length ws) (part c.bytes h (length ws)) ws refl))
    ∙ with_payload-lent c c h (length ws) ws refl b n in
    let P : WindowState → Type 0 = λ (d : WindowState). ChangesBytes current c d h (length ws)
    × HasBytesAt (bytes_of d.bytes) h ws in
    subst P is (
      subst (λ (us : List ℕ). ChangesBytes current c (with_bytes c (patched c.bytes h us)) h (length ws))
          (refill-all (length ws) (part c.bytes h (length ws)) ws refl) (payload_written c h (length ws) ws heap b n),
      patched-HasBytesAt c.bytes h ws inside,
    )
