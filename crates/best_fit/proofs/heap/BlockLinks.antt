-- Links in a block, which begins at a multiple of 16.
use Rattle.best_fit.proofs.Common.{◌≡◌, sym, ap, subst, ◌∙◌, ℕ, ◌+◌, ◌-◌, ◌*◌, ◌%◌, ◌≤◌, ◌∷◌, ◌++◌, length, arith}
use Rattle.best_fit.proofs.Common.{IsTrue, WindowState, SameBytesExcept, SameSurroundings, bytes_of, part, patched}
use Rattle.best_fit.proofs.Common.{read, with_bytes}
use Rattle.best_fit.proofs.Common.{length-part, read-part, current, relinked, ChangesBytes, IsHeap, has_room, live_of}
use Rattle.offset_link.proofs.Laws.{length-relinked}
use Rattle.best_fit.proofs.gaps.Nodes.{in_around, row_aligned}
use Rattle.best_fit.proofs.tags.TagsAndLiveSet.{said_row}
use Rattle.best_fit.proofs.tags.Writes.{Block, Room, bytes_changed, bytes_read, payload_changed, room_block}

-- a block begins at a multiple of 16
pub block_aligned : (c : WindowState) (h : ℕ) → (b : Block c h) → h % 16 ≡ 0
block_aligned c h b =
    let row = said_row c (b.front ++ (b.tile ∷ b.back)) b.said in
    let a = row_aligned 128 (b.front ++ (b.tile ∷ b.back)) (length c.bytes - 16) b.tile (omega arith) row
    (in_around b.front b.tile b.back) in
    let o = b.at in omega arith

-- n bytes from an offset on in a block
pub record Spot (c : WindowState) (h at n : ℕ) : Type 0 where
  pub room : Room c h (at + n)
  pub aligned : h % 16 ≡ 0
  pub low : 144 ≤ h
  pub inside : h + at + n ≤ length c.bytes
  pub size : length c.bytes ≤ 1073741824

-- n bytes in a block, of a window that is equal to the heap's
pub spot : (v c : WindowState) (h at n : ℕ) → v ≡ c → IsHeap current c.bytes
    → IsTrue (has_room (live_of v.bytes) h (at + n))
    → Spot c h at n
spot v c h at n e heap has =
    let mine : IsTrue (has_room (live_of c.bytes) h (at + n)) =
    subst (λ (u : WindowState). IsTrue (has_room (live_of u.bytes) h (at + n))) e has in
    let room = room_block c h (at + n) heap mine in
    let b = room.block in let enough = room.enough in let o = b.at in let ends = b.inside in let low = b.low in
    record { room = room; aligned = block_aligned c h b; low = omega arith; inside = omega arith; size = b.size }

-- a write of one link changes only its bytes
pub link_changed : (c d : WindowState) (h at : ℕ) → IsHeap current c.bytes → Spot c h at 8 → SameSurroundings c d
    → length d.bytes ≡ length c.bytes
    → SameBytesExcept (bytes_of c.bytes) (bytes_of d.bytes) (h + at) 8 → ChangesBytes current c d (h + at) 8
link_changed c d h at heap s place size same = payload_changed c d h (at + 8) (h + at) 8 heap place size s.room
    (omega arith) (omega arith) same

-- a copy of n links changes only their bytes
pub links_changed : (c d : WindowState) (h at source n moved : ℕ) → IsHeap current c.bytes
    → Spot c h at (8 * n) → moved ≡ h + at
    → d ≡ with_bytes c (patched c.bytes moved (relinked (bytes_of c.bytes) source moved n))
    → ChangesBytes current c d (h + at) (8 * n)
links_changed c d h at source n moved heap s e w =
    let ws = relinked (bytes_of c.bytes) source moved n in
    let long = length-relinked (bytes_of c.bytes) source moved n in
    let room : Room c h (at + length ws) = subst (λ k. Room c h (at + k)) (sym long) s.room in
    let w2 : d ≡ with_bytes c (patched c.bytes (h + at) ws) =
    subst (λ k. d ≡ with_bytes c (patched c.bytes k ws)) e w in
    subst (λ k. ChangesBytes current c d (h + at) k) long (bytes_changed c d h at ws heap room w2)

-- a copy of n bytes changes only these bytes
pub bytes_copied : (c d : WindowState) (from h at n : ℕ) → IsHeap current c.bytes → Spot c h at n
    → from + n ≤ length c.bytes
    → d ≡ with_bytes c (patched c.bytes (h + at) (part c.bytes from n))
    → ChangesBytes current c d (h + at) n × (read (bytes_of d.bytes) (h + at) n ≡ read (bytes_of c.bytes) from n)
bytes_copied c d from h at n heap s inside w =
    let ws = part c.bytes from n in
    let long : length ws ≡ n = length-part c.bytes from n inside in
    let room : Room c h (at + length ws) = subst (λ k. Room c h (at + k)) (sym long) s.room in
    let fits = s.inside in (
      subst (λ k. ChangesBytes current c d (h + at) k) long (bytes_changed c d h at ws heap room w),
      ap (read (bytes_of d.bytes) (h + at)) (sym long) ∙ bytes_read c d (h + at) ws (omega arith) w
          ∙ sym (read-part c.bytes from n inside),
    )
