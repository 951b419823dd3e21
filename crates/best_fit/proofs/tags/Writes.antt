-- Bytes of the header or of a payload that change, and the block that a handle names.
use Rattle.best_fit.proofs.Common.{◌≡◌, refl, sym, ap, subst, ◌∙◌, ℕ, ◌+◌, ◌-◌, ◌%◌, ◌^◌, ◌<◌, ◌≤◌, ◌⊎◌, inl, inr, Bool}
use Rattle.best_fit.proofs.Common.{true, ◌&&◌, List, [], ◌∷◌, ◌++◌, length, arith, ◌==◌, IsTrue, ◌≢◌, Option, Some}
use Rattle.best_fit.proofs.Common.{None, find, option_map, list_any, false≢true, and_parts, or_cases, cases_lt}
use Rattle.best_fit.proofs.Common.{eqb-true, leb-true, eq-eqb, ne_eqb, cond-true, cond-false, same_Some, none-some}
use Rattle.best_fit.proofs.Common.{WindowState, HasBytesAt, SameBytesExcept, SameSurroundings, bytes_of, part, patched}
use Rattle.best_fit.proofs.Common.{word_at, with_bytes, length-patched, patched-HasBytesAt, patched-SameBytesExcept}
use Rattle.best_fit.proofs.Common.{with_bytes-SameSurroundings, word_written-SameBytesExcept, Role, Object, Index}
use Rattle.best_fit.proofs.Common.{Storage, Node, Tile, current, tile_in, EncodesTiles, HasTileAt, header_may_change}
use Rattle.best_fit.proofs.Common.{one_tile_at_an_offset, payload_may_change, tiles_are_read_off, Extent, Gap, LiveSet}
use Rattle.best_fit.proofs.Common.{gaps, handle, holds, ChangesBytes, IsHeap, EncodesLiveSet, extent_at, has_room}
use Rattle.best_fit.proofs.Common.{is_live_in, is_node_in, live_of, payload_at, is_in, link_at, SameBytesExcept-link}
use Rattle.best_fit.proofs.Common.{IsFreeTree, cells_of, payloads, tiles_in}
use Rattle.raw_region.specs.Memory.{word_bytes}
use Rattle.raw_region.proofs.Laws.{length-word_written, word-own}
use Rattle.best_fit.specs.Heap.{is_node_role}
use Rattle.best_fit.proofs.tags.RowParts.{row_reaches, row_front, row_back, row_end}
use Rattle.best_fit.proofs.tags.TagsAndLiveSet.{SaysHeap, heap-gaps, heap-says, says-EncodesLiveSet, says-live}
use Rattle.best_fit.proofs.tags.TagsAndLiveSet.{said_row, live_in, legal_size}
use Rattle.best_fit.proofs.tags.OneLiveSet.{lay_out_one}
use Rattle.best_fit.proofs.gaps.Nodes.{Disjoint, NodeAt, in_around, node_from, row_disjoint}
use Rattle.best_fit.proofs.gaps.Order.{gap_tree_stays}
use Rattle.best_fit.proofs.gaps.Setters.{beside_cell}
use Rattle.best_fit.proofs.tags.TileJoins.{row_before}
use Rattle.best_fit.proofs.tags.UnchangedTags.{In}
use Rattle.best_fit.proofs.tags.TileRows.{Row, unused, used, use_cases, extents_of, extent_of, extents_of-free}
use Rattle.best_fit.proofs.tags.TileRows.{extents_of-used}

-- ---- a block that passes a test

-- a tile in use whose extent passes a test is in a list
pub record Passing (test : Extent → Bool) (ts : List Tile) : Type 0 where
  pub front : List Tile
  pub tile : Tile
  pub back : List Tile
  pub role : Role
  pub list : ts ≡ front ++ (tile ∷ back)
  pub in_use : tile.use_of ≡ Some role
  pub passes : IsTrue (test (extent_of tile role))

passing_behind : (test : Extent → Bool) (t : Tile) (ts : List Tile) → Passing test ts → Passing test (t ∷ ts)
passing_behind test t ts p =
    record {
      front = t ∷ p.front;
      tile = p.tile;
      back = p.back;
      role = p.role;
      list = ap (λ (us : List Tile). t ∷ us) p.list;
      in_use = p.in_use;
      passes = p.passes;
    }

passing_used : (test : Extent → Bool) (t : Tile) (ts : List Tile) (role : Role) → t.use_of ≡ Some role
    → (IsTrue (list_any test (extents_of ts)) → Passing test ts)
    → (test (extent_of t role) ≡ true) ⊎ (list_any test (extents_of ts) ≡ true) → Passing test (t ∷ ts)
passing_used test t ts role e rest (inl h) = record {
  front = [];
  tile = t;
  back = ts;
  role = role;
  list = refl;
  in_use = e;
  passes = h;
}
passing_used test t ts role e rest (inr h) = passing_behind test t ts (rest h)

-- if an extent among tiles passes a test, a tile does
pub passing : (test : Extent → Bool) (ts : List Tile) → IsTrue (list_any test (extents_of ts)) → Passing test ts
passing test [] h = absurd (false≢true h)
passing test (t ∷ ts) h =
    elim (use_cases t) [
      | unused e ↦ passing_behind test t ts
          (passing test ts (subst (λ (xs : List Extent). IsTrue (list_any test xs)) (extents_of-free t ts e) h))
      | used role e ↦ passing_used test t ts role e (passing test ts)
          (or_cases (test (extent_of t role)) (list_any test (extents_of ts))
          (subst (λ (xs : List Extent). IsTrue (list_any test xs)) (extents_of-used t ts role e) h))
    ]

-- the first extent of a handle
abbrev pub first_of : ℕ → List Extent → Option Extent
first_of h xs = find (λ (x : Extent). handle x == h) xs

first_of-here : (h : ℕ) (x : Extent) (xs : List Extent) → handle x ≡ h → first_of h (x ∷ xs) ≡ Some x
first_of-here h x xs e = cond-true (handle x == h) (Some x) (first_of h xs) (eq-eqb (handle x) h e)

first_of-past : (h : ℕ) (x : Extent) (xs : List Extent) → (handle x ≡ h → ⊥) → first_of h (x ∷ xs) ≡ first_of h xs
first_of-past h x xs n = cond-false (handle x == h) (Some x) (first_of h xs) (ne_eqb (handle x) h n)

-- the first extent of the handle of a tile in use is this tile's
pub found_extent : (at : ℕ) (front : List Tile) (t : Tile) (back : List Tile) (end : ℕ) (role : Role) (h : ℕ)
    → Row at (front ++ (t ∷ back)) end → t.use_of ≡ Some role
    → t.offset + 16 ≡ h → first_of h (extents_of (front ++ (t ∷ back))) ≡ Some (extent_of t role)
found_extent at [] t back end role h r e same = ap (first_of h) (extents_of-used t back role e)
    ∙ first_of-here h (extent_of t role) (extents_of back) same
found_extent at (u ∷ front) t back end role h r e same =
    let rest = found_extent (at + u.len) front t back end role h r.3 e same in
    let ends = row_before at u front t back end r in let long = r.1 in
    elim (use_cases u) [
      | unused f ↦ ap (first_of h) (extents_of-free u (front ++ (t ∷ back)) f) ∙ rest
      | used q f ↦ ap (first_of h) (extents_of-used u (front ++ (t ∷ back)) q f)
          ∙ first_of-past h (extent_of u q) (extents_of (front ++ (t ∷ back))) (λ g. omega arith) ∙ rest
    ]

-- a block in use of a heap, with so much room
pub record Block (c : WindowState) (h : ℕ) : Type 0 where
  pub front : List Tile
  pub tile : Tile
  pub back : List Tile
  pub role : Role
  pub said : EncodesTiles c (front ++ (tile ∷ back))
  pub list : tiles_in c ≡ front ++ (tile ∷ back)
  pub in_use : tile.use_of ≡ Some role
  pub at : tile.offset + 16 ≡ h
  pub low : 128 ≤ tile.offset
  pub long : 32 ≤ tile.len
  pub whole : tile.len % 16 ≡ 0
  pub inside : tile.offset + tile.len + 16 ≤ length c.bytes
  pub size : length c.bytes ≤ 1073741824
  pub stands : tile_in (front ++ (tile ∷ back)) tile.offset ≡ Some tile
  pub extent : first_of h (live_of c.bytes).extents ≡ Some (extent_of tile role)

block_from : (c : WindowState) (h : ℕ) (test : Extent → Bool) → IsHeap current c.bytes → (p : Passing test (tiles_in c))
    → p.tile.offset + 16 ≡ h → Block c h
unfolding live_of
block_from c h test heap p at =
    let s = heap-says c heap in
    let said : EncodesTiles c (p.front ++ (p.tile ∷ p.back)) = subst (EncodesTiles c) p.list s.said in
    let row = said_row c (p.front ++ (p.tile ∷ p.back)) said in
    let back = row_back 128 p.front (p.tile ∷ p.back) (length c.bytes - 16) row in
    let low = row_reaches 128 p.front (row_end 128 p.front)
    (row_front 128 p.front (p.tile ∷ p.back) (length c.bytes - 16) row) in
    let o = back.0 in let long = back.1 in
    let reaches = row_reaches (row_end 128 p.front + p.tile.len) p.back (length c.bytes - 16) back.3 in
    let n = legal_size (length c.bytes) s.said.size in
    let least = n.low in
    record {
      front = p.front;
      tile = p.tile;
      back = p.back;
      role = p.role;
      said = said;
      list = p.list;
      in_use = p.in_use;
      at = at;
      low = omega arith;
      long = long;
      whole = back.2;
      inside = omega arith;
      size = n.high;
      stands = one_tile_at_an_offset c p.front p.tile p.back said;
      extent = ap (λ (ts : List Tile). first_of h (extents_of ts)) p.list ∙ found_extent 128 p.front p.tile p.back
          (length c.bytes - 16) p.role h row p.in_use at;
    }

-- a live handle names one
pub live_block : (c : WindowState) (h : ℕ) → IsHeap current c.bytes → IsTrue (is_live_in (live_of c.bytes) h)
    → Block c h
unfolding live_of
live_block c h heap live =
    let p = passing (λ (x : Extent). handle x == h) (tiles_in c) live in
    block_from c h (λ (x : Extent). handle x == h) heap p (eqb-true (handle (extent_of p.tile p.role)) h p.passes)

-- this many bytes lie in the payload of a block
pub record Room (c : WindowState) (h n : ℕ) : Type 0 where
  pub block : Block c h
  pub enough : n + 16 ≤ block.tile.len

-- a block with room, by the live set, is in the window
pub room_block : (c : WindowState) (h n : ℕ) → IsHeap current c.bytes → IsTrue (has_room (live_of c.bytes) h n)
    → Room c h n
unfolding live_of block_from passing
room_block c h n heap has =
    let test : Extent → Bool = λ (x : Extent). (handle x == h) && holds x n in
    let p = passing test (tiles_in c) has in
    let two = and_parts (handle (extent_of p.tile p.role) == h) (holds (extent_of p.tile p.role) n) p.passes in
    record {
      block = block_from c h test heap p (eqb-true (handle (extent_of p.tile p.role)) h two.0);
      enough = leb-true (n + 16) p.tile.len two.1;
    }

-- a node block
pub record NodeBlock (c : WindowState) (h : ℕ) : Type 0 where
  pub block : Block c h
  pub node : block.role ≡ Node

node_role : (r : Role) → IsTrue (is_node_role r) → r ≡ Node
node_role Object e = absurd (false≢true e)
node_role Index e = absurd (false≢true e)
node_role Storage e = absurd (false≢true e)
node_role Node e = refl

-- a node block, by the live set, is in the window
pub node_block : (c : WindowState) (h : ℕ) → IsHeap current c.bytes → IsTrue (is_node_in (live_of c.bytes) h)
    → NodeBlock c h
unfolding live_of block_from passing
node_block c h heap is =
    let test : Extent → Bool = λ (x : Extent). (handle x == h) && is_node_role x.role in
    let p = passing test (tiles_in c) is in
    let two = and_parts (handle (extent_of p.tile p.role) == h)
    (is_node_role (extent_of p.tile p.role).role) p.passes in
    record {
      block = block_from c h test heap p (eqb-true (handle (extent_of p.tile p.role)) h two.0);
      node = node_role p.role two.1;
    }

-- the tile of a block begins 16 bytes before its handle
pub block_tile : (c : WindowState) (h at : ℕ) → (b : Block c h) → at + 16 ≡ h → HasTileAt c at
block_tile c h at b e =
    let o = b.at in let same : b.tile.offset ≡ at = omega arith in
    record {
      tiles = b.front ++ (b.tile ∷ b.back);
      said = b.said;
      tile = b.tile;
      stands = subst (λ k. tile_in (b.front ++ (b.tile ∷ b.back)) k ≡ Some b.tile) same b.stands;
    }

-- ---- bytes that change

-- the free tree stays where the fields of the gaps and word 24 do
pub free_stays : (c d : WindowState) → IsHeap current c.bytes
    → link_at (bytes_of d.bytes) 24 ≡ link_at (bytes_of c.bytes) 24
    → ((m : ℕ) → NodeAt c m → cells_of (bytes_of d.bytes) m ≡ cells_of (bytes_of c.bytes) m)
    → IsFreeTree current (bytes_of d.bytes) (live_of c.bytes)
unfolding current
free_stays c d heap root cells =
    let s = heap-says c heap in
    gap_tree_stays (bytes_of c.bytes) (bytes_of d.bytes) (gaps (live_of c.bytes)) root (λ m i. cells m
    (node_from c m s.said s.apart (ap (λ (gs : List Gap). is_in m (payloads gs)) (sym (heap-gaps c heap)) ∙ i)))
    heap.free

-- the live set stays where the tags and the free tree do
pub same_live : (c d : WindowState) → IsHeap current c.bytes → EncodesTiles d (tiles_in c)
    → length d.bytes ≡ length c.bytes
    → IsFreeTree current (bytes_of d.bytes) (live_of c.bytes) → EncodesLiveSet current d.bytes (live_of c.bytes)
same_live c d heap said size free =
    let s = heap-says c heap in
    let t : SaysHeap d (tiles_in c) = record { said = said; apart = s.apart } in
    let e : live_in (length d.bytes) (tiles_in c) ≡ live_of c.bytes = ap (λ n. live_in n (tiles_in c)) size
    ∙ sym (says-live c (tiles_in c) s) in
    subst (EncodesLiveSet current d.bytes) e
    (says-EncodesLiveSet d (tiles_in c) t
    (subst (λ (l : LiveSet). IsFreeTree current (bytes_of d.bytes) l) (sym e) free))

-- a header word can change
pub header_changed : (c d : WindowState) (at : ℕ) → IsHeap current c.bytes → SameSurroundings c d
    → length d.bytes ≡ length c.bytes
    → at % 8 ≡ 0 → at < 128 → at ≢ 24
    → SameBytesExcept (bytes_of c.bytes) (bytes_of d.bytes) at 8 → ChangesBytes current c d at 8
header_changed c d at heap place size whole below other same =
    let s = heap-says c heap in
    record {
      place = place;
      live = same_live c d heap (header_may_change c d (tiles_in c) s.said size at 8 (omega arith) same) size
          (free_stays c d heap (SameBytesExcept-link (bytes_of c.bytes) (bytes_of d.bytes) at 8 24 same
          (beside_word at whole other))
          (λ m n. let low = n.low in beside_cell (bytes_of c.bytes) (bytes_of d.bytes) at 8 m same
          low (inr (omega arith))));
      rest = same;
    }
  where
    beside_word : (k : ℕ) → k % 8 ≡ 0 → (k ≡ 24 → ⊥) → (24 + 8 ≤ k) ⊎ (k + 8 ≤ 24)
    beside_word k e n = elim (cases_lt k 24) [ inl l ↦ inr (omega arith) | inr l ↦ inl (omega arith) ]

-- a gap shares no byte with a block
apart_from : (c : WindowState) (h m : ℕ) → (b : Block c h) → NodeAt c m → (m + 16 ≤ b.tile.offset + 16)
    ⊎ (b.tile.offset + b.tile.len + 16 ≤ m)
apart_from c h m b n =
    let i : In b.tile (tiles_in c) = subst (λ (ts : List Tile). In b.tile ts) (sym b.list)
    (in_around b.front b.tile b.back) in
    by_case (row_disjoint 128 (tiles_in c) (length c.bytes - 16) n.free_tile.tile b.tile n.row n.is_in_list i)
  where
    by_case : Disjoint n.free_tile.tile b.tile → (m + 16 ≤ b.tile.offset + 16) ⊎ (b.tile.offset + b.tile.len + 16 ≤ m)
    by_case (inl e) =
        let clash : None ≡ Some b.role = sym n.free_tile.free ∙ ap (λ (t : Tile). t.use_of) e ∙ b.in_use in
        absurd (none-some b.role clash)
    by_case (inr (inl l)) = let at = n.free_tile.at in let long = n.long in inl (omega arith)
    by_case (inr (inr l)) = let at = n.free_tile.at in inr (omega arith)

-- bytes of a payload can change
pub payload_changed : (c d : WindowState) (h k from n : ℕ) → IsHeap current c.bytes → SameSurroundings c d
    → length d.bytes ≡ length c.bytes → Room c h k → h ≤ from → from + n ≤ h + k
    → SameBytesExcept (bytes_of c.bytes) (bytes_of d.bytes) from n → ChangesBytes current c d from n
payload_changed c d h k from n heap place size room begins ends same =
    let b = room.block in let enough = room.enough in let at = b.at in let low = b.low in
    let said = payload_may_change c d (b.front ++ (b.tile ∷ b.back)) b.tile.offset b.tile b.said b.stands size from n
    (omega arith) (omega arith) same in
    record {
      place = place;
      live = same_live c d heap (subst (EncodesTiles d) (sym b.list) said) size
          (free_stays c d heap (SameBytesExcept-link (bytes_of c.bytes) (bytes_of d.bytes) from n 24 same
          (inl (omega arith)))
          (λ m g. let least = g.low in beside_cell (bytes_of c.bytes) (bytes_of d.bytes) from n m same least
          (by_case m (apart_from c h m b g))));
      rest = same;
    }
  where
    by_case : (m : ℕ) → (m + 16 ≤ room.block.tile.offset + 16)
        ⊎ (room.block.tile.offset + room.block.tile.len + 16 ≤ m) → (m + 16 ≤ from) ⊎ (from + n ≤ m - 8)
    by_case m (inl l) = let at = room.block.at in inl (omega arith)
    by_case m (inr l) = let at = room.block.at in let enough = room.enough in inr (omega arith)

-- bytes that encode a live set are a heap
pub laid-heap : (b : List ℕ) (live : LiveSet) → EncodesLiveSet current b live → IsHeap current b
laid-heap b live l = subst (EncodesLiveSet current b) (sym (lay_out_one current b live l)) l

-- the tile that is read at a block's beginning is its tile
pub read_block : (c : WindowState) (h at : ℕ) → (b : Block c h) → at + 16 ≡ h → (t : Tile)
    → ((ts : List Tile) → EncodesTiles c ts → tile_in ts at ≡ Some t) → t ≡ b.tile
read_block c h at b e t is =
    let o = b.at in let same : at ≡ b.tile.offset = omega arith in
    same_Some t b.tile (sym (is (b.front ++ (b.tile ∷ b.back)) b.said)
    ∙ ap (λ k. tile_in (b.front ++ (b.tile ∷ b.back)) k) same ∙ b.stands)

-- ---- the effect of the writers of a window

-- a word in a block
pub word_changed : (c d : WindowState) (h at x : ℕ) → IsHeap current c.bytes → Room c h (at + 8)
    → d ≡ with_bytes c (patched c.bytes (h + at) (word_bytes x)) → ChangesBytes current c d (h + at) 8
word_changed c d h at x heap room e =
    let b = room.block in let enough = room.enough in let o = b.at in let ends = b.inside in
    let inside : h + at + 8 ≤ length c.bytes = omega arith in
    let P : WindowState → Type 0 = λ (v : WindowState). ChangesBytes current c v (h + at) 8 in
    subst P (sym e) (payload_changed c (with_bytes c (patched c.bytes (h + at) (word_bytes x))) h (at + 8) (h + at) 8
    heap (with_bytes-SameSurroundings c (patched c.bytes (h + at) (word_bytes x)))
    (length-word_written c.bytes (h + at) x inside) room (omega arith) (omega arith)
    (word_written-SameBytesExcept c.bytes (h + at) x inside))

-- is read back
pub word_read : (c d : WindowState) (at x : ℕ) → at + 8 ≤ length c.bytes → x < 2 ^ 64
    → d ≡ with_bytes c (patched c.bytes at (word_bytes x)) → word_at (bytes_of d.bytes) at ≡ x
word_read c d at x inside small e = ap (λ (v : WindowState). word_at (bytes_of v.bytes) at) e
    ∙ word-own c.bytes at x inside small

-- bytes in a block
pub bytes_changed : (c d : WindowState) (h at : ℕ) (ws : List ℕ) → IsHeap current c.bytes → Room c h (at + length ws)
    → d ≡ with_bytes c (patched c.bytes (h + at) ws) → ChangesBytes current c d (h + at) (length ws)
bytes_changed c d h at ws heap room e =
    let b = room.block in let enough = room.enough in let o = b.at in let ends = b.inside in
    let inside : h + at + length ws ≤ length c.bytes = omega arith in
    let P : WindowState → Type 0 = λ (v : WindowState). ChangesBytes current c v (h + at) (length ws) in
    subst P (sym e) (payload_changed c (with_bytes c (patched c.bytes (h + at) ws)) h (at + length ws) (h + at)
    (length ws) heap (with_bytes-SameSurroundings c (patched c.bytes (h + at) ws))
    (length-patched c.bytes (h + at) ws inside) room (omega arith) (omega arith)
    (patched-SameBytesExcept c.bytes (h + at) ws inside))

-- the bytes that were written are there
pub bytes_read : (c d : WindowState) (at : ℕ) (ws : List ℕ) → at + length ws ≤ length c.bytes
    → d ≡ with_bytes c (patched c.bytes at ws) → HasBytesAt (bytes_of d.bytes) at ws
bytes_read c d at ws inside e = let P : WindowState → Type 0 =
    λ (v : WindowState). HasBytesAt (bytes_of v.bytes) at ws in
    subst P (sym e) (patched-HasBytesAt c.bytes at ws inside)

-- a heap's window is long enough for a header
pub header_inside : (c : WindowState) → IsHeap current c.bytes → 144 ≤ length c.bytes
header_inside c heap = (legal_size (length c.bytes) (heap-says c heap).said.size).low

-- a header word
pub header_word_changed : (c d : WindowState) (at x : ℕ) → IsHeap current c.bytes → at % 8 ≡ 0 → at < 128 → at ≢ 24
    → d ≡ with_bytes c (patched c.bytes at (word_bytes x)) → ChangesBytes current c d at 8
header_word_changed c d at x heap whole below other e =
    let size = header_inside c heap in
    let inside : at + 8 ≤ length c.bytes = omega arith in
    let P : WindowState → Type 0 = λ (v : WindowState). ChangesBytes current c v at 8 in
    subst P (sym e) (header_changed c (with_bytes c (patched c.bytes at (word_bytes x))) at heap
    (with_bytes-SameSurroundings c (patched c.bytes at (word_bytes x)))
    (length-word_written c.bytes at x inside) whole below other (word_written-SameBytesExcept c.bytes at x inside))

-- its length is the tile's
pub block_len : (c : WindowState) (h at : ℕ) → (b : Block c h) → at + 16 ≡ h → (t : Tile)
    → ((ts : List Tile) → EncodesTiles c ts → tile_in ts at ≡ Some t) → t.len ≡ b.tile.len
block_len c h at b e t is = ap (λ (u : Tile). u.len) (read_block c h at b e t is)

-- a tile at an offset is the one there in each list of the tags
pub tile_in_list : (c : WindowState) (at : ℕ) → (h : HasTileAt c at) → (ts : List Tile) → EncodesTiles c ts
    → tile_in ts at ≡ Some h.tile
tile_in_list c at h ts said =
    ap (λ (us : List Tile). tile_in us at) (sym (tiles_are_read_off c ts said)
    ∙ tiles_are_read_off c h.tiles h.said) ∙ h.stands

-- the role of a block, and the bytes after its tag
pub block_role : (c : WindowState) (h : ℕ) → (b : Block c h)
    → option_map (λ (x : Extent). x.role) (extent_at (live_of c.bytes) h) ≡ Some b.role
block_role c h b = ap (option_map (λ (x : Extent). x.role)) b.extent

payload_in : (c : WindowState) (h : ℕ) → Option Extent → List ℕ
payload_in c h o = elim o [ None ↦ [] | Some x ↦ part c.bytes h (x.len - 16) ]

-- the payload of a block, by the live set
pub block_payload : (c : WindowState) (h : ℕ) → (b : Block c h) → payload_at c.bytes (live_of c.bytes) h
    ≡ part c.bytes h (b.tile.len - 16)
unfolding payload_in
block_payload c h b = ap (payload_in c h) b.extent
