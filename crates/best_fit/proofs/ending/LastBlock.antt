-- A block is appended after all others: the window is longer, and the added bytes are a tile in use.
use Rattle.best_fit.proofs.Common.{◌≡◌, refl, sym, ap, subst, ◌∙◌, ℕ, ◌+◌, ◌-◌, ◌%◌, ◌<◌, ◌≤◌, inl, inr, false, List}
use Rattle.best_fit.proofs.Common.{[], ◌∷◌, ◌++◌, length, arith, IsTrue, ◌==◌, Some, list_any, append-nil, false≢true}
use Rattle.best_fit.proofs.Common.{eq-eqb, or_left, or_right, WindowState, SameBytes, bytes_of, whole, current, Object}
use Rattle.best_fit.proofs.Common.{Tile, is_legal_size, free_tile, used_for, with_use_at, PrefixSaysTiles, CanTakeUse}
use Rattle.best_fit.proofs.Common.{EncodesTiles, SameExceptTags, prefix_is_a_window, tiles_are_read_off, AppendsBlock}
use Rattle.best_fit.proofs.Common.{MovesEnd, KeepsTo, of_size, Extent, Gap, LiveSet, end_of, handle, proper_from}
use Rattle.best_fit.proofs.Common.{others, released, IsTreeOf, payloads, sorted_gaps, gaps_in, gaps_of, tiles_in}
use Rattle.best_fit.proofs.Common.{IsHeap, Deallocates, KeepsBlocks, EncodesLiveSet, is_live_in, live_of}
use Rattle.raw_region.specs.Memory.{cut_at}
use Rattle.block_tags.specs.Windows.{CanAppend}
use Rattle.best_fit.specs.Ends.{block_behind}
use Rattle.best_fit.proofs.allocation.LeastGap.{heap_tree}
use Rattle.best_fit.proofs.tags.RowParts.{Away, apart_joined, changed_at-around, row_away, tile_in-around}
use Rattle.best_fit.proofs.ending.TwoMemories.{Carries, carried_blocks, carried_tree, ends-then, keeps_to-then}
use Rattle.best_fit.proofs.ending.TwoMemories.{resized_ends, resized_same}
use Rattle.best_fit.proofs.extents.Changes.{is_proper-IsProper}
use Rattle.best_fit.proofs.tags.TileJoins.{extents_of-append}
use Rattle.best_fit.proofs.tags.TagsAndLiveSet.{says_of, IsLegal, SaysHeap, heap-says, legal_size, said_row, says-live}
use Rattle.best_fit.proofs.tags.OneLiveSet.{lay_out_one}
use Rattle.best_fit.proofs.allocation.GapToBlock.{lays_out}
use Rattle.best_fit.proofs.extents.Proper.{IsHole, others-here, others-past, proper_from-IsFirst}
use Rattle.best_fit.proofs.tags.TileRows.{Row, extents_of, gaps_of-append, gaps_of-used}
use Rattle.best_fit.proofs.tags.UnchangedTags.{TagStep, tag_step, In, in_front, inside, low_beside, tag_in}
use Rattle.best_fit.specs.Tiling.{AppendsFree, ChangesTags}
use Rattle.best_fit.proofs.tags.Writes.{laid-heap}

-- the size is legal where it is that of a segment and this many bytes more
longer_legal : (n extra : ℕ) → IsLegal n → 32 ≤ extra → extra % 16 ≡ 0 → n + extra ≤ 1073741824
    → IsTrue (is_legal_size (n + extra))
longer_legal n extra g long whole most =
    let low = g.low in let even = g.whole in let w : (n + extra) % 16 ≡ 0 = omega arith in
    let l : 176 ≤ n + extra = omega arith in grind arith

by_hole : (a b : ℕ) → IsHole a b → a ≤ b
by_hole a b (inl e) = omega arith
by_hole a b (inr l) = omega arith

module _ (c c1 : WindowState) (extra : ℕ) (heap : IsHeap current c.bytes) (long : 32 ≤ extra) (multiple : extra % 16
    ≡ 0)
    (small : length c.bytes + extra ≤ 1073741824)
    (fits : length c.before + (length c.bytes + extra) ≤ length (whole c))
    (e1 : c1 ≡ cut_at (whole c) (length c.before) (length c.bytes + extra)) where
  abbrev ts : List Tile
  ts = tiles_in c

  says : SaysHeap c (tiles_in c)
  says = heap-says c heap

  size_c : IsLegal (length c.bytes)
  size_c = legal_size (length c.bytes) says.said.size

  size1 : length c1.bytes ≡ length c.bytes + extra
  size1 = (resized_ends c c1 (length c.bytes + extra) e1 fits).bytes

  same1 : SameBytes (bytes_of c.bytes) (bytes_of c1.bytes) 0 (length c.bytes)
  same1 = resized_same c c1 (length c.bytes + extra) e1 fits (length c.bytes) (omega arith) (omega arith)

  front1 : PrefixSaysTiles c1 (length c.bytes) (tiles_in c)
  front1 = let s = size1 in (prefix_is_a_window c c1 (tiles_in c) (omega arith) same1).0 says.said

  -- the conditions of the tile
  pub can_append : CanAppend c1 (length c.bytes)
  can_append =
      let s = size1 in
      record {
        tiles = tiles_in c;
        said = front1;
        size = subst (λ k. IsTrue (is_legal_size k)) (sym size1)
            (longer_legal (length c.bytes) extra size_c long multiple small);
        room = omega arith;
      }

  module _ {c2 : WindowState} (add : AppendsFree c1 c2 (length c.bytes)) where
    abbrev free : Tile
    free = free_tile (length c.bytes - 16) (length c1.bytes - 16 - (length c.bytes - 16))

    said2 : EncodesTiles c2 (tiles_in c ++ free ∷ [])
    said2 = add.tags (tiles_in c) front1

    away : Away (length c.bytes - 16) (tiles_in c)
    away = row_away 128 (tiles_in c) (length c.bytes - 16) (length c.bytes - 16)
        (said_row c (tiles_in c) says.said) (omega arith)

    -- the conditions of the change of use
    pub can_use : CanTakeUse c2 (length c.bytes - 16) (Some Object)
    can_use = record {
      tiles = tiles_in c ++ free ∷ [];
      said = said2;
      tile = free;
      stands = tile_in-around (length c.bytes - 16) free [] refl (tiles_in c) away;
      colour = refl;
    }

    module _ {c3 : WindowState} (change : ChangesTags c2 c3 (with_use_at (length c.bytes - 16) (Some Object))) where
      abbrev used : Tile
      used = record {
        offset = length c.bytes - 16;
        len = length c1.bytes - 16 - (length c.bytes - 16);
        use_of = Some Object;
        red = false;
      }

      step3 : TagStep c2 c3 (tiles_in c ++ free ∷ []) (tiles_in c ++ used ∷ [])
      step3 = tag_step (tiles_in c ++ free ∷ []) (tiles_in c ++ used ∷ []) said2
          (changed_at-around (length c.bytes - 16) free [] refl (used_for (Some Object)) (tiles_in c) away) change

      beside2 : SameExceptTags c1 c2 (tiles_in c) (tiles_in c ++ free ∷ [])
      beside2 = add.frame (tiles_in c) front1

      size2 : length c2.bytes ≡ length c.bytes + extra
      size2 = beside2.size ∙ size1

      size3 : length c3.bytes ≡ length c.bytes + extra
      size3 = step3.same.size ∙ size2

      row_c : Row 128 (tiles_in c) (length c.bytes - 16)
      row_c = said_row c (tiles_in c) says.said

      -- a byte outside the tags of all three lists stays
      byte_stays : (k : ℕ) → k < length c.bytes - 16 → (t : Tile) → In t (tiles_in c) → t.offset + 16 ≤ k
          → k < t.offset + t.len → bytes_of c3.bytes k ≡ bytes_of c.bytes k
      byte_stays k l t i low high =
          let s1 = size1 in let s2 = size2 in
          let a = inside 128 t (tiles_in c) (length c.bytes - 16) k row_c i low high in
          let b = inside 128 t (tiles_in c ++ free ∷ []) (length c2.bytes - 16) k
          (said_row c2 (tiles_in c ++ free ∷ []) said2) (in_front t (tiles_in c) (free ∷ []) i) low high in
          let d = inside 128 t (tiles_in c ++ used ∷ []) (length c3.bytes - 16) k
          (said_row c3 (tiles_in c ++ used ∷ []) step3.says) (in_front t (tiles_in c) (used ∷ []) i) low high in
          step3.same.bytes k b.beside d.beside (omega arith) ∙ beside2.bytes k a.beside b.beside (omega arith)
          ∙ same1.at k (omega arith) (omega arith)

      header_stays : SameBytes (bytes_of c.bytes) (bytes_of c3.bytes) 0 128
      header_stays =
          let s1 = size1 in let s2 = size2 in let n = size_c in let least = n.low in
          record {
            at = λ k low high.
                let a = low_beside 128 (tiles_in c) (length c.bytes - 16) k row_c high in
                let b = low_beside 128 (tiles_in c ++ free ∷ []) (length c2.bytes - 16) k
                (said_row c2 (tiles_in c ++ free ∷ []) said2) high in
                let d = low_beside 128 (tiles_in c ++ used ∷ []) (length c3.bytes - 16) k
                (said_row c3 (tiles_in c ++ used ∷ []) step3.says) high in
                step3.same.bytes k b d (omega arith) ∙ beside2.bytes k a b (omega arith) ∙ same1.at k low (omega arith);
          }

      carries : Carries (bytes_of c.bytes) (bytes_of c3.bytes) (tiles_in c) (length c.bytes - 16)
      carries =
          record {
            row = row_c;
            old = λ t i. tag_in current (bytes_of c.bytes) 128 0 (tiles_in c) (length c.bytes - 16)
                t says.said.tags row_c i;
            new = λ t i. tag_in current (bytes_of c3.bytes) 128 0 (tiles_in c ++ used ∷ []) (length c3.bytes - 16) t
                step3.says.tags (said_row c3 (tiles_in c ++ used ∷ []) step3.says)
                (in_front t (tiles_in c) (used ∷ []) i);
            payload = λ t i. record {
              at = λ k low high. let a = inside 128 t (tiles_in c) (length c.bytes - 16) k row_c i low high in
                  let l = a.high in byte_stays k (omega arith) t i low high;
            };
            header = header_stays;
          }

      list_is : tiles_in c3 ≡ tiles_in c ++ used ∷ []
      list_is = tiles_are_read_off c3 (tiles_in c ++ used ∷ []) step3.says

      says3 : SaysHeap c3 (tiles_in c3)
      says3 = says_of c3 (tiles_in c ++ used ∷ []) step3.says
          (apart_joined false (tiles_in c) (used ∷ []) says.apart (λ a no. absurd (false≢true no), tt))

      -- the gaps are the same
      pub gaps3 : gaps_in c3 ≡ gaps_in c
      gaps3 =
          ap gaps_of list_is ∙ gaps_of-append (tiles_in c) (used ∷ [])
          ∙ ap (λ (gs : List Gap). gaps_of (tiles_in c) ++ gs) (gaps_of-used used [] Object refl)
          ∙ append-nil (gaps_of (tiles_in c))

      tree3 : IsTreeOf (bytes_of c3.bytes) 24 (payloads (sorted_gaps (gaps_in c3)))
      tree3 =
          subst (λ (gs : List Gap). IsTreeOf (bytes_of c3.bytes) 24 (payloads (sorted_gaps gs))) (sym gaps3)
          (carried_tree (bytes_of c.bytes) (bytes_of c3.bytes) (tiles_in c) (length c.bytes - 16) carries
          (heap_tree c heap).tree)

      extents3 : extents_of (tiles_in c3) ≡ (live_of c.bytes).extents ++ block_behind (length c.bytes) extra ∷ []
      unfolding live_of
      extents3 =
          let s1 = size1 in let n = size_c in let least = n.low in
          let len : length c1.bytes - 16 - (length c.bytes - 16) ≡ extra = omega arith in
          ap extents_of list_is ∙ extents_of-append (tiles_in c) (used ∷ [])
          ∙ (λ i. extents_of (tiles_in c) ++ record { offset = length c.bytes - 16; len = len i; role = Object } ∷ [])

      live3 : live_of c3.bytes ≡ record {
        size = length c.bytes + extra;
        extents = (live_of c.bytes).extents ++ block_behind (length c.bytes) extra ∷ [];
      }
      live3 = let e = size3 in let x = extents3 in says-live c3 (tiles_in c3) says3
          ∙ (λ i. record { size = e i; extents = x i })

      blocks3 : (unfolded : (live_of c.bytes).extents ≡ extents_of (tiles_in c))
          → KeepsTo c c3 (length c.bytes + extra) (live_of c.bytes).extents
      blocks3 e =
          record {
            place = ends-then c c2 c3 (length c.bytes + extra)
                (ends-then c c1 c2 (length c.bytes + extra) (resized_ends c c1 (length c.bytes + extra) e1 fits)
                beside2.place beside2.size) step3.same.place step3.same.size;
            front = record { at = λ k low high. header_stays.at k low (omega arith) };
            behind = record { at = λ k low high. header_stays.at k (omega arith) high };
            blocks = rw e (carried_blocks (bytes_of c.bytes) (bytes_of c3.bytes) (tiles_in c)
                (length c.bytes - 16) carries);
          }

      own_extents : (live_of c.bytes).extents ≡ extents_of (tiles_in c)
      unfolding live_of
      own_extents = refl

      pub has_block_behind : AppendsBlock current c c3 extra
      has_block_behind = record {
        live = subst (EncodesLiveSet current c3.bytes) live3 (lays_out c3 says3 tree3);
        keeps = blocks3 own_extents;
      }

-- the same lemma for a size that equals the window's
pub record LongerWindow (c : WindowState) (extra size : ℕ) (c1 : WindowState) : Type 0 where
  pub room : CanAppend c1 size
  pub used : (c2 : WindowState) → AppendsFree c1 c2 size → CanTakeUse c2 (size - 16) (Some Object)
  pub block : (c2 : WindowState) → AppendsFree c1 c2 size → (c3 : WindowState)
      → ChangesTags c2 c3 (with_use_at (size - 16) (Some Object))
      → AppendsBlock current c c3 extra × (gaps_in c3 ≡ gaps_in c)

-- a longer window of the same region: its front describes the tiles, and the added bytes are free to use
pub longer_window : (c : WindowState) (extra : ℕ) → IsHeap current c.bytes → 32 ≤ extra → extra % 16 ≡ 0
    → length c.bytes + extra ≤ 1073741824
    → length c.before + (length c.bytes + extra) ≤ length (whole c) → (size : ℕ) → size ≡ length c.bytes
    → (c1 : WindowState)
    → c1 ≡ cut_at (whole c) (length c.before) (size + extra)
    → LongerWindow c extra size c1
longer_window c extra heap long multiple small fits size s c1 e =
    let e1 : c1 ≡ cut_at (whole c) (length c.before) (length c.bytes + extra) = e
    ∙ ap (λ n. cut_at (whole c) (length c.before) (n + extra)) s in
    subst (λ n. LongerWindow c extra n c1) (sym s) (record {
      room = can_append c c1 extra heap long multiple small fits e1;
      used = λ c2 add. can_use c c1 extra heap long multiple small fits e1 add;
      block = λ c2 add c3 change. (
        has_block_behind c c1 extra heap long multiple small fits e1 add change,
        gaps3 c c1 extra heap long multiple small fits e1 add change,
      );
    })

-- ---- and the block is freed

-- the last of proper extents begins where the others end, or later
last_reaches : (from : ℕ) (xs : List Extent) (y : Extent) (to : ℕ) → IsTrue (proper_from from (xs ++ y ∷ []) to)
    → from ≤ y.offset
last_reaches from [] y to h = by_hole from y.offset (proper_from-IsFirst from y [] to h).hole
last_reaches from (x ∷ xs) y to h =
    let f = proper_from-IsFirst from x (xs ++ y ∷ []) to h in
    let on = last_reaches (end_of x) xs y to f.rest in let first = by_hole from x.offset f.hole in omega arith

-- the last extent is removed by its handle
pub others-last : (from : ℕ) (xs : List Extent) (y : Extent) (to : ℕ) → IsTrue (proper_from from (xs ++ y ∷ []) to)
    → others (handle y) (xs ++ y ∷ []) ≡ xs
others-last from [] y to h = others-here (handle y) y [] refl
others-last from (x ∷ xs) y to h =
    let f = proper_from-IsFirst from x (xs ++ y ∷ []) to h in
    let on = last_reaches (end_of x) xs y to f.rest in let long = f.block.long in
    others-past (handle y) x (xs ++ y ∷ []) (λ e. omega arith)
    ∙ ap (λ (zs : List Extent). x ∷ zs) (others-last (end_of x) xs y to f.rest)

-- and in use
pub live-last : (xs : List Extent) (y : Extent)
    → IsTrue (list_any (λ (x : Extent). handle x == handle y) (xs ++ y ∷ []))
live-last [] y = or_left (handle y == handle y) false (eq-eqb (handle y) (handle y) refl)
live-last (x ∷ xs) y = or_right (handle x == handle y)
    (list_any (λ (z : Extent). handle z == handle y) (xs ++ y ∷ [])) (live-last xs y)

-- bytes that encoded the block after all others encode the others after it is freed
module _ (old mid : WindowState) (extra at : ℕ) (b : AppendsBlock current old mid extra)
    (is : at + 16 ≡ length old.bytes) where
  abbrev live_mid : LiveSet
  live_mid = record {
    size = length old.bytes + extra;
    extents = (live_of old.bytes).extents ++ block_behind
        (length old.bytes) extra ∷ [];
  }

  mid_is : live_of mid.bytes ≡ record {
    size = length old.bytes + extra;
    extents = (live_of old.bytes).extents ++ block_behind (length old.bytes) extra ∷ [];
  }
  mid_is = lay_out_one current mid.bytes live_mid b.live

  handle_is : handle (block_behind (length old.bytes) extra) ≡ at + 16
  handle_is = omega arith

  -- the window with a block after all others is a heap
  pub behind_heap : IsHeap current mid.bytes
  behind_heap = laid-heap mid.bytes live_mid b.live

  -- the block after all others is in use
  pub behind_live : IsTrue (is_live_in (live_of mid.bytes) (at + 16))
  behind_live =
      rw mid_is (subst (λ h. IsTrue (list_any (λ (x : Extent). handle x == h) live_mid.extents)) handle_is
      (live-last (live_of old.bytes).extents (block_behind (length old.bytes) extra)))

  others_are : others (at + 16) (live_of mid.bytes).extents ≡ (live_of old.bytes).extents
  others_are =
      let p = is_proper-IsProper live_mid b.live.proper in
      ap (λ (l : LiveSet). others (at + 16) l.extents) mid_is
      ∙ subst (λ h. others h live_mid.extents ≡ (live_of old.bytes).extents) handle_is
      (others-last 128 (live_of old.bytes).extents (block_behind (length old.bytes) extra)
      (length old.bytes + extra - 16) p.list)

  module _ (new : WindowState) (r : Deallocates current mid new (at + 16)) where
    size_mid : length mid.bytes ≡ length old.bytes + extra
    size_mid = b.keeps.place.bytes

    live_new : released (live_of mid.bytes) (at + 16) ≡ of_size (live_of old.bytes) (length old.bytes + extra)
    live_new = let e = mid_is in let x = others_are in λ i. record { size = (e i).size; extents = x i }

    size_new : length new.bytes ≡ length mid.bytes
    size_new = r.live.size ∙ ap (λ (l : LiveSet). l.size) mid_is ∙ sym size_mid

    -- the end of the window moved by the bytes that were added
    pub end_moved : MovesEnd current old new (length old.bytes + extra)
    end_moved =
        record {
          live = subst (EncodesLiveSet current new.bytes) live_new r.live;
          keeps = keeps_to-then old mid new (length old.bytes + extra) (live_of old.bytes).extents b.keeps
              (subst (KeepsBlocks mid new) others_are r.keeps) size_new;
        }
